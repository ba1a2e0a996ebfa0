-- A row that was sent, and is taken out.
use Rattle.std.proofs.Common.{◌≡◌, List, Option, Some, None, Result, Ok, Err, IfOk, IfErr, IsSome, refl, sym, ◌∙◌, ap, subst}
use Rattle.sqlite.specs.State.{State, HasCleanDisk}
use Rattle.store_tables.proofs.WriteLemmas.{clean_before}
use Rattle.store_accounts.specs.Account.{Accounts, open_account_of, takes_out, with_user}
use Rattle.store_accounts.specs.Promises.{HasUser, WritesUser}
use Rattle.store_accounts.specs.Refusals.{IsTransient}
use Rattle.store_accounts.specs.Shows.{Presents}
use Rattle.store_accounts.specs.declared.next.QueueKey.{QueueKey}
use Rattle.store_accounts.specs.declared.queue.QueuedMessage.{QueuedMessage}
use Rattle.store_accounts.specs.declared.refusal.Refusal.{Refusal}
use Rattle.store_accounts.proofs.StandingLemmas.{has_there}
use Rattle.managesieve_sessions.specs.Acts.{Acts, HasAccounts}
use Rattle.managesieve_sessions.proofs.ActLemmas.{acts_made, acts_undone}
use Rattle.store_engine.proofs.TakingLemmas.{row_numbered}
use Rattle.store_engine.specs.AccountEvents as engine
use Rattle.store_engine.specs.AccountEvents.{TakesFromQueue}
use Rattle.store_engine.specs.declared.answer.Answer.TheVariants.{Taken}
use Rattle.smtp_send.specs.declared.queue.DueMessage.{DueMessage}
use Rattle.smtp_send.specs.declared.queue.TakenOut.{TakenOut}
use Rattle.smtp_send.specs.declared.queue.TakenOut.TheVariants.{Removed, Gone, Changed}
use Rattle.smtp_queue.specs.DueRows.{OutgoingHasOctets, HasRow, IsRowGone, IsRowAt, QueueReads, Sees, QueueTakesRow, QueueWorks}
use Rattle.smtp_queue.proofs.StoreLemmas.{works_as, works_seen}

-- the event's answer, of a row that is there
row_gone : (accounts : Accounts) (place : QueueKey) (row : QueuedMessage) → HasRow accounts place row → HasUser place.user accounts × IsRowGone place accounts (with_user accounts place.user (takes_out place.id))
row_gone accounts place row has =
    let later = with_user accounts place.user (takes_out place.id) in
    let numbered : row.id ≡ place.id = row_numbered place.id has.0.queue row has.2 in
    let takes : engine.TakesQueueRow accounts place.user (Some row) (Taken row) later = record { taken = refl; changed = ap (λ n. with_user accounts place.user (takes_out n)) (sym numbered) } in
    let found = subst (λ x. engine.TakesQueueRow accounts place.user x (Taken row) later) (sym has.2) takes in (
      has_there accounts place.user (subst IsSome (sym has.1) refl),
      (Taken row, subst (λ x. TakesFromQueue accounts place.user place.id x (Taken row) later) (sym has.1) found),
    )

module _ (place : QueueKey) (sent : DueMessage) (a b : State) (r : Result (Option QueuedMessage) Refusal) (sees : Sees (IsRowAt place) a b r) where
  -- no account changed
  stays : (q : Result TakenOut Refusal) → ((accounts : Accounts) → IfOk r (IsRowAt place accounts) → QueueTakesRow place sent q accounts accounts) → QueueWorks (QueueTakesRow place sent q) a b
  stays q turn =
      works_as a b (QueueReads (IsRowAt place) r) (QueueTakesRow place sent q)
      (λ accounts later h. subst (QueueTakesRow place sent q accounts) (sym h.0) (turn accounts h.1)) (works_seen a b r (IsRowAt place) sees)

  pub unseen : (e : Refusal) (q : Result TakenOut Refusal) → q ≡ Err e → QueueWorks (QueueTakesRow place sent q) a b
  unseen e q is = stays q (λ accounts at. subst (λ o. QueueTakesRow place sent o accounts accounts) (sym is) refl)

  -- no row was there
  pub missing : r ≡ Ok None → QueueWorks (QueueTakesRow place sent (Ok Gone)) a b
  missing is = stays (Ok Gone) (λ accounts at. (subst (λ o. IfOk o (IsRowAt place accounts)) is at, refl))

  module _ (row : QueuedMessage) (is : r ≡ Ok (Some row)) where
    has_row : (accounts : Accounts) → IfOk r (IsRowAt place accounts) → HasRow accounts place row
    has_row accounts at = subst (λ o. IfOk o (IsRowAt place accounts)) is at

    -- another one was
    pub other : (OutgoingHasOctets sent row → ⊥) → QueueWorks (QueueTakesRow place sent (Ok Changed)) a b
    other differs = stays (Ok Changed) (λ accounts at. ((row, has_row accounts at, differs), refl))

    -- it was, and is taken out or isn't
    module _ (octets : OutgoingHasOctets sent row) (c : State) (w : Result (Unit {0}) Refusal) (late : WritesUser place.user (takes_out place.id) b c w) where
      abbrev Anyhow : Accounts → Accounts → Type 0
      Anyhow accounts later = Unit {0}

      gone : HasCleanDisk b → (accounts : Accounts) → Presents a.now accounts → HasRow accounts place row × HasUser place.user accounts × IsRowGone place accounts (with_user accounts place.user (takes_out place.id))
      gone clean accounts p =
          let has = has_row accounts (sees.found clean accounts p) in
          let it = row_gone accounts place row has in
          (has, it.0, it.1)

      made : (done : Unit {0}) → w ≡ Ok done → Acts {X = TakenOut} (λ accounts later. QueueTakesRow place sent (Ok Removed) accounts later) Anyhow a c (Ok Removed)
      made done was =
          acts_made a b c r (Some row) is sees.keeps (HasUser place.user) (λ all. with_user all place.user (takes_out place.id)) w late.made late.settled (λ clean tables. late.same clean) late.crash
          (λ accounts later. QueueTakesRow place sent (Ok Removed) accounts later) Anyhow done Removed was
          (λ clean accounts p. let it = gone clean accounts p in (it.1, ((row, it.0, octets), it.2), tt))

      undone : (e : Refusal) → w ≡ Err e → IsTransient e → Acts {X = TakenOut} (λ accounts later. later ≡ accounts) Anyhow a c (Err e)
      undone e was transient =
          acts_undone a b c r (Some row) is sees.keeps (HasUser place.user) (λ all. with_user all place.user (takes_out place.id)) w late.made late.settled (λ clean tables. late.same clean) late.crash (λ accounts later. later ≡ accounts) Anyhow
          e (Err e) was (λ told. told transient) (λ accounts. refl) (λ clean accounts p. let it = gone clean accounts p in (it.1, tt))

      pub removed : (done : Unit {0}) → w ≡ Ok done → QueueWorks (QueueTakesRow place sent (Ok Removed)) a c
      removed done was = let acts = made done was in record { carries = acts.carries; clean = clean_before a c _ acts.crash }

      pub not_removed : (e : Refusal) → w ≡ Err e → (q : Result TakenOut Refusal) → q ≡ Err e → QueueWorks (QueueTakesRow place sent q) a c
      not_removed e was q told =
          let transient : IsTransient e = named w was late.named in
          let acts = undone e was transient in
          subst (λ o. QueueWorks (QueueTakesRow place sent o) a c) (sym told) (record { carries = acts.carries; clean = clean_before a c _ acts.crash })
        where
          named : (o : Result (Unit {0}) Refusal) → o ≡ Err e → IfErr o IsTransient → IsTransient e
          named o at is = subst (λ x. IfErr x IsTransient) at is
