-- A row taken out: the reads, and then the write.
use Rattle.std.proofs.Common.{◌≡◌, ◌==◌, ◌⊎◌, ℕ, Bool, true, false, cond, List, [], ◌∷◌, Option, Some, None, Ok, Err, Result, IfOk, IsSome, refl, sym, ap, ◌∙◌, subst, inl, inr, eqb-true}
use Rattle.sqlite.specs.State.{State, HasCleanDisk}
use Rattle.store_accounts.specs.declared.queue.QueuedMessage.{QueuedMessage}
use Rattle.store_accounts.specs.declared.refusal.Refusal.{Refusal}
use Rattle.store_accounts.specs.declared.refusal.Refusal.TheVariants.{NoUser, NoRow}
use Rattle.store_accounts.specs.Account.{Account, Accounts, with_user, takes_out}
use Rattle.store_accounts.specs.Promises.{HasUser, HasNoOpen, OfOpen, WritesUser}
use Rattle.store_accounts.proofs.StandingLemmas.{has_there}
use Rattle.store_accounts.specs.Refusals.{IsTransient}
use Rattle.store_accounts.specs.Shows.{Presents}
use Rattle.managesieve_sessions.specs.Acts.{HasAccounts}
use Rattle.managesieve_sessions.proofs.ActLemmas.{glanced, read_shows, acts_read, acts_made, acts_undone}
use Rattle.store_engine.specs.declared.answer.Answer.{Answer}
use Rattle.store_engine.specs.declared.answer.Answer.TheVariants.{Taken, Refused}
use Rattle.store_accounts.specs.Account.{row_with}
use Rattle.store_engine.specs.AccountEvents.{TakesQueueRow, TakesFromQueue, Taking}
use Rattle.store_engine.specs.Hosts.{TurnsBy, MayTurnBy, ActsTaking}
use Rattle.store_engine.specs.Lookups.{LooksUp}

-- the row that is found has the number
pub row_numbered : (id : ℕ) (rows : List QueuedMessage) (row : QueuedMessage) → row_with id rows ≡ Some row → row.id ≡ id
row_numbered id [] row is = absurd (let no = is in cc)
row_numbered id (first ∷ more) row is = go (first.id == id) refl is (row_numbered id more row)
  where
    go : (b : Bool) → (first.id == id) ≡ b → cond b (Some first) (row_with id more) ≡ Some row → (row_with id more ≡ Some row → row.id ≡ id) → row.id ≡ id
    go true at e later = let same : first ≡ row = cc in ap (λ (r : QueuedMessage). r.id) (sym same) ∙ eqb-true first.id id at
    go false at e later = later e

module _ (user : List ℕ) (id : ℕ) where
  abbrev Row : Accounts → Answer → Accounts → Type 0
  Row accounts = Taking accounts user id

  abbrev Found : Option QueuedMessage → Account → Type 0
  Found row account = row ≡ row_with id account.queue

  transient_turn : (e : Refusal) (accounts : Accounts) → IsTransient e → TurnsBy Row IsTransient (Refused e) accounts accounts
  transient_turn e accounts transient = inr (e, transient, refl, refl)

  absent_turn : (accounts : Accounts) → HasNoOpen user accounts → TurnsBy Row IsTransient (Refused NoUser) accounts accounts
  absent_turn accounts free = inl (subst (λ o. TakesFromQueue accounts user id o (Refused NoUser) accounts) (sym free) (record { refused = refl; stays = refl }))

  -- the row couldn't be read
  pub taking_unread : (a b : State) (e : Refusal) (q : Result QueuedMessage Refusal) → q ≡ Err e → LooksUp user Found a b (Err e) → ActsTaking user id a b q
  taking_unread a b e q is look = subst (λ o. ActsTaking user id a b o) (sym is)
      (acts_read a b (TurnsBy Row IsTransient (Refused e)) (MayTurnBy Row) (Err e) (λ clean open_before. tt) (glanced a b (Err e) look.reads.keeps) (λ clean accounts shown. turn clean accounts shown look.reads.named))
    where
      turn : HasCleanDisk b → (accounts : Accounts) → HasAccounts a accounts → (e ≡ NoUser) ⊎ IsTransient e → TurnsBy Row IsTransient (Refused e) accounts accounts
      turn clean accounts shown (inl absent) =
          subst (λ f. TurnsBy Row IsTransient (Refused f) accounts accounts) (sym absent) (absent_turn accounts (look.reads.absent clean accounts (shown (look.sure clean absent)) absent))
      turn clean accounts shown (inr transient) = transient_turn e accounts transient

  module _ (a b : State) (r : Result (Option QueuedMessage) Refusal) (o : Option QueuedMessage) (was : r ≡ Ok o) (look : LooksUp user Found a b r) where
    found : HasCleanDisk b → (accounts : Accounts) → Presents a.now accounts → OfOpen accounts user (Found o)
    found clean accounts p = subst (λ q. IfOk q (λ x. OfOpen accounts user (Found x))) was (look.reads.found clean accounts p)

    -- what the row of the event is, by the row that was found
    by_row : (answer : Answer) (later accounts : Accounts) → OfOpen accounts user (Found o) → TakesQueueRow accounts user o answer later → Row accounts answer later
    by_row answer later accounts own takes = subst (λ x. TakesFromQueue accounts user id x answer later) (sym own.1) (subst (λ x. TakesQueueRow accounts user x answer later) own.2 takes)

    -- no row has the number
    pub taking_none : o ≡ None → ActsTaking user id a b (Err NoRow)
    taking_none is = acts_read a b (TurnsBy Row IsTransient (Refused NoRow)) (MayTurnBy Row) (Err NoRow) (λ clean open_before. tt) (glanced a b r look.reads.keeps)
        (λ clean accounts shown.
        let p = (read_shows a b r o was look.reads.keeps clean accounts shown).0 in
        inl (by_row (Refused NoRow) accounts accounts (found clean accounts p) (subst (λ x. TakesQueueRow accounts user x (Refused NoRow) accounts) (sym is) (record { refused = refl; stays = refl }))))

    module _ (row : QueuedMessage) (is : o ≡ Some row) (c : State) (w : Result (Unit {0}) Refusal) (late : WritesUser user (takes_out id) b c w) where
      fits : HasCleanDisk b → (accounts : Accounts) → Presents a.now accounts → HasUser user accounts × Row accounts (Taken row) (with_user accounts user (takes_out id))
      fits clean accounts p =
          let own = found clean accounts p in
          let numbered : row.id ≡ id = row_numbered id own.0.queue row (sym own.2 ∙ is) in (
            has_there accounts user (subst IsSome (sym own.1) refl),
            by_row (Taken row) (with_user accounts user (takes_out id)) accounts own
                (subst (λ x. TakesQueueRow accounts user x (Taken row) (with_user accounts user (takes_out id))) (sym is) (record { taken = refl; changed = ap (λ n. with_user accounts user (takes_out n)) (sym numbered) })),
          )

      pub taking_made : (y : Unit {0}) → w ≡ Ok y → ActsTaking user id a c (Ok row)
      taking_made y done =
          acts_made a b c r o was look.reads.keeps (HasUser user) (λ all. with_user all user (takes_out id)) w late.made late.settled (λ clean tables. late.same clean) late.crash (TurnsBy Row IsTransient (Taken row)) (MayTurnBy Row) y row done
          (λ clean accounts p. let f = fits clean accounts p in (f.0, inl f.1, (Taken row, f.1)))

      pub taking_undone : (e : Refusal) (q : Result QueuedMessage Refusal) → w ≡ Err e → q ≡ Err e → IsTransient e → ActsTaking user id a c q
      taking_undone e q refused same transient = subst (λ o. ActsTaking user id a c o) (sym same)
          (acts_undone a b c r o was look.reads.keeps (HasUser user) (λ all. with_user all user (takes_out id)) w late.made late.settled (λ clean tables. late.same clean) late.crash (TurnsBy Row IsTransient (Refused e)) (MayTurnBy Row) e (Err e) refused
          (λ told. told transient) (λ accounts. transient_turn e accounts transient) (λ clean accounts p. let f = fits clean accounts p in (f.0, (Taken row, f.1))))
