-- A message taken out of a folder: the reads, and then the write.
use Rattle.std.proofs.Common.{◌≡◌, ◌⊎◌, ℕ, List, [], ◌∷◌, Option, Some, None, Ok, Err, Result, IfOk, IfErr, IsSome, refl, sym, subst, inl, inr}
use Rattle.sqlite.specs.State.{State, HasCleanDisk}
use Rattle.store_accounts.specs.declared.taking.NumberedMessage.{NumberedMessage}
use Rattle.store_accounts.specs.declared.refusal.Refusal.{Refusal}
use Rattle.store_accounts.specs.declared.refusal.Refusal.TheVariants.{NoUser, NoRow}
use Rattle.store_accounts.specs.Account.{Account, Accounts, with_user, messages_in, takes_mail}
use Rattle.store_accounts.specs.CopyRows.{HasFirst, IsFirstIn}
use Rattle.store_accounts.specs.Promises.{HasUser, HasNoOpen, OfOpen, WritesAccount}
use Rattle.store_accounts.proofs.StandingLemmas.{has_there}
use Rattle.store_accounts.specs.Refusals.{IsTransient}
use Rattle.store_accounts.specs.Shows.{Presents}
use Rattle.managesieve_sessions.specs.Acts.{HasAccounts}
use Rattle.managesieve_sessions.proofs.ActLemmas.{glanced, read_shows, acts_read, acts_made, acts_undone}
use Rattle.store_engine.specs.declared.answer.Answer.{Answer}
use Rattle.store_engine.specs.declared.answer.Answer.TheVariants.{MailTaken, Refused}
use Rattle.store_engine.specs.AccountEvents.{TakesFirst, TakesMailIn, MailTaking}
use Rattle.store_engine.specs.Hosts.{TurnsBy, MayTurnBy, ActsMailTaking}
use Rattle.store_engine.specs.Lookups.{LooksUp}

module _ (user folder : List ℕ) where
  abbrev Row : Accounts → Answer → Accounts → Type 0
  Row accounts = MailTaking accounts user folder

  abbrev First : Option NumberedMessage → Account → Type 0
  First = IsFirstIn folder

  transient_turn : (e : Refusal) (accounts : Accounts) → IsTransient e → TurnsBy Row IsTransient (Refused e) accounts accounts
  transient_turn e accounts transient = inr (e, transient, refl, refl)

  absent_turn : (accounts : Accounts) → HasNoOpen user accounts → TurnsBy Row IsTransient (Refused NoUser) accounts accounts
  absent_turn accounts free = inl (subst (λ o. TakesMailIn accounts user folder o (Refused NoUser) accounts) (sym free) (record { refused = refl; stays = refl }))

  -- the message couldn't be read
  pub mail_unread : (a b : State) (e : Refusal) (q : Result (Unit {0}) Refusal) → q ≡ Err e → LooksUp user First a b (Err e) → ActsMailTaking user folder a b q
  mail_unread a b e q is look = subst (λ o. ActsMailTaking user folder a b o) (sym is)
      (acts_read a b (TurnsBy Row IsTransient (Refused e)) (MayTurnBy Row) (Err e) (λ clean open_before. tt) (glanced a b (Err e) look.reads.keeps) (λ clean accounts shown. turn clean accounts shown look.reads.named))
    where
      turn : HasCleanDisk b → (accounts : Accounts) → HasAccounts a accounts → (e ≡ NoUser) ⊎ IsTransient e → TurnsBy Row IsTransient (Refused e) accounts accounts
      turn clean accounts shown (inl absent) =
          subst (λ f. TurnsBy Row IsTransient (Refused f) accounts accounts) (sym absent) (absent_turn accounts (look.reads.absent clean accounts (shown (look.sure clean absent)) absent))
      turn clean accounts shown (inr transient) = transient_turn e accounts transient

  -- the messages of the folder, where the first was found or none
  none_first : (accounts : Accounts) (messages : List (List ℕ)) → HasFirst None messages → TakesFirst accounts user folder messages (Refused NoRow) accounts
  none_first accounts [] is = record { refused = refl; stays = refl }
  none_first accounts (message ∷ more) is = absurd (let no = is in cc)

  some_first : (accounts : Accounts) (first : NumberedMessage) (messages : List (List ℕ)) → HasFirst (Some first) messages → TakesFirst accounts user folder messages MailTaken (with_user accounts user (takes_mail folder 1))
  some_first accounts first [] is = absurd (let no = is in cc)
  some_first accounts first (message ∷ more) is = record { taken = refl; changed = refl }

  module _ (a b : State) (r : Result (Option NumberedMessage) Refusal) (first : Option NumberedMessage) (was : r ≡ Ok first) (look : LooksUp user First a b r) where
    found : HasCleanDisk b → (accounts : Accounts) → Presents a.now accounts → OfOpen accounts user (First first)
    found clean accounts p = subst (λ q. IfOk q (λ x. OfOpen accounts user (First x))) was (look.reads.found clean accounts p)

    -- the folder has no message
    pub mail_none : first ≡ None → ActsMailTaking user folder a b (Err NoRow)
    mail_none is = acts_read a b (TurnsBy Row IsTransient (Refused NoRow)) (MayTurnBy Row) (Err NoRow) (λ clean open_before. tt) (glanced a b r look.reads.keeps)
        (λ clean accounts shown.
        let own = found clean accounts (read_shows a b r first was look.reads.keeps clean accounts shown).0 in
        inl (subst (λ o. TakesMailIn accounts user folder o (Refused NoRow) accounts) (sym own.1) (none_first accounts (messages_in own.0.folders folder) (subst (λ f. HasFirst f (messages_in own.0.folders folder)) is own.2.message))))

    module _ (message : NumberedMessage) (is : first ≡ Some message) (c : State) (w : Result (Unit {0}) Refusal) (late : WritesAccount user (takes_mail folder 1) b c w) where
      fits : HasCleanDisk b → (accounts : Accounts) → Presents a.now accounts → HasUser user accounts × Row accounts MailTaken (with_user accounts user (takes_mail folder 1))
      fits clean accounts p =
          let own = found clean accounts p in (
            has_there accounts user (subst IsSome (sym own.1) refl),
            subst (λ o. TakesMailIn accounts user folder o MailTaken (with_user accounts user (takes_mail folder 1))) (sym own.1)
                (some_first accounts message (messages_in own.0.folders folder) (subst (λ f. HasFirst f (messages_in own.0.folders folder)) is own.2.message)),
          )

      pub mail_made : (y : Unit {0}) (q : Result (Unit {0}) Refusal) → w ≡ Ok y → q ≡ Ok y → ActsMailTaking user folder a c q
      mail_made y q done same = subst (λ o. ActsMailTaking user folder a c o) (sym same)
          (acts_made a b c r first was look.reads.keeps (HasUser user) (λ all. with_user all user (takes_mail folder 1)) w late.made late.settled late.same late.crash (TurnsBy Row IsTransient MailTaken) (MayTurnBy Row) y y done
          (λ clean accounts p. let f = fits clean accounts p in (f.0, inl f.1, (MailTaken, f.1))))

      pub mail_undone : (e : Refusal) (q : Result (Unit {0}) Refusal) → w ≡ Err e → q ≡ Err e → IsTransient e → ActsMailTaking user folder a c q
      mail_undone e q refused same transient = subst (λ o. ActsMailTaking user folder a c o) (sym same)
          (acts_undone a b c r first was look.reads.keeps (HasUser user) (λ all. with_user all user (takes_mail folder 1)) w late.made late.settled late.same late.crash (TurnsBy Row IsTransient (Refused e)) (MayTurnBy Row) e (Err e) refused
          (λ told. told transient) (λ accounts. transient_turn e accounts transient) (λ clean accounts p. let f = fits clean accounts p in (f.0, (MailTaken, f.1))))

      -- whatever the write answers
      pub mail_written : IfErr w IsTransient → ActsMailTaking user folder a c w
      mail_written transient = go w refl transient
        where
          go : (o : Result (Unit {0}) Refusal) → w ≡ o → IfErr o IsTransient → ActsMailTaking user folder a c w
          go (Ok y) same named = mail_made y w same same
          go (Err e) same named = mail_undone e w same same named
