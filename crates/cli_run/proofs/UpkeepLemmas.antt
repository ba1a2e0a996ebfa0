-- What keeping an account up comes to: it was done, or it is refused and no account changed.
use Rattle.std.proofs.Common.{◌≡◌, ◌⊎◌, List, Option, Some, None, Result, Ok, Err, Bool, true, false, not, ◌&&◌, MatchBool, ℕ, refl, sym, subst, inl, inr}
use Rattle.std.specs.FinMap.{get}
use Rattle.store_accounts.specs.Account.{Account, Accounts, changes_address, closes, changes_password, is_closed_account, has_mail, open_one, known_one, opens, removes, takes_notices}
use Rattle.store_accounts.specs.declared.refusal.Refusal.{Refusal}
use Rattle.store_accounts.specs.declared.refusal.Refusal.TheVariants.{NoUser, BadUser, UserIsOpen, UserHasMail}
use Rattle.store_engine.specs.declared.answer.Answer.{Answer}
use Rattle.store_engine.specs.declared.answer.Answer.TheVariants as answer
use Rattle.store_engine.specs.declared.event.Event.TheVariants.{DoUpkeep}
use Rattle.store_engine.specs.declared.upkeep.Upkeep.{Upkeep}
use Rattle.store_engine.specs.declared.upkeep.Upkeep.TheVariants as upkeep
use Rattle.store_engine.specs.Hosts.{TurnsBy, MayRefuseKeeping}
use Rattle.store_engine.specs.Upkeep.{rounds, kept_password, Alters, OnlyAnswers, InAccount, OpensClosed, Removes, DoesUpkeep, Keeping, put_instead}
use Rattle.store_engine.specs.World.{Next}
use Rattle.store_engine.proofs.HostLemmas.{keeping_may}
use Rattle.cli_run.specs.declared.fault.RunFault.{RunFault}
use Rattle.cli_run.specs.declared.fault.RunFault.TheVariants.{Refused}
use Rattle.cli_run.specs.Promise.{world_of_accounts}
use Rattle.cli_run.specs.Subcommands.{IsDoneBy, IsPlainUpkeep, Puts, upkeep_answer}
use Rattle.cli_run.proofs.WordLemmas.{next_by, refused_by}

-- an answer that is this one, or a refusal with which nothing changes
abbrev IsOr : Answer → Answer → Option Account → Type 0
IsOr done said change = (said ≡ done) ⊎ ((refusal : Refusal) × (said ≡ answer.Refused refusal) × (change ≡ None))

-- of the account that is found
in_account : (done : Answer) (o : Option Account) (Row : Account → Answer → Option Account → Type 0) (said : Answer) (change : Option Account) → ((a : Account) → Row a said change → IsOr done said change)
    → InAccount o Row said change → IsOr done said change
in_account done None Row said change by h = inr (NoUser, h.says, h.stays)
in_account done (Some a) Row said change by h = by a h

opens_or : (a : Account) (said : Answer) (change : Option Account) → OpensClosed a said change → IsOr answer.Opened said change
opens_or a said change h = by (is_closed_account a) h
  where
    by : (closed : Bool) → MatchBool closed (Alters answer.Opened (opens rounds a) said change) (OnlyAnswers (answer.Refused UserIsOpen) said change) → IsOr answer.Opened said change
    by true h = inl h.says
    by false h = inr (UserIsOpen, h.says, h.stays)

removes_or : (mail : Bool) (a : Account) (said : Answer) (change : Option Account) → Removes mail a said change → IsOr answer.Removed said change
removes_or mail a said change h = by (not mail && has_mail a) h
  where
    by : (kept : Bool) → MatchBool kept (OnlyAnswers (answer.Refused UserHasMail) said change) (Alters answer.Removed (removes a) said change) → IsOr answer.Removed said change
    by true h = inr (UserHasMail, h.says, h.stays)
    by false h = inl h.says

-- a row of the table, but for that of a script
pub keeps_or : (act : Upkeep) → IsPlainUpkeep act → (o : Option Account) (said : Answer) (change : Option Account) → DoesUpkeep act o said change → IsOr (upkeep_answer act) said change
keeps_or (upkeep.SetPassword salt password) plain o said change (inl h) = in_account answer.Changed (open_one o) (λ a. Alters answer.Changed (changes_password (kept_password salt password) a)) said change (λ a row. inl row.says) h.1
keeps_or (upkeep.SetPassword salt password) plain o said change (inr h) = inr (BadUser, h.1.says, h.1.stays)
keeps_or (upkeep.SetAddress address) plain o said change (inl h) = in_account answer.Changed (open_one o) (λ a. Alters answer.Changed (changes_address address a)) said change (λ a row. inl row.says) h.1
keeps_or (upkeep.SetAddress address) plain o said change (inr h) = inr (BadUser, h.1.says, h.1.stays)
keeps_or (upkeep.StoreScript name text activate) plain o said change h = absurd plain
keeps_or (upkeep.EditScripts edit) plain o said change h = absurd plain
keeps_or upkeep.CloseAccount plain o said change h = in_account answer.Closed (open_one o) (λ a. Alters answer.Closed (closes a)) said change (λ a row. inl row.says) h
keeps_or upkeep.OpenAccount plain o said change h = in_account answer.Opened (known_one o) OpensClosed said change (λ a row. opens_or a said change row) h
keeps_or (upkeep.RemoveAccount mail) plain o said change h = in_account answer.Removed (known_one o) (Removes mail) said change (λ a row. removes_or mail a said change row) h
keeps_or (upkeep.TakeNotices until) plain o said change h = in_account answer.NoticesTaken (open_one o) (λ a. Alters answer.NoticesTaken (takes_notices until a)) said change (λ a row. inl row.says) h

module _ (Denied : RunFault → Type 0) (user : List ℕ) (act : Upkeep) (plain : IsPlainUpkeep act) where
  abbrev KeepRow : Accounts → Answer → Accounts → Type 0
  KeepRow accounts = Keeping accounts user act

  abbrev KeepMay : Refusal → Type 0
  KeepMay = MayRefuseKeeping act

  kept_same : (accounts later : Accounts) (refusal : Refusal) → KeepRow accounts (answer.Refused refusal) later → later ≡ accounts
  kept_same accounts later refusal h =
      elim (keeps_or act plain (get accounts user) (answer.Refused refusal) h.0 h.1) [
        | inl is ↦ absurd (not_refused act plain refusal is)
        | inr is ↦ subst (λ change. later ≡ put_instead change user accounts) is.2 h.2
      ]
    where
      not_refused : (act : Upkeep) → IsPlainUpkeep act → (refusal : Refusal) → answer.Refused refusal ≡ upkeep_answer act → ⊥
      not_refused (upkeep.StoreScript name text activate) plain refusal is = absurd plain
      not_refused (upkeep.EditScripts edit) plain refusal is = absurd plain
      not_refused act plain refusal is = let no = is in cc

  done_so : (accounts later : Accounts) (said : Answer) → ((refusal : Refusal) → said ≡ answer.Refused refusal → ⊥) → TurnsBy KeepRow KeepMay said accounts later → said ≡ upkeep_answer act
  done_so accounts later said other (inl row) = elim (keeps_or act plain (get accounts user) said row.0 row.1) [ inl is ↦ is | inr is ↦ absurd (other is.0 is.1) ]
  done_so accounts later said other (inr h) = absurd (other h.0 h.2)

  -- the act, put to the machine
  pub kept_put : (said : Answer) (r : Result (Unit {0}) RunFault) → IsDoneBy said r → (accounts later : Accounts) → TurnsBy KeepRow KeepMay said accounts later → Puts Denied (DoUpkeep user act) (λ done. upkeep_answer act) r accounts later
  kept_put (answer.Refused refusal) r is accounts later turned =
      subst (λ o. Puts Denied (DoUpkeep user act) (λ done. upkeep_answer act) o accounts later) (sym is)
      (refused_by (DoUpkeep user act) KeepRow KeepMay (λ all then said row. (then, row, refl)) (λ all. keeping_may user act (world_of_accounts all)) kept_same {X = Unit {0}} Denied (λ done. upkeep_answer act) refusal accounts later turned)
  kept_put said r is accounts later turned =
      subst (λ o. Puts Denied (DoUpkeep user act) (λ done. upkeep_answer act) o accounts later) (sym is)
      (subst (λ a. Next (world_of_accounts accounts) (DoUpkeep user act) a (world_of_accounts later)) (done_so accounts later said (λ refusal e. let no = e in cc) turned)
      (next_by (DoUpkeep user act) KeepRow KeepMay (λ all then said row. (then, row, refl)) (λ all. keeping_may user act (world_of_accounts all)) kept_same said accounts later turned))
