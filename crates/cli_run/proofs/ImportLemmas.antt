-- What the account of a text comes to: it was added, or refused, and no account changed; or it was no text of an account.
use Rattle.std.proofs.Common.{◌≡◌, Bool, true, false, ℕ, List, Option, Some, None, Result, Ok, Err, MatchBool, refl, sym, ap, ◌∙◌, subst, inl, inr}
use Rattle.std.specs.FinMap.{get}
use Rattle.store_text.specs.declared.account_file.AccountFile.{AccountFile}
use Rattle.store_text.specs.declared.head.AccountHead.{AccountHead}
use Rattle.store_text.specs.declared.part.Part.{Part}
use Rattle.sqlite.specs.Effect.{Database}
use Rattle.store_accounts.specs.Account.{Account, Accounts, has_mail, is_closed_account}
use Rattle.store_accounts.specs.declared.refusal.Refusal.{Refusal}
use Rattle.store_accounts.specs.declared.refusal.Refusal.TheVariants.{UserExists, UserHasMail}
use Rattle.store_engine.specs.AccountEvents.{Importing, ImportsUnder, MachineRefuses, Replaces}
use Rattle.store_engine.specs.Hosts.{MayRefuseImport, TurnsBy}
use Rattle.store_engine.proofs.HostLemmas.{importing_may}
use Rattle.store_engine.specs.declared.answer.Answer.{Answer}
use Rattle.store_engine.specs.declared.answer.Answer.TheVariants as answer
use Rattle.store_engine.specs.declared.event.Event.TheVariants.{Import}
use Rattle.cli_run.specs.declared.fault.RunFault.{RunFault}
use Rattle.cli_run.specs.declared.fault.RunFault.TheVariants.{Refused}
use Rattle.cli_run.specs.Promise.{world_of_accounts}
use Rattle.cli_run.specs.Streams.{InputFailed}
use Rattle.cli_run.specs.Subcommands.{IsImportEvent, DoesEvent, DoesImport, IsNotRead, Puts}
use Rattle.cli_run.proofs.WordLemmas.{broken, event_hindered, kept_same, next_by, refused_by, stays_turned, turned_wider}
use Rattle.cli_run.specs.Transitions.{from_to}

-- where the machine refuses it, no account changes
imports_kept : (head : AccountHead) (parts : List Part) (accounts later : Accounts) (refusal : Refusal) → Importing accounts head parts (answer.Refused refusal) later → later ≡ accounts
imports_kept head parts accounts later refusal = go
  where
    over : (closed full : Bool) → MatchBool closed (MatchBool full (MachineRefuses UserHasMail accounts (answer.Refused refusal) later) (Replaces accounts head parts (answer.Refused refusal) later)) (MachineRefuses UserExists accounts (answer.Refused refusal) later) → later ≡ accounts
    over true true h = h.stays
    over true false h = absurd (let no = h.imported in cc)
    over false full h = h.stays

    by : (o : Option Account) → ImportsUnder accounts head parts o (answer.Refused refusal) later → later ≡ accounts
    by None h = absurd (let no = h.imported in cc)
    by (Some a) h = over (is_closed_account a) (has_mail a) h

    go : Importing accounts head parts (answer.Refused refusal) later → later ≡ accounts
    go (inl h) = by (get accounts head.owner.name) h.1
    go (inr h) = h.1.stays

module _ (Denied : RunFault → Type 0) (file : AccountFile) where
  abbrev Row : Accounts → Answer → Accounts → Type 0
  Row accounts = Importing accounts file.head file.parts

  abbrev May : Refusal → Type 0
  May = MayRefuseImport file.head file.parts

  pub import_made : (done : Unit {0}) (accounts later : Accounts) → TurnsBy Row May answer.Imported accounts later → Puts Denied (Import file) (λ x. answer.Imported) (Ok done) accounts later
  import_made done = next_by (Import file) Row May (λ accounts later said row. (later, row, refl)) (λ accounts. importing_may file (world_of_accounts accounts)) (imports_kept file.head file.parts) answer.Imported

  pub import_refused : (refusal : Refusal) (accounts later : Accounts) → TurnsBy Row May (answer.Refused refusal) accounts later → Puts {X = Unit {0}} Denied (Import file) (λ x. answer.Imported) (Err (Refused refusal)) accounts later
  import_refused = refused_by (Import file) Row May (λ accounts later said row. (later, row, refl)) (λ accounts. importing_may file (world_of_accounts accounts)) (imports_kept file.head file.parts) {X = Unit {0}} Denied (λ x. answer.Imported)

module _ (Denied : RunFault → Type 0) (name given : Option (List ℕ)) where
  -- the word ended as one that is an event does
  pub import_as_event : (old out : Option (List ℕ)) (held new : Database) (r : Result (Unit {0}) RunFault) → DoesEvent InputFailed ⊥ Denied (IsImportEvent name given) (from_to old out) r (from_to held new) → DoesImport Denied name given (from_to old out) r (from_to held new)
  import_as_event old out held new r does = turned_wider _ _ held new (λ accounts later h. inl h) does

  -- no account was read
  pub import_unread : (out : Option (List ℕ)) (held : Database) (fault : RunFault) (r : Result (Unit {0}) RunFault) → r ≡ Err fault → IsNotRead given fault → DoesImport Denied name given (from_to out out) r (from_to held held)
  import_unread out held fault r is (inl lacks) = import_as_event out out held held r (event_hindered InputFailed ⊥ Denied (IsImportEvent name given) out held fault r is (inl lacks))
  import_unread out held fault r is (inr (inl failed)) =
      import_as_event out out held held r (event_hindered InputFailed ⊥ Denied (IsImportEvent name given) out held fault r is (broken InputFailed ⊥ Denied fault failed.0 failed.1))
  import_unread out held fault r is (inr (inr none)) =
      stays_turned _ held held refl (λ accounts. inr (record { none = none.1; told = is ∙ ap Err none.0; stays = refl; silent = kept_same out }))
