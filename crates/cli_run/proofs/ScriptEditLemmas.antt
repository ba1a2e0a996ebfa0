-- What a change of a user's scripts comes to: it was made; or something stands against it, or it is refused, and no account changed.
use Rattle.std.proofs.Common.{◌≡◌, ◌⊎◌, ℕ, List, Option, Some, None, Result, Ok, Err, refl, sym, subst, inl, inr}
use Rattle.std.specs.FinMap.{get}
use Rattle.sqlite.specs.Effect.{Database}
use Rattle.store_accounts.specs.Account.{Account, Accounts, open_one}
use Rattle.store_accounts.specs.declared.refusal.Refusal.{Refusal}
use Rattle.store_accounts.specs.declared.refusal.Refusal.TheVariants.{NoUser, BadScriptName}
use Rattle.store_engine.specs.declared.answer.Answer.{Answer}
use Rattle.store_engine.specs.declared.answer.Answer.TheVariants as answer
use Rattle.store_engine.specs.declared.event.Event.{Event}
use Rattle.store_engine.specs.declared.script_edit.ScriptEdit.{ScriptEdit}
use Rattle.store_engine.specs.declared.script_edit.ScriptObjection.{ScriptObjection}
use Rattle.store_engine.specs.declared.upkeep.Upkeep.{Upkeep}
use Rattle.store_engine.specs.declared.upkeep.Upkeep.TheVariants as upkeep
use Rattle.store_engine.specs.Hosts.{TurnsBy, MayRefuseKeeping}
use Rattle.store_engine.specs.ScriptEdits.{objection_to}
use Rattle.store_engine.specs.Upkeep.{InAccount, DoesUpkeep, Edits, EditsUnless, Keeping, put_instead}
use Rattle.store_engine.specs.World.{Next}
use Rattle.store_engine.proofs.HostLemmas.{keeping_may}
use Rattle.cli_reports.specs.Reports.{ended_line}
use Rattle.cli_run.specs.declared.fault.RunFault.{RunFault}
use Rattle.cli_run.specs.declared.fault.RunFault.TheVariants.{Refused}
use Rattle.cli_run.specs.Draining.{TurnsTables}
use Rattle.cli_run.specs.EditReports.{IsEditedBy, edit_text}
use Rattle.cli_run.specs.Faults.{IsHindered, IsPrinted}
use Rattle.cli_run.specs.Promise.{world_of_accounts}
use Rattle.cli_run.specs.Subcommands.{DoesEdit, FinishesPrinted, MakesEvent, ObjectsTo, PutsEdit, RefusesEvent, editing}
use Rattle.cli_run.specs.Transitions.{from_to}
use Rattle.cli_run.proofs.WordLemmas.{denied, kept_same, next_by, refused_by, stays_turned, turned_wider}

-- it was made; or this stands against it, or it is refused, and nothing changes
abbrev Comes : Answer → Option Account → Type 0
Comes said change =
    (said ≡ answer.Edited) ⊎ ((objection : ScriptObjection) × (said ≡ answer.Objected objection) × (change ≡ None)) ⊎ ((refusal : Refusal) × (said ≡ answer.Refused refusal) × (change ≡ None))

module _ (edit : ScriptEdit) where
  comes_unless : (o : Option ScriptObjection) (a : Account) (said : Answer) (change : Option Account) → EditsUnless o edit a said change → Comes said change
  comes_unless None a said change h = inl h.says
  comes_unless (Some objection) a said change h = inr (inl (objection, h.says, h.stays))

  comes_in : (o : Option Account) (said : Answer) (change : Option Account) → InAccount o (Edits edit) said change → Comes said change
  comes_in None said change h = inr (inr (NoUser, h.says, h.stays))
  comes_in (Some a) said change h = comes_unless (objection_to edit a) a said change h

  comes : (o : Option Account) (said : Answer) (change : Option Account) → DoesUpkeep (upkeep.EditScripts edit) o said change → Comes said change
  comes o said change (inl h) = comes_in (open_one o) said change h.1
  comes o said change (inr h) = inr (inr (BadScriptName, h.1.says, h.1.stays))

module _ (Denied : RunFault → Type 0) (user : List ℕ) (edit : ScriptEdit) where
  abbrev act : Upkeep
  act = upkeep.EditScripts edit

  abbrev EditRow : Accounts → Answer → Accounts → Type 0
  EditRow accounts = Keeping accounts user act

  abbrev EditMay : Refusal → Type 0
  EditMay = MayRefuseKeeping act

  kept_as : (accounts later : Accounts) (refusal : Refusal) → EditRow accounts (answer.Refused refusal) later → later ≡ accounts
  kept_as accounts later refusal h =
      elim (comes edit (get accounts user) (answer.Refused refusal) h.0 h.1) [
        | inl is ↦ absurd (let no = is in cc)
        | inr more ↦ elim more [
          | inl told ↦ absurd (let no = told.1 in cc)
          | inr is ↦ subst (λ change. later ≡ put_instead change user accounts) is.2 h.2
        ]
      ]

  objected_same : (accounts later : Accounts) (objection : ScriptObjection) → TurnsBy EditRow EditMay (answer.Objected objection) accounts later → later ≡ accounts
  objected_same accounts later objection (inl h) =
      elim (comes edit (get accounts user) (answer.Objected objection) h.0 h.1) [
        | inl is ↦ absurd (let no = is in cc)
        | inr more ↦ elim more [
          | inl told ↦ subst (λ change. later ≡ put_instead change user accounts) told.2 h.2
          | inr is ↦ absurd (let no = is.1 in cc)
        ]
      ]
  objected_same accounts later objection (inr h) = h.3

  edited_so : (accounts later : Accounts) (said : Answer) → ((refusal : Refusal) → said ≡ answer.Refused refusal → ⊥) → ((objection : ScriptObjection) → said ≡ answer.Objected objection → ⊥) → TurnsBy EditRow EditMay said accounts later → said ≡ answer.Edited
  edited_so accounts later said unrefused free (inl row) =
      elim (comes edit (get accounts user) said row.0 row.1) [ inl is ↦ is | inr more ↦ elim more [ inl told ↦ absurd (free told.0 told.1) | inr is ↦ absurd (unrefused is.0 is.1) ] ]
  edited_so accounts later said unrefused free (inr h) = absurd (unrefused h.0 h.2)

  next : (said : Answer) (accounts later : Accounts) → TurnsBy EditRow EditMay said accounts later → Next (world_of_accounts accounts) (editing user edit) said (world_of_accounts later)
  next said accounts later turned = next_by (editing user edit) EditRow EditMay (λ all then answered row. (then, row, refl)) (λ all. keeping_may user act (world_of_accounts all)) kept_as said accounts later turned

  refused_so : (refusal : Refusal) (accounts later : Accounts) → TurnsBy EditRow EditMay (answer.Refused refusal) accounts later → PutsEdit Denied user edit (Err (Refused refusal)) accounts later
  refused_so refusal accounts later turned =
      let put = refused_by (editing user edit) EditRow EditMay (λ all then said row. (then, row, refl)) (λ all. keeping_may user act (world_of_accounts all)) kept_as {X = Unit {0}} Denied (λ done. answer.Edited) refusal accounts later turned in
      (put.0, elim put.1 [ inl hindered ↦ inl hindered | inr refused ↦ inr (inl refused) ])

  -- the change, put to the machine
  pub edited_put : (said : Answer) (r : Result (Unit {0}) RunFault) → IsEditedBy said r → (accounts later : Accounts) → TurnsBy EditRow EditMay said accounts later → PutsEdit Denied user edit r accounts later
  edited_put (answer.Refused refusal) r is accounts later turned = subst (λ o. PutsEdit Denied user edit o accounts later) (sym is) (refused_so refusal accounts later turned)
  edited_put (answer.Objected objection) r is accounts later turned =
      let same = objected_same accounts later objection turned in
      subst (λ o. PutsEdit Denied user edit o accounts later) (sym is) (
        same,
        inr (inr (record {
          objection = objection;
          told = refl;
          next = subst (λ all. Next (world_of_accounts accounts) (editing user edit) (answer.Objected objection) (world_of_accounts all)) same (next (answer.Objected objection) accounts later turned);
        })),
      )
  edited_put said r is accounts later turned =
      subst (λ o. PutsEdit Denied user edit o accounts later) (sym is)
      (subst (λ a. Next (world_of_accounts accounts) (editing user edit) a (world_of_accounts later)) (edited_so accounts later said (λ refusal e. let no = e in cc) (λ objection e. let no = e in cc) turned) (next said accounts later turned))

  -- no store was given out
  pub edit_denied : (fault : RunFault) (r : Result (Unit {0}) RunFault) → r ≡ Err fault → Denied fault → (held new : Database) → new ≡ held → TurnsTables (PutsEdit Denied user edit r) held new
  edit_denied fault r is why held new same =
      stays_turned (PutsEdit Denied user edit r) held new same (λ accounts. subst (λ o. PutsEdit Denied user edit o accounts accounts) (sym is) (refl, inl (denied ⊥ ⊥ Denied fault why (λ no. no))))

  -- ---- the word

  abbrev Own : Event → Type 0
  Own e = e ≡ editing user edit

  abbrev Cause : RunFault → Accounts → Type 0
  Cause fault accounts = IsHindered ⊥ ⊥ Denied fault ⊎ RefusesEvent Own fault accounts ⊎ ObjectsTo (editing user edit) fault accounts

  abbrev Ends : Option (List ℕ) → Option (List ℕ) → Result (Unit {0}) RunFault → Accounts → Accounts → Type 0
  Ends = FinishesPrinted (MakesEvent Own) Cause

  -- it didn't come to the event
  pub edit_hindered : (out : Option (List ℕ)) (held : Database) (fault : RunFault) (r : Result (Unit {0}) RunFault) → r ≡ Err fault → IsHindered ⊥ ⊥ Denied fault → DoesEdit Denied user edit (from_to out out) r (from_to held held)
  edit_hindered out held fault r is hindered =
      stays_turned (Ends out out r) held held refl (λ accounts. subst (λ o. Ends out out o accounts accounts) (sym is) (inl (record { cause = inl hindered; stays = refl; silent = kept_same out })))

  module _ (held new : Database) where
    -- it was put, and wasn't made
    pub edit_unmade : (out : Option (List ℕ)) (fault : RunFault) (r : Result (Unit {0}) RunFault) → r ≡ Err fault → TurnsTables (PutsEdit Denied user edit (Err fault)) held new → DoesEdit Denied user edit (from_to out out) r (from_to held new)
    edit_unmade out fault r is put =
        turned_wider (PutsEdit Denied user edit (Err fault)) (Ends out out r) held new
        (λ accounts later h. subst (λ o. Ends out out o accounts later) (sym is) (inl (record { cause = h.1; stays = h.0; silent = kept_same out }))) put

    -- it was made, and its line printed
    pub edit_made : TurnsTables (PutsEdit Denied user edit (Ok tt)) held new → (old out : Option (List ℕ)) (text : List ℕ) → text ≡ ended_line (edit_text user edit) → (r : Result (Unit {0}) RunFault) → IsPrinted r old out text
        → DoesEdit Denied user edit (from_to old out) r (from_to held new)
    edit_made put old out text tells r printed = turned_wider (PutsEdit Denied user edit (Ok tt)) (Ends old out r) held new (λ accounts later h. by r printed accounts later h) put
      where
        effect : (accounts later : Accounts) → Next (world_of_accounts accounts) (editing user edit) answer.Edited (world_of_accounts later) → MakesEvent Own accounts later text
        effect accounts later h = record { event = editing user edit; own = refl; answer = answer.Edited; next = h; tells = tells }

        by : (r : Result (Unit {0}) RunFault) → IsPrinted r old out text → (accounts later : Accounts) → Next (world_of_accounts accounts) (editing user edit) answer.Edited (world_of_accounts later) → Ends old out r accounts later
        by (Ok done) printed accounts later h = record { text = text; effect = effect accounts later h; printed = printed }
        by (Err fault) printed accounts later h = inr (record { text = text; effect = effect accounts later h; printed = printed })

-- the same of a change and a user that are others only in writing
pub edit_same : (Denied : RunFault → Type 0) (user name : List ℕ) (edit other : ScriptEdit) → user ≡ name → edit ≡ other → (old out : Option (List ℕ)) (r : Result (Unit {0}) RunFault) (held new : Database) → DoesEdit Denied user edit (from_to old out) r (from_to held new)
    → DoesEdit Denied name other (from_to old out) r (from_to held new)
edit_same Denied user name edit other whom is old out r held new does =
    subst (λ (e : ScriptEdit). DoesEdit Denied name e (from_to old out) r (from_to held new)) is (subst (λ (u : List ℕ). DoesEdit Denied u edit (from_to old out) r (from_to held new)) whom does)
