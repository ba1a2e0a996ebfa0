-- What is told of a change of scripts, and what is listed of all users, by example: right ones, and near misses.
use Rattle.std.proofs.Common.{◌≡◌, ℕ, List, [], ◌∷◌, codes, Ok, Err, refl}
use Rattle.store_accounts.specs.Account.{Account, closes}
use Rattle.store_engine.specs.declared.answer.Answer.TheVariants as answer
use Rattle.store_engine.specs.declared.event.Event.TheVariants.{DoUpkeep}
use Rattle.store_engine.specs.declared.script_edit.ScriptEdit.TheVariants.{Activate, Deactivate, Delete, Rename}
use Rattle.store_engine.specs.declared.script_edit.ScriptObjection.TheVariants.{IsActive, NameTaken}
use Rattle.store_engine.specs.declared.upkeep.Upkeep.TheVariants.{EditScripts}
use Rattle.cli_run.specs.AllUsers.{listing_of, named_line, named_lines, named_queue, named_notices}
use Rattle.cli_run.specs.EditReports.{IsEditedBy, edit_text}
use Rattle.cli_run.specs.Faults.{status_of, run_fault_text}
use Rattle.cli_run.specs.Subcommands.{TellsEvent}
use Rattle.cli_run.specs.declared.fault.RunFault.TheVariants as fault

abbrev alice : List ℕ
alice = codes "alice"

told-active : TellsEvent (DoUpkeep alice (EditScripts (Activate (codes "m")))) answer.Edited (codes "activated m\n")
told-active = refl

told-none : TellsEvent (DoUpkeep alice (EditScripts Deactivate)) answer.Edited (codes "deactivated alice\n")
told-none = refl

told-gone : TellsEvent (DoUpkeep alice (EditScripts (Delete (codes "m")))) answer.Edited (codes "deleted m\n")
told-gone = refl

told-name : edit_text alice (Rename (codes "m") (codes "n")) ≡ codes "renamed n"
told-name = refl

-- near miss: what stands against it isn't told as done
told-against : (text : List ℕ) → TellsEvent (DoUpkeep alice (EditScripts (Delete (codes "m")))) (answer.Objected IsActive) text → ⊥
told-against text told = told

against-active : IsEditedBy (answer.Objected IsActive) (Err fault.ScriptActive)
against-active = refl

-- near misses: it is passed over, or reported as another
against-passed : IsEditedBy (answer.Objected NameTaken) (Ok tt) → ⊥
against-passed is = let no = is in cc

against-other : IsEditedBy (answer.Objected NameTaken) (Err fault.NoScript) → ⊥
against-other is = let no = is in cc

wrong-data : (status_of fault.ScriptActive ≡ 65) × (run_fault_text fault.ScriptExists ≡ codes "script exists")
wrong-data = (refl, refl)

-- ---- all users

behind-a-name : named_line alice (codes "5 more") ≡ codes "alice 5 more"
behind-a-name = refl

two-lines : named_lines alice (codes "1 a" ∷ codes "2 b" ∷ []) ≡ codes "alice 1 a\nalice 2 b\n"
two-lines = refl

nobody : listing_of named_queue [] ≡ []
nobody = refl

-- of a closed account nothing is listed
shut : (name : List ℕ) (a : Account) → (named_queue name (closes a) ≡ []) × (named_notices name (closes a) ≡ [])
shut name a = (refl, refl)
