-- What is reported of a change of a user's scripts: that it was made, or what stands against it.
use Rattle.std.specs.Prelude.{◌≡◌, ℕ, List, ◌++◌, codes, Result, Ok, Err}
use Rattle.store_engine.specs.declared.answer.Answer.{Answer}
use Rattle.store_engine.specs.declared.answer.Answer.TheVariants as answer
use Rattle.store_engine.specs.declared.script_edit.ScriptEdit.{ScriptEdit}
use Rattle.store_engine.specs.declared.script_edit.ScriptEdit.TheVariants as edit
use Rattle.store_engine.specs.declared.script_edit.ScriptObjection.{ScriptObjection}
use Rattle.store_engine.specs.declared.script_edit.ScriptObjection.TheVariants as objection
use Rattle.store_engine.specs.declared.upkeep.Upkeep.{Upkeep}
use Rattle.store_engine.specs.declared.upkeep.Upkeep.TheVariants as upkeep
use Rattle.cli_reports.specs.Reports.{ended_line}
use Rattle.cli_run.specs.declared.fault.RunFault.{RunFault}
use Rattle.cli_run.specs.declared.fault.RunFault.TheVariants.{Refused, NoScript, ScriptActive, ScriptExists}

-- the line of a change that was made, without its end
abbrev pub edit_text : List ℕ → ScriptEdit → List ℕ
edit_text user (edit.Activate name) = codes "activated " ++ name
edit_text user edit.Deactivate = codes "deactivated " ++ user
edit_text user (edit.Delete name) = codes "deleted " ++ name
edit_text user (edit.Rename name other) = codes "renamed " ++ other

-- the line, if what was done to the account is such a change
abbrev pub TellsEdit : List ℕ → Upkeep → List ℕ → Type 0
TellsEdit user (upkeep.EditScripts edit) text = text ≡ ended_line (edit_text user edit)
TellsEdit user other text = ⊥

-- how what stands against it is reported
abbrev pub objection_fault : ScriptObjection → RunFault
objection_fault objection.NoScript = NoScript
objection_fault objection.IsActive = ScriptActive
objection_fault objection.NameTaken = ScriptExists

-- it was made; or what stands against it, or the machine's refusal, is the fault
abbrev pub IsEditedBy : Answer → Result (Unit {0}) RunFault → Type 0
IsEditedBy (answer.Refused refusal) result = result ≡ Err (Refused refusal)
IsEditedBy (answer.Objected objection) result = result ≡ Err (objection_fault objection)
IsEditedBy other result = result ≡ Ok tt
