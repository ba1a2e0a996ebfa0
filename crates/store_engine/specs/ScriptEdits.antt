-- What an administrator changes of a user's scripts, beside their texts: which one is active, which there are, and their names (RFC 5804,
-- 2.8, 2.10, 2.11).
use Rattle.std.specs.Prelude.{◌≡◌, ℕ, Bool, cond, List, Option, Some, None, Result, OnOk, OnErr, IfErr, is_some}
use Rattle.std.specs.FinMap.{get}
use Rattle.sqlite.specs.State.{State, HasCleanDisk, Survives}
use Rattle.store_tables.specs.Connection.{IsSettled, StaysSame}
use Rattle.store_accounts.specs.Account.{Account, activates, deletes_script, renames_script, with_user}
use Rattle.store_accounts.specs.Promises.{HasOurTables, HasUser, ChangesAccounts, CrashLeavesAccounts}
use Rattle.store_accounts.specs.Refusals.{IsTransient}
use Rattle.store_accounts.specs.declared.refusal.Refusal.{Refusal}
use Rattle.managesieve_sessions.specs.Limits.{IsScriptName}
use Rattle.managesieve_sessions.specs.Scripts.{is_active}
use Rattle.store_engine.specs.declared.script_edit.ScriptEdit.{ScriptEdit}
use Rattle.store_engine.specs.declared.script_edit.ScriptEdit.TheVariants as edit
use Rattle.store_engine.specs.declared.script_edit.ScriptObjection.{ScriptObjection}
use Rattle.store_engine.specs.declared.script_edit.ScriptObjection.TheVariants as objection

-- a script has the name
abbrev pub has_script : Account → List ℕ → Bool
has_script a name = is_some (get a.scripts name)

-- what stands against an edit, if anything does: a script that isn't there can't be made active, deleted or renamed; the active one isn't
-- deleted; and a new name is one that no script has, so it isn't the old one
abbrev pub objection_to : ScriptEdit → Account → Option ScriptObjection
objection_to (edit.Activate name) a = cond (has_script a name) None (Some objection.NoScript)
objection_to edit.Deactivate a = None
objection_to (edit.Delete name) a =
    cond (has_script a name) (cond (is_active a.active name) (Some objection.IsActive) None) (Some objection.NoScript)
objection_to (edit.Rename name other) a =
    cond (has_script a name) (cond (has_script a other) (Some objection.NameTaken) None) (Some objection.NoScript)

-- the account after it
abbrev pub edited : ScriptEdit → Account → Account
edited (edit.Activate name) a = activates (Some name) a
edited edit.Deactivate a = activates None a
edited (edit.Delete name) a = deletes_script name a
edited (edit.Rename name other) a = renames_script name other a

-- a name that a script gets is one that a script may have
abbrev pub GivesScriptName : ScriptEdit → Type 0
GivesScriptName (edit.Activate name) = Unit {0}
GivesScriptName edit.Deactivate = Unit {0}
GivesScriptName (edit.Delete name) = Unit {0}
GivesScriptName (edit.Rename name other) = IsScriptName other

-- ---- the write

-- a write of the account of a user whose account was found open: it is refused without visible cause alone. After Ok the change is made, and
-- the connection is settled; after a refusal all is as before; a crash leaves what it left before, or the change
pub record WritesFound (user : List ℕ) (change : Account → Account) (old new : State) (result : Result (Unit {0}) Refusal) : Type 0 where
  pub made : HasCleanDisk new → OnOk result (ChangesAccounts (HasUser user) (λ all. with_user all user change) old.now new.now)
  pub settled : HasCleanDisk new → OnOk result (IsSettled new)
  pub same : HasCleanDisk new → HasOurTables old.now → OnErr result (StaysSame old new)
  pub crash : Survives old new (CrashLeavesAccounts (HasUser user) (λ all. with_user all user change) old)
  pub named : IfErr result IsTransient
