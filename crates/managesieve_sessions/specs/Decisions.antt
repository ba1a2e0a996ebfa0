-- The decision on a command, from what its account has.
use Rattle.std.specs.Prelude.{◌≡◌, ℕ, List, Option, Some, None}
use Rattle.std.specs.FinMap.{keys}
use Rattle.managesieve_protocol.specs.declared.commands.ClientCommand.{ClientCommand}
use Rattle.store_accounts.specs.Account.{Account, keeps_script, activates, deletes_script, renames_script}
use Rattle.managesieve_sessions.specs.declared.decision.ScriptChange.{ScriptChange}
use Rattle.managesieve_sessions.specs.declared.decision.ScriptChange.TheVariants.{Put, Activate, Delete, Rename}
use Rattle.managesieve_sessions.specs.declared.decision.Decision.{Decision}
use Rattle.managesieve_sessions.specs.Replies.{borrowed_text}
use Rattle.managesieve_sessions.specs.Scripts.{RepliesTo, obeyed}

-- the account has scripts of these names
abbrev pub AreNames : List (List ℕ) → Account → Type 0
AreNames names a = names ≡ keys a.scripts

-- and this one of them is active, if one is
abbrev pub AreScripts : List (List ℕ) → Option (List ℕ) → Account → Type 0
AreScripts names active a = AreNames names a × (a.active ≡ active)

-- the account after a change
abbrev pub change_made : ScriptChange → Account → Account
change_made (Put name script) a = keeps_script name.now script.now a
change_made (Activate name) a = activates (borrowed_text name) a
change_made (Delete name) a = deletes_script name.now a
change_made (Rename old new) a = renames_script old.now new.now a

abbrev pub change_made_if : Option ScriptChange → Account → Account
change_made_if None a = a
change_made_if (Some change) a = change_made change a

-- for every account that fits: the answer is one of the command's row, and the change is the one that goes with it
pub record IsDecision (Fits : Account → Type 0) (command : ClientCommand) (decision : Decision) : Type 0 where
  pub replies : (a : Account) → Fits a → RepliesTo a command decision.reply
  pub changes : (a : Account) → change_made_if decision.change a ≡ obeyed command decision.reply.word a

-- the decision on a command for this account: the answer is of the command's row, and the change is the one that goes with it, for any account
pub record Decides (command : ClientCommand) (decision : Decision) (a : Account) : Type 0 where
  pub replies : RepliesTo a command decision.reply
  pub changes : (b : Account) → change_made_if decision.change b ≡ obeyed command decision.reply.word b
