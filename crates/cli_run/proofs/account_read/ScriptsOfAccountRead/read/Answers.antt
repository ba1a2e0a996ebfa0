-- The read is of the user with this name.
use Rattle.std.proofs.Common.{subst}
use Rattle.sqlite.specs.Held.{state}
use Rattle.store_accounts.specs.Promises.{ReadsOpenAccount}
use Rattle.managesieve_sessions.specs.Decisions.{AreScripts}
use Rattle.cli_run.specs.declared.account_read.ScriptNames.{ScriptNames}
use Rattle.cli_run.proofs.account_read.ScriptsOfAccountRead.read.Goals as goal

pub returns : goal.returns
returns g c = subst (λ user. ReadsOpenAccount user (λ (found : ScriptNames) a. AreScripts found.names found.active a) (state g.S.Store c.args.store.now) (state g.S.Store c.script_names.new.store) c.script_names.result) c.as_bytes.ensures.value c.script_names.ensures
