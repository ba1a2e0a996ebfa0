use Rattle.std.proofs.Common.{ap}
use Rattle.managesieve_sessions.specs.CommandClasses.{of_free}
use Rattle.managesieve_sessions.specs.CommandOutcomes.{HasSessionUser}
use Rattle.managesieve_sessions.proofs.TurnLemmas.{checked}
use Rattle.managesieve_sessions.proofs.free.free.Goals as goal

pub returns-in_ok-check_script-in-CheckScript : goal.returns-in_ok-check_script-in-CheckScript
returns-in_ok-check_script-in-CheckScript c =
    checked (HasSessionUser c.args.user.now) (of_free c.args.command.now) c.in-CheckScript.text c.as_slice.result.now c.in_ok-check_script-in-CheckScript.field-0 c.with_session_change-in-CheckScript.result
    (ap of_free c.in-CheckScript.is) c.as_slice.ensures c.in_ok-check_script-in-CheckScript.ensures c.with_session_change-in-CheckScript.ensures
