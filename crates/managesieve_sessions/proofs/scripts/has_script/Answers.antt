use Rattle.managesieve_sessions.proofs.ScriptLemmas.{there_is}
use Rattle.managesieve_sessions.proofs.scripts.has_script.Goals as goal

pub returns : goal.returns
returns c = λ a are. there_is a c.args.names.now c.args.name.now are c.has_name.result c.has_name.ensures
