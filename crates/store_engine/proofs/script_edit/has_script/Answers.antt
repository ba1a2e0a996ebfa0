-- The name is among those of the scripts where it is a script's.
use Rattle.std.proofs.Common.{◌∙◌}
use Rattle.managesieve_sessions.proofs.ScriptLemmas.{among_is}
use Rattle.store_engine.proofs.script_edit.has_script.Goals as goal

pub returns : goal.returns
returns c = λ a are. c.has_name.ensures ∙ among_is a c.args.names.now c.args.name.now are
