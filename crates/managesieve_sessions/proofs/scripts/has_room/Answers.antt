use Rattle.managesieve_sessions.proofs.ScriptLemmas.{room_few}
use Rattle.managesieve_sessions.proofs.scripts.has_room.Goals as goal

pub returns-else-has_script : goal.returns-else-has_script
returns-else-has_script c = λ a are. room_few a c.args.names.now c.args.name.now are (c.if-has_script.ensures a are)
