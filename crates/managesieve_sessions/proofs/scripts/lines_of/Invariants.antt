use Rattle.std.proofs.Common.{◌≡◌}
use Rattle.managesieve_sessions.specs.Replies.{borrowed_text}
use Rattle.managesieve_sessions.specs.Scripts.{script_lines}
use Rattle.managesieve_sessions.proofs.scripts.lines_of.Given as goal

abbrev pub invariant-loop-name : goal.invariant-loop-name
invariant-loop-name l = l.lines ≡ script_lines (borrowed_text l.active) l.yielded
