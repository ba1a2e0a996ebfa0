use Rattle.std.proofs.Common.{◌≡◌, ◌++◌, length}
use Rattle.dovecot_userdb.specs.Escapes as s
use Rattle.dovecot_userdb.proofs.escape.read_escaped.Given as goal

abbrev pub invariant-loop-first : goal.invariant-loop-first
invariant-loop-first l = l.text ≡ s.tab_escaped l.value ++ l.left

abbrev pub decreases-loop-first : goal.decreases-loop-first
decreases-loop-first l = length l.left
