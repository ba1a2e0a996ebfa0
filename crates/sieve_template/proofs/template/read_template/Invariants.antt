use Rattle.std.proofs.Common.{◌-◌, ◌≤◌, length}
use Rattle.sieve_template.proofs.TemplateLemmas.{ReadTo}
use Rattle.sieve_template.proofs.template.read_template.Given as goal

abbrev pub invariant-loop-place : goal.invariant-loop-place
invariant-loop-place l = record { within : l.from ≤ length l.text; read : ReadTo l.text l.from l.pieces }

abbrev pub decreases-loop-place : goal.decreases-loop-place
decreases-loop-place l = length l.text - l.from
