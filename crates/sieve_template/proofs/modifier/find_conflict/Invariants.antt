use Rattle.std.proofs.Common.{ℕ, ◌<◌}
use Rattle.sieve_template.specs.Modifiers.{RepeatsPrecedence}
use Rattle.sieve_template.proofs.modifier.find_conflict.Given as goal

abbrev pub invariant-loop-k : goal.invariant-loop-k
invariant-loop-k l = (j : ℕ) → j < l.k → RepeatsPrecedence l.modifiers j → ⊥
