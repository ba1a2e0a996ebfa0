use Rattle.std.proofs.Common.{◌≡◌, ◌≢◌, ℕ, ◌<◌}
use Rattle.sieve_template.specs.Modifiers.{precedence_at}
use Rattle.sieve_template.proofs.modifier.repeats.Given as goal

abbrev pub invariant-loop-j : goal.invariant-loop-j
invariant-loop-j l = record { own : l.precedence ≡ precedence_at l.modifiers l.k; others : (i : ℕ) → i < l.j → precedence_at l.modifiers i ≢ l.precedence }
