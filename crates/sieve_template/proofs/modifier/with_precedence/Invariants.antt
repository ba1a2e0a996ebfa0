use Rattle.std.proofs.Common.{◌≡◌, drop}
use Rattle.sieve_template.specs.Modifiers.{first_with}
use Rattle.sieve_template.proofs.modifier.with_precedence.Given as goal

abbrev pub invariant-loop-modifier : goal.invariant-loop-modifier
invariant-loop-modifier l = first_with (drop l.modifier-index l.modifiers) l.precedence ≡ first_with l.modifiers l.precedence
