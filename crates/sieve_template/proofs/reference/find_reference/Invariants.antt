use Rattle.sieve_template.specs.Reading.{NoReferenceIn}
use Rattle.sieve_template.proofs.reference.find_reference.Given as goal

abbrev pub invariant-loop-place : goal.invariant-loop-place
invariant-loop-place l = NoReferenceIn l.text l.from l.place
