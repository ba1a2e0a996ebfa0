use Rattle.std.proofs.Common.{◌≡◌}
use Rattle.sasl_plain.specs.Password.{digest_of}
use Rattle.sasl_plain.proofs.password.digest.Given as goal

abbrev pub invariant-loop : goal.invariant-loop
invariant-loop l = l.digest ≡ digest_of l.salt l.password l.counter
