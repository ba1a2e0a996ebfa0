use Rattle.std.proofs.Common.{◌≡◌, map, take}
use Rattle.mail_address.specs.Spelling.{address_spelling}
use Rattle.sieve_plan.specs.Sent.{not_among}
use Rattle.sieve_plan.proofs.targets.not_among.Given as goal

abbrev pub invariant-loop-target : goal.invariant-loop-target
invariant-loop-target l = l.texts ≡ map address_spelling (not_among l.known (take l.target-index l.targets))
