use Rattle.std.proofs.Common.{◌≡◌, take}
use Rattle.sieve_syntax.specs.Capabilities.{granted_by, granted_too}
use Rattle.sieve_syntax.proofs.capability.Capabilities.add_all.Given as goal

abbrev pub invariant-loop-name : goal.invariant-loop-name
invariant-loop-name l = granted_by l.self ≡ granted_too (granted_by l.fn.self) (take l.name-index l.names)
