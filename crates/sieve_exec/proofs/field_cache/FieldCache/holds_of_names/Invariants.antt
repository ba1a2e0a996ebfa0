-- The mail stays, and the test holds of the fields of no name so far.
use Rattle.std.proofs.Common.{◌≡◌, false, take}
use Rattle.std.specs.List.{list_any}
use Rattle.octets.specs.Ascii.{lowered}
use Rattle.sieve_exec.proofs.field_cache.FieldCache.holds_of_names.Given as goal

abbrev pub invariant-loop-name : goal.invariant-loop-name
invariant-loop-name g l =
    (l.self ≡ l.initial.self)
    × (list_any (λ name. g.T.FieldTest.passes l.test (g.V.FieldValues.keyed l.initial.self (lowered name))) (take l.name-index l.names) ≡ false)
