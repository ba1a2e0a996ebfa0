-- The mail stays, and what the fields of the names so far have is counted.
use Rattle.std.proofs.Common.{◌≡◌, ◌≤◌, ◌*◌, take}
use Rattle.std.specs.Prelude.{sum_by}
use Rattle.octets.specs.Ascii.{lowered}
use Rattle.sieve_exec.proofs.field_cache.FieldCache.count.Given as goal

abbrev pub invariant-loop-name : goal.invariant-loop-name
invariant-loop-name g l = record {
  kept : l.self ≡ l.initial.self;
  count : l.total ≡ sum_by (λ name. g.T.FieldCount.counted l.test (g.V.FieldValues.keyed l.initial.self (lowered name))) (take l.name-index l.names);
  most : l.total ≤ l.name-index * 18446744073709551615;
}
