-- The mail stays, and the sizes are those of the fields of the names so far, which have no more octets than may be.
use Rattle.std.proofs.Common.{◌≡◌, ◌≤◌, take}
use Rattle.octets.specs.Ascii.{lowered}
use Rattle.sieve_exec.specs.Work.{named_sizes}
use Rattle.sieve_exec.proofs.field_cache.FieldCache.sizes.Given as goal

abbrev pub invariant-loop-name : goal.invariant-loop-name
invariant-loop-name g l = record {
  kept : l.self ≡ l.initial.self;
  sizes : l.sizes ≡ named_sizes (λ name. g.V.FieldValues.sizes_of (g.V.FieldValues.keyed l.initial.self (lowered name))) (take l.name-index l.names);
  room : l.sizes.octets ≤ l.most;
  few : l.sizes.count ≤ l.sizes.octets;
}
