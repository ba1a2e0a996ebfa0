-- The sizes of the addresses so far, which have no more octets than may be.
use Rattle.std.proofs.Common.{◌≡◌, ◌≤◌, take}
use Rattle.sieve_exec.specs.Work.{sizes_of_addresses}
use Rattle.sieve_exec.proofs.address.address_sizes.Given as goal

abbrev pub invariant-loop-one : goal.invariant-loop-one
invariant-loop-one l = record {
  sizes : l.sizes ≡ sizes_of_addresses (take l.one-index l.found);
  room : l.sizes.octets ≤ l.most;
  few : l.sizes.count ≤ l.sizes.octets;
}
