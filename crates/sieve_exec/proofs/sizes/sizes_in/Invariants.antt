-- The sizes of the texts so far, which have no more octets than may be.
use Rattle.std.proofs.Common.{◌≡◌, ◌≤◌, take}
use Rattle.sieve_exec.specs.Sizes.{sizes_of}
use Rattle.sieve_exec.proofs.sizes.sizes_in.Given as goal

abbrev pub invariant-loop-text : goal.invariant-loop-text
invariant-loop-text l = record {
  sizes : l.sizes ≡ sizes_of (take l.text-index l.texts);
  room : l.sizes.octets ≤ l.most;
  few : l.sizes.count ≤ l.sizes.octets;
}
