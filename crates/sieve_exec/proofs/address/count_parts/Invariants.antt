-- The addresses so far that have the part are counted.
use Rattle.std.proofs.Common.{◌≡◌, ◌≤◌, take}
use Rattle.std.specs.Prelude.{count_by}
use Rattle.sieve_exec.specs.Counts.{has_part}
use Rattle.sieve_exec.proofs.address.count_parts.Given as goal

abbrev pub invariant-loop-one : goal.invariant-loop-one
invariant-loop-one l = record {
  count : l.count ≡ count_by (has_part l.part) (take l.one-index l.found);
  most : l.count ≤ l.one-index;
}
