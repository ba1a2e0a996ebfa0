-- The stars so far.
use Rattle.std.proofs.Common.{◌≡◌, ◌≤◌, take}
use Rattle.std.specs.Prelude.{count_by}
use Rattle.sieve_exec.specs.Sizes.{is_asterisk}
use Rattle.sieve_exec.proofs.work.count_stars.Given as goal

abbrev pub invariant-loop-octet : goal.invariant-loop-octet
invariant-loop-octet l = record {
  few : l.count ≤ l.octet-index;
  count : l.count ≡ count_by is_asterisk (take l.octet-index l.key);
}
