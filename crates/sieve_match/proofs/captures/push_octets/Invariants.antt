-- What is kept, with what the items that are left take, is what the segment's items take.
use Rattle.std.proofs.Common.{◌≡◌, ◌+◌, ◌≤◌, ◌++◌, length, take, drop}
use Rattle.sieve_match.specs.Glob.{items}
use Rattle.sieve_match.specs.Wildcards.{octets_taken}
use Rattle.sieve_match.specs.declared.captures.TheConstants.{MAX_CAPTURES}
use Rattle.sieve_match.proofs.captures.push_octets.Given as goal

abbrev pub invariant-loop-j : goal.invariant-loop-j
invariant-loop-j l = record {
  cursor : items (drop l.place l.segment.pattern.now) ≡ drop l.j (items (drop l.segment.from l.segment.pattern.now));
  few : length l.kept ≤ MAX_CAPTURES + 1;
  goes : take (MAX_CAPTURES + 1) (l.kept ++ octets_taken (items (drop l.place l.segment.pattern.now)) l.value (l.at + l.j))
      ≡ take (MAX_CAPTURES + 1) (l.initial.kept ++ octets_taken (items (drop l.segment.from l.segment.pattern.now)) l.value l.at);
}
