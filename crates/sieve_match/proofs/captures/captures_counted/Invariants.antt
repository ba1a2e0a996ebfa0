-- The items up to the end of the segment, and what was kept of them.
use Rattle.std.proofs.Common.{◌≡◌, ◌↔◌, ◌+◌, ◌-◌, ◌<◌, ◌≤◌, ◌∷◌, length, drop}
use Rattle.sieve_match.specs.Glob.{items, Glob}
use Rattle.sieve_match.specs.declared.pattern.GlobItem.TheVariants.{Star}
use Rattle.sieve_match.specs.declared.captures.TheConstants.{MAX_CAPTURES}
use Rattle.sieve_match.proofs.CaptureSteps.{Caught}
use Rattle.sieve_match.proofs.captures.captures_counted.Given as goal

abbrev pub invariant-loop-end : goal.invariant-loop-end
invariant-loop-end g l = record {
  pattern : l.end ≤ length l.pattern;
  value : l.i ≤ length l.value;
  few : length l.kept ≤ MAX_CAPTURES + 1;
  same : Glob g.C.Comparator.image_of (items l.pattern) l.value ↔ Glob g.C.Comparator.image_of (items (drop l.end l.pattern)) (drop l.i l.value);
  star : l.end < length l.pattern → items (drop l.end l.pattern) ≡ Star ∷ items (drop (l.end + 1) l.pattern);
  caught : Caught g.C.Comparator.image_of (MAX_CAPTURES + 1) (items l.pattern) l.value (items (drop l.end l.pattern)) (drop l.i l.value) l.kept;
}

abbrev pub decreases-loop-end : goal.decreases-loop-end
decreases-loop-end g l = length l.pattern - l.end
