-- The items so far are those of the masks.
use Rattle.std.proofs.Common.{◌≡◌, ◌+◌, drop}
use Rattle.sieve_match.specs.Places.{AreMasks}
use Rattle.sieve_match.specs.Glob.{items}
use Rattle.sieve_match.specs.Segments.{item_takes_at}
use Rattle.sieve_match.proofs.parts.Segment.masks.Given as goal

abbrev pub invariant-loop-j : goal.invariant-loop-j
invariant-loop-j g l = record {
  cursor : items (drop l.place l.self.pattern.now) ≡ drop l.j (items (drop l.self.from l.self.pattern.now));
  known : AreMasks (item_takes_at g.C.Comparator.image_of (items (drop l.self.from l.self.pattern.now))) l.j l.masks;
  cost : l.steps ≡ l.fn.steps + l.j + 256;
}
