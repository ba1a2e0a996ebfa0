use Rattle.std.proofs.Common.{◌+◌, ◌-◌, ◌*◌, ◌≤◌, drop}
use Rattle.memchr.specs.Find.{Nowhere}
use Rattle.sieve_match.specs.Glob.{items}
use Rattle.sieve_match.specs.Segments.{ItemsStandAt}
use Rattle.sieve_match.proofs.parts.Segment.find.Given as goal

abbrev pub invariant-loop-at : goal.invariant-loop-at
invariant-loop-at g l = record {
  none : Nowhere (ItemsStandAt g.C.Comparator.image_of (items (drop l.self.from l.self.pattern.now)) l.self.count l.value) l.from l.at;
  cost : l.steps ≤ l.fn.steps + (l.at - l.from) * l.self.count;
}
