use Rattle.std.proofs.Common.{◌≡◌, ℕ, ◌+◌, ◌-◌, ◌<◌, ◌≤◌, true, false, length, drop, slice_index_or, IsTrue}
use Rattle.std.specs.List.{list_any}
use Rattle.sieve_match.specs.Costs.{is_question_mark}
use Rattle.sieve_match.specs.Glob.{items}
use Rattle.sieve_match.specs.Segments.{segment_len, item_octet}
use Rattle.sieve_match.specs.declared.pattern.GlobItem.TheVariants.{Star, Exact}
use Rattle.sieve_match.proofs.parts.Segment.read.Given as goal

abbrev pub invariant-loop-end : goal.invariant-loop-end
invariant-loop-end g l = record {
  low : l.from ≤ l.end;
  high : l.end ≤ length l.pattern;
  few : l.count ≤ l.end;
  rest : items (drop l.end l.pattern) ≡ drop l.count (items (drop l.from l.pattern));
  counted : segment_len (items (drop l.from l.pattern)) ≡ l.count + segment_len (items (drop l.end l.pattern));
  literal : IsTrue l.literal → (j : ℕ) → j < l.count
      → slice_index_or (items (drop l.from l.pattern)) j Star ≡ Exact (item_octet (slice_index_or (items (drop l.from l.pattern)) j Star));
  spelled : l.from + l.count ≤ l.end;
  question : l.literal ≡ false → list_any is_question_mark l.pattern ≡ true;
  some : l.literal ≡ false → 0 < l.count;
  cost : l.steps + l.from ≤ l.fn.steps + l.end;
  all : l.steps ≡ l.fn.steps + l.count;
}

abbrev pub decreases-loop-end : goal.decreases-loop-end
decreases-loop-end g l = length l.pattern - l.end
