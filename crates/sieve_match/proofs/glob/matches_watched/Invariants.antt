use Rattle.std.proofs.Common.{◌≡◌, ◌↔◌, ◌+◌, ◌-◌, ◌<◌, ◌≤◌, ◌∷◌, length, drop}
use Rattle.sieve_match.specs.Glob.{items, Glob}
use Rattle.sieve_match.specs.declared.pattern.GlobItem.TheVariants.{Star}
use Rattle.std.specs.List.{list_any}
use Rattle.sieve_match.specs.Costs.{is_long_key, is_question_mark}
use Rattle.sieve_match.proofs.Counts.{Partly}
use Rattle.sieve_match.proofs.glob.matches_watched.Given as goal

abbrev pub invariant-loop-end : goal.invariant-loop-end
invariant-loop-end g l = record {
  pattern : l.end ≤ length l.pattern;
  value : l.i ≤ length l.value;
  same : Glob g.C.Comparator.image_of (items l.pattern) l.value ↔ Glob g.C.Comparator.image_of (items (drop l.end l.pattern)) (drop l.i l.value);
  star : l.end < length l.pattern → items (drop l.end l.pattern) ≡ Star ∷ items (drop (l.end + 1) l.pattern);
  cost : Partly l.pattern (is_long_key l.pattern) (list_any is_question_mark l.pattern) l.fn.steps l.end l.i l.steps;
}

abbrev pub decreases-loop-end : goal.decreases-loop-end
decreases-loop-end g l = length l.pattern - l.end
