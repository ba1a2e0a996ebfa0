-- No tag so far is of the group.
use Rattle.std.proofs.Common.{◌≡◌, ℕ, ◌<◌, get_or}
use Rattle.sieve_syntax.specs.declared.table.tag_group.TagValue.{TagValue}
use Rattle.sieve_syntax.specs.Tags.{group_of}
use Rattle.sieve_syntax.proofs.table.tag_group.is_settled.Given as goal

abbrev pub invariant-loop-tag_value : goal.invariant-loop-tag_value
invariant-loop-tag_value l = (k : ℕ) (d : TagValue) → k < l.tag_value-index → group_of (get_or l.tag_values k d) ≡ l.group → ⊥
