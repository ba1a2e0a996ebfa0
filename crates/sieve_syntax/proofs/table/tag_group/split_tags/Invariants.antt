use Rattle.std.proofs.Common.{◌-◌, ◌≤◌, length, drop, map}
use Rattle.sieve_syntax.specs.Tags.{group_of}
use Rattle.sieve_syntax.proofs.TagLemmas.{IsTaken}
use Rattle.sieve_syntax.proofs.table.tag_group.split_tags.Given as goal

abbrev pub invariant-tag_values : goal.invariant-tag_values
invariant-tag_values l = record {
  inside : l.at ≤ length l.args;
  taken : IsTaken l.allowed l.args l.tag_values.items (map group_of l.tag_values.items) (drop l.at l.args);
}

abbrev pub decreases-tag_values : goal.decreases-tag_values
decreases-tag_values l = length l.args - l.at
