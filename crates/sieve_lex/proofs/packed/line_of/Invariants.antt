use Rattle.std.proofs.Common.{◌≡◌, ◌+◌, ◌-◌, ◌≤◌, length, take}
use Rattle.sieve_lex.specs.Text.{line_ends}
use Rattle.sieve_lex.proofs.Indexed.{IsCounted}
use Rattle.sieve_lex.proofs.packed.line_of.Given as goal

abbrev pub invariant-tokens : goal.invariant-tokens
invariant-tokens l = record {
  inside : l.at ≤ length l.text;
  on_line : l.line ≡ 1 + line_ends (take l.at l.text);
  counted : IsCounted l.text l.at l.before l.index;
}

abbrev pub decreases-tokens : goal.decreases-tokens
decreases-tokens l = length l.text - l.at
