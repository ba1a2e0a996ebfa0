use Rattle.std.proofs.Common.{◌≡◌, ◌+◌, ◌-◌, ◌≤◌, length, take}
use Rattle.sieve_lex.specs.Text.{line_ends}
use Rattle.sieve_lex.proofs.Scanned.{IsFront}
use Rattle.sieve_lex.proofs.scanner.read_tokens.Given as goal

abbrev pub invariant-loop-tokens : goal.invariant-loop-tokens
invariant-loop-tokens l = record {
  inside : l.at ≤ length l.text;
  on_line : l.line ≡ 1 + line_ends (take l.at l.text);
  front : IsFront l.text l.tokens.items l.at;
}

abbrev pub decreases-loop-tokens : goal.decreases-loop-tokens
decreases-loop-tokens l = length l.text - l.at
