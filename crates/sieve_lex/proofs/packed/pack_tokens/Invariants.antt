use Rattle.std.proofs.Common.{◌-◌, ◌≤◌, List, length}
use Rattle.sieve_lex.specs.declared.token.Token.{Token}
use Rattle.sieve_lex.specs.Contents.{contents_of, HoldsContents}
use Rattle.sieve_lex.proofs.Scanned.{IsFront}
use Rattle.sieve_lex.proofs.packed.pack_tokens.Given as goal

abbrev pub invariant-tokens : goal.invariant-tokens
invariant-tokens l = record {
  inside : l.at ≤ length l.text;
  front : (so_far : List Token) × (IsFront l.text so_far l.at × HoldsContents l.packed (contents_of so_far));
}

abbrev pub decreases-tokens : goal.decreases-tokens
decreases-tokens l = length l.text - l.at
