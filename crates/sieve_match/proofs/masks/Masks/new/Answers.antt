use Rattle.std.proofs.Common.{ap, ◌∙◌, arith}
use Rattle.std.specs.Int.{bit_at}
use Rattle.std.proofs.lemmas.Nat.Bits.{bit_at_ones, bit_at-zero}
use Rattle.sieve_match.proofs.masks.Masks.new.Goals as goal

pub invariant_of-result : goal.invariant_of-result
invariant_of-result c = record {
  short = omega arith;
  unasked = λ j from low. (bit_at-zero j, λ b within. ap (λ m. bit_at m j) (c.full.ensures b within) ∙ bit_at_ones 64 j low);
}
