use Rattle.std.proofs.Common.{◌≡◌, true, slice_index, subst, sym, arith, ⊎_elim}
use Rattle.std.proofs.lemmas.Bool.{cases_eq}
use Rattle.std.proofs.lemmas.Nat.Bits.{bit_at_and}
use Rattle.sieve_match.proofs.masks.Masks.push_any.Goals as goal

pub returns : goal.returns
returns c fits n are takes =
    let self = c.args.self.now in
    let len = are.len in
    record {
      len = omega (arith, len);
      each = λ b j within below. ⊎_elim
          (λ same.
          let both = bit_at_and (slice_index self.octets b) self.choosy j in
          let free = (self.unasked j (omega (arith, same, len)) (omega (arith, same, len, c.requires))).0 in (
            λ _. subst (λ k. fits k b ≡ true) (sym same) (takes b within),
            λ _. omega (arith, both, free),
          ))
          (λ differs. are.each b j within (omega (arith, below, differs)))
          (cases_eq j n);
    }
