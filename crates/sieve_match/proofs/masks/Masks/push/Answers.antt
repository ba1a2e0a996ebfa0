use Rattle.std.proofs.Common.{ℕ, ap, ◌∙◌, arith}
use Rattle.sieve_match.proofs.MaskLemmas.{IsCleared, unasked_after, each_after}
use Rattle.sieve_match.proofs.masks.Masks.push.Goals as goal

pub invariant_of-self : goal.invariant_of-self
invariant_of-self g c =
    let self = c.args.self.now in
    let first : IsCleared c.args.octet self.len c.clear.new.octets self.octets = record { others = c.clear.ensures.others; cleared = c.clear.ensures.cleared; kept = c.clear.ensures.kept } in
    let second : IsCleared c.other.result self.len c.clear-2.new.octets c.clear.new.octets = record { others = c.clear-2.ensures.others; cleared = c.clear-2.ensures.cleared; kept = c.clear-2.ensures.kept } in
    record {
      short = omega (arith, c.requires);
      unasked = unasked_after self.octets c.clear.new.octets c.clear-2.new.octets self.choosy self.len c.args.octet c.other.result c.requires self.unasked first second;
    }

pub returns : goal.returns
returns g c fits n are takes =
    let self = c.args.self.now in
    let f : ℕ → ℕ = g.C.Comparator.image_of in
    let first : IsCleared c.args.octet self.len c.clear.new.octets self.octets = record { others = c.clear.ensures.others; cleared = c.clear.ensures.cleared; kept = c.clear.ensures.kept } in
    let second : IsCleared c.other.result self.len c.clear-2.new.octets c.clear.new.octets = record { others = c.clear-2.ensures.others; cleared = c.clear-2.ensures.cleared; kept = c.clear-2.ensures.kept } in
    let len = are.len in
    record {
      len = omega (arith, len);
      each = λ b j within below.
          each_after self.octets c.clear.new.octets c.clear-2.new.octets self.choosy self.len c.args.octet c.other.result c.requires self.unasked first second
          fits f (λ o low. ap (λ k. fits k o) len ∙ takes o low) (λ o low. c.other.ensures o low)
          (λ o i low early. are.each o i low (omega (arith, early, len))) b j within (omega (arith, below, len));
    }
