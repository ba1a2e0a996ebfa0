use Rattle.std.proofs.Common.{◌≡◌, ℕ, ◌+◌, ◌-◌, min, take, get_or, List, sym, ap, ◌∙◌, arith}
use Rattle.std.proofs.lemmas.Bool.{both_ways}
use Rattle.std.specs.Char.{is_ascii_digit}
use Rattle.octets.specs.Decimal.{number_of}
use Rattle.octets.proofs.DecimalLemmas.{number_of-more}
use Rattle.sieve_template.proofs.PathLemmas.{min_step}
use Rattle.sieve_template.proofs.TemplateLemmas.{number_digit}
use Rattle.sieve_template.proofs.reference.match_number.Goals as goal
use Rattle.sieve_template.proofs.reference.match_number.Goals.{then-is_ascii_digit, else-is_ascii_digit}

pub loop-octet-preserved : goal.loop-octet-preserved
loop-octet-preserved c =
    let digits : List ℕ = c.args.digits.now in
    let i : ℕ = c.loop-octet.octet-index in
    let digit = number_digit digits i c.requires c.loop-octet-test.true in
    let same : c.if-is_ascii_digit.number ≡ min (number_of (take (i + 1) digits)) 10 = elim c.if-is_ascii_digit.branch [
      | then-is_ascii_digit w ↦ w.number-is ∙ w.min-number.ensures ∙ min_step (number_of (take i digits)) (get_or digits i 0 - 48) c.loop-octet.number c.loop-octet.invariant.so_far
          ∙ ap (λ n. min n 10) (sym (number_of-more digits i c.loop-octet-test.true))
      | else-is_ascii_digit w ↦ absurd (both_ways (is_ascii_digit (get_or digits i 0)) (sym c.is_ascii_digit.ensures.value ∙ w.if-is_ascii_digit.false) digit)
    ] in
    record { few = omega (arith, same); so_far = same }
