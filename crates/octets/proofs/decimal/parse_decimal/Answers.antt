use Rattle.std.proofs.Common.{◌≡◌, ◌∙◌, sym, ap, arith, get_or, ◌+◌, ◌*◌, ◌-◌, true}
use Rattle.std.proofs.lemmas.List.Elements.{All-more}
use Rattle.octets.specs.Ascii.{is_digit}
use Rattle.octets.proofs.DecimalLemmas.{number_of-take, number_of-more}
use Rattle.octets.proofs.decimal.parse_decimal.Goals as goal

pub returns-then-number-digit : goal.returns-then-number-digit
returns-then-number-digit c = λ n small writes.
    let text = c.args.text.now in
    let i = c.loop-octet.octet-index in
    omega (arith, writes.value, number_of-take text (i + 1), number_of-more text i c.loop-octet-test.true, c.loop-octet.invariant.so_far)

pub loop-octet-preserved : goal.loop-octet-preserved
loop-octet-preserved c =
    let text = c.args.text.now in
    let i = c.loop-octet.octet-index in
    record {
      so_far = ap (λ n. n * 10 + (get_or text i 0 - 48)) c.loop-octet.invariant.so_far ∙ sym (number_of-more text i c.loop-octet-test.true);
      digits = All-more (λ x. is_digit x ≡ true) text i 0 c.loop-octet-test.true c.loop-octet.invariant.digits (sym c.is_ascii_digit.ensures.value ∙ c.if-not-is_ascii_digit.false);
    }
