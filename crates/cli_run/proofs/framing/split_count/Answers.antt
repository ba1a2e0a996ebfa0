use Rattle.std.proofs.Common.{◌≡◌, ◌∷◌, length, get_or, drop, ap, sym, subst, take, ◌∙◌, arith}
use Rattle.std.proofs.lemmas.List.Sums.{prefix_len-le-length}
use Rattle.octets.specs.Ascii.{is_digit}
use Rattle.octets.specs.Decimal.{Writes}
use Rattle.cli_run.proofs.FramingLemmas.{cut, counts_small}
use Rattle.cli_run.proofs.framing.split_count.Goals as goal

pub returns-then-len-gt-MAX_DIGITS : goal.returns-then-len-gt-MAX_DIGITS
returns-then-len-gt-MAX_DIGITS c number rest counts =
    omega (arith, (cut c.args.input.now number rest counts).short, c.digits_len-len.ensures, c.if-len-gt-MAX_DIGITS.true)

pub split_at-requires : goal.split_at-requires
split_at-requires c = omega (arith, c.digits_len-len.ensures, prefix_len-le-length is_digit c.args.input.now)

pub returns-in_err-mark : goal.returns-in_err-mark
returns-in_err-mark c = rw c.from_residual.ensures (λ number rest counts.
    let after : c.split_at.result.1.now ≡ 10 ∷ rest =
    c.split_at.ensures.back ∙ ap (λ n. drop n c.args.input.now) c.digits_len-len.ensures ∙ (cut c.args.input.now number rest counts).after in
    omega (arith, c.in_err-mark.ensures.cases, ap length after))

pub returns-then-mark-ne10 : goal.returns-then-mark-ne10
returns-then-mark-ne10 c number rest counts =
    let after : c.split_at.result.1.now ≡ 10 ∷ rest =
    c.split_at.ensures.back ∙ ap (λ n. drop n c.args.input.now) c.digits_len-len.ensures ∙ (cut c.args.input.now number rest counts).after in
    c.if-mark-ne10.true (ap (λ l. get_or l 0 0) (sym c.in_ok-mark.ensures.cases.0 ∙ after))

pub returns-in_err-number : goal.returns-in_err-number
returns-in_err-number c = rw c.from_residual-in_err-number.ensures (λ number rest counts.
    let written = (cut c.args.input.now number rest counts).written in
    let front = c.split_at.ensures.front in
    c.in_err-number.ensures number (counts_small c.args.input.now number rest counts)
    (subst (λ text. Writes text number) (ap (λ n. take n c.args.input.now) (sym c.digits_len-len.ensures) ∙ sym front) written))
