use Rattle.std.proofs.Common.{◌≡◌, ◌+◌, ◌-◌, length, get_or, sym, ap, ◌∙◌, arith}
use Rattle.mail_parts.proofs.LookLemmas.{first_inside}
use Rattle.mail_parts.proofs.section.may_divide.Goals as goal

pub returns : goal.returns
returns c = λ is.
    let text = c.args.text.now in
    let size = length c.args.boundary.now in
    let place : size + 2 - 1 ≡ size + 1 = omega arith in
    first_inside c.args.boundary.now text c.if-text-place.false
    (λ same. c.if-text-place-eq10.false (ap (λ n. get_or text n 0) place ∙ same)) (sym c.may_follow.ensures ∙ is)
