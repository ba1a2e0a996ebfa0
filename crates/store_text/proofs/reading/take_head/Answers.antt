-- A text with other lines in front has other things once.
use Rattle.std.proofs.Common.{◌≡◌, ◌∙◌, ap, true, false}
use Rattle.std.proofs.lemmas.Result.{err_from_is_err_and}
use Rattle.store_text.specs.Order.{are_numbers}
use Rattle.store_text.proofs.ReadLemmas.{head_then, owner_next, numbers_next, numbers_same, numbers_fields_small, head_numbers}
use Rattle.store_text.proofs.reading.take_head.Goals as goal

pub returns-in_err-rest-clause-none : goal.returns-in_err-rest-clause-none
returns-in_err-rest-clause-none c =
    let p = err_from_is_err_and c.from_residual.result c.from_residual.ensures.1 in
    rw (p.1, p.2) (λ same head more is written. c.in_err-rest.ensures.none same _ (written ∙ head_then head more))

pub returns-in_err-owner-clause-none : goal.returns-in_err-owner-clause-none
returns-in_err-owner-clause-none c =
    let p = err_from_is_err_and c.from_residual-in_err-owner.result c.from_residual-in_err-owner.ensures.1 in
    rw (p.1, p.2) (λ same head more is written. c.in_err-owner.ensures.none same head.owner _ tt is.small (owner_next c.args.text.now c.in_ok-rest.rest.now c.in_ok-rest.ensures.found head more is written))

pub returns-in_err-numbers-clause-none : goal.returns-in_err-numbers-clause-none
returns-in_err-numbers-clause-none c =
    let p = err_from_is_err_and c.from_residual-in_err-numbers.result c.from_residual-in_err-numbers.ensures.1 in
    rw (p.1, p.2)
    (λ same head more is written. c.in_err-numbers.ensures.none same head.numbers _ (head_numbers head is) (numbers_fields_small head.numbers (head_numbers head is))
    (numbers_next c.args.text.now c.in_ok-rest.rest.now c.in_ok-rest.ensures.found head more is written c.in_ok-owner.owner c.in_ok-owner.rest.now c.in_ok-owner.ensures.found c.in_ok-owner.ensures.small))

pub returns-then-not-are_numbers-clause-none : goal.returns-then-not-are_numbers-clause-none
returns-then-not-are_numbers-clause-none c = λ same head more is written.
    let one = numbers_same c.args.text.now c.in_ok-rest.rest.now c.in_ok-rest.ensures.found head more is written c.in_ok-owner.owner c.in_ok-owner.rest.now c.in_ok-owner.ensures.found c.in_ok-owner.ensures.small
    c.in_ok-numbers.numbers c.in_ok-numbers.rest.now c.in_ok-numbers.ensures.found c.in_ok-numbers.ensures.fits c.in_ok-numbers.ensures.small in
    let no : false ≡ true = c.if-not-are_numbers.ensures ∙ (ap are_numbers one.0 ∙ is.counters) in
    cc
