use Rattle.smtp_dialogue.proofs.AddressLemmas.{found_doubled, one_doubled, no_first, no_second, none_told}
use Rattle.smtp_dialogue.proofs.address.cut_doubled.Goals as goal

pub returns-in_err-strip-clause-none : goal.returns-in_err-strip-clause-none
returns-in_err-strip-clause-none c =
    none_told c.from_residual.result (no_first c.args.text.now c.split_at.result.1.now c.before_doubled.result c.before_doubled.ensures.value c.split_at.ensures.back c.in_err-strip.ensures.none)

pub returns-in_err-rest-clause-none : goal.returns-in_err-rest-clause-none
returns-in_err-rest-clause-none c =
    none_told c.from_residual-in_err-rest.result
    (no_second c.args.text.now c.split_at.result.1.now c.in_ok-strip.field-0.now c.before_doubled.result c.before_doubled.ensures.value c.split_at.ensures.back c.in_ok-strip.ensures.found c.in_err-rest.ensures.none)

pub returns-clause-one : goal.returns-clause-one
returns-clause-one c =
    one_doubled c.args.text.now c.split_at.result.0.now c.split_at.result.1.now c.in_ok-strip.field-0.now c.in_ok-rest.rest.now c.before_doubled.result c.before_doubled.ensures.value c.split_at.ensures.front c.split_at.ensures.back
    c.in_ok-strip.ensures.found c.in_ok-rest.ensures.found
