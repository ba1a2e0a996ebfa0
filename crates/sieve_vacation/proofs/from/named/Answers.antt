use Rattle.std.proofs.Common.{◌++◌, ap, ◌∙◌}
use Rattle.std.specs.Prelude.{codes}
use Rattle.mail_address.specs.Spelling.{address_spelling}
use Rattle.sieve_vacation.proofs.ReplyLemmas.{named_is}
use Rattle.sieve_vacation.proofs.from.named.Goals as goal

pub returns : goal.returns
returns c =
    named_is c.args.from.now c.as_slice.result.now c.in-Some.display.now (address_spelling c.args.from.now.address) c.in_ok-value.value c.push_parts.new.out c.is_empty.result
    c.as_slice.ensures c.in-Some.ensures c.is_empty.ensures c.if-is_empty.false c.in_ok-value.ensures
    (c.in_ok-push_parts.ensures ∙ ap (λ t. c.in_ok-value.value ++ (codes " <" ++ (t ++ codes ">"))) (c.as_slice-2.ensures ∙ c.in_ok-address.ensures.spelled))
