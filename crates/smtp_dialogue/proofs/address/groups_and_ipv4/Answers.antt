use Rattle.std.proofs.Common.{sym, ◌∙◌}
use Rattle.smtp_dialogue.proofs.AddressLemmas.{groups_by_last, none_by_last}
use Rattle.smtp_dialogue.proofs.address.groups_and_ipv4.Goals as goal

pub returns-then-is_ipv4 : goal.returns-then-is_ipv4
returns-then-is_ipv4 c = λ count.
    groups_by_last c.args.text.now c.in-Some.cut.front.now c.in-Some.cut.rest.now c.groups_of.result c.in-Some.ensures.found c.groups_of.ensures (sym c.is_ipv4.ensures ∙ c.if-is_ipv4.true) count

pub returns-else-is_ipv4 : goal.returns-else-is_ipv4
returns-else-is_ipv4 c = λ count. none_by_last c.args.text.now c.in-Some.cut.front.now c.in-Some.cut.rest.now c.in-Some.ensures.found (sym c.is_ipv4.ensures ∙ c.if-is_ipv4.false) count
