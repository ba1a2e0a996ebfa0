use Rattle.std.proofs.Common.{sym, ◌∙◌}
use Rattle.smtp_dialogue.proofs.AddressLemmas.{alone_or_not, not_alone}
use Rattle.smtp_dialogue.proofs.address.ends_in_ipv4.Goals as goal

pub returns-then-is_ipv4 : goal.returns-then-is_ipv4
returns-then-is_ipv4 c = λ count. alone_or_not c.args.text.now (sym c.is_ipv4.ensures ∙ c.if-is_ipv4.true) count

pub returns : goal.returns
returns c = λ count. not_alone c.args.text.now c.groups_and_ipv4.result (sym c.is_ipv4.ensures ∙ c.if-is_ipv4.false) c.groups_and_ipv4.ensures count
