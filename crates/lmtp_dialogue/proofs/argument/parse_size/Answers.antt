use Rattle.std.proofs.Common.{sym, ◌∙◌}
use Rattle.lmtp_dialogue.proofs.ParameterLemmas.{size_greatest, size_none}
use Rattle.lmtp_dialogue.proofs.argument.parse_size.Goals as goal

pub returns-then-is_number-clause-found : goal.returns-then-is_number-clause-found
returns-then-is_number-clause-found c = size_greatest c.args.digits.now c.in_default.ensures (sym c.is_number.ensures ∙ c.if-is_number.true)

pub returns-else-is_number-clause-none : goal.returns-else-is_number-clause-none
returns-else-is_number-clause-none c = size_none c.args.digits.now (sym c.is_number.ensures ∙ c.if-is_number.false)
