use Rattle.std.proofs.Common.{◌∙◌}
use Rattle.managesieve_protocol.proofs.Verbs.{same_word_end}
use Rattle.managesieve_protocol.proofs.command_name.spells.Goals as goal

pub returns : goal.returns
returns c = c.is_empty.ensures ∙ same_word_end c.loop-letter.wanted.now c.loop-letter.unread.now c.in_default.ensures.cases ∙ c.loop-letter.invariant
