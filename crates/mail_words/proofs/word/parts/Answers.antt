use Rattle.std.proofs.Common.{sym, ◌∙◌}
use Rattle.mail_words.proofs.PartLemmas.{parts_other}
use Rattle.mail_words.proofs.word.parts.Goals as goal

pub returns-else-are_equals_signs : goal.returns-else-are_equals_signs
returns-else-are_equals_signs c =
    parts_other c.args.run.now c.in_ok-front.front.now c.in_ok-front.after.now c.in_ok-set.set.now c.in_ok-set.after.now
    c.in_ok-encoding.encoding.now c.in_ok-encoding.after.now c.in_ok-text.text.now c.in_ok-text.back.now
    c.in_ok-front.ensures c.in_ok-set.ensures c.in_ok-encoding.ensures c.in_ok-text.ensures (sym c.are_equals_signs.ensures ∙ c.if-are_equals_signs.false)
