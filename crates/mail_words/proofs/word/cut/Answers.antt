use Rattle.std.proofs.Common.{◌∷◌, ◌+◌, drop, sym, ap, ◌∙◌}
use Rattle.mail_words.specs.Words.{between_questions}
use Rattle.mail_words.proofs.PartLemmas.{part_at, part_none}
use Rattle.mail_words.proofs.word.cut.Goals as goal

pub returns-in_err-at : goal.returns-in_err-at
returns-in_err-at c = rw c.from_residual.ensures (part_none c.args.text.now c.in_err-at.ensures)

pub returns : goal.returns
returns c =
    part_at c.args.text.now c.in_ok-at.at c.in_ok-at.ensures
    ∙ (ap (λ t. t ∷ between_questions (drop (c.in_ok-at.at + 1) c.args.text.now)) (sym c.split_at.ensures.front)
    ∙ ap (λ t. c.split_at.result.0.now ∷ between_questions t) (sym c.split_at-2.ensures.back))
