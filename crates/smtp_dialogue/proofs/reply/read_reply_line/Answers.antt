use Rattle.std.proofs.Common.{◌∷◌, ap, ◌∙◌}
use Rattle.smtp_dialogue.proofs.ReplyLemmas.{no_code}
use Rattle.smtp_dialogue.proofs.reply.read_reply_line.Goals as goal

pub returns-in-None : goal.returns-in-None
returns-in-None c =
    let first = c.in_ok-first.ensures.cases.0 in
    let second = c.in_ok-second.ensures.cases.0 in
    let third = c.in_ok-third.ensures.cases.0 in
    no_code c.in_ok-first.first.now c.in_ok-second.second.now c.in_ok-third.third.now c.in_ok-third.rest.now c.args.line.now
    (first ∙ ap (λ t. c.in_ok-first.first.now ∷ t) (second ∙ ap (λ t. c.in_ok-second.second.now ∷ t) third)) c.in-None.ensures
