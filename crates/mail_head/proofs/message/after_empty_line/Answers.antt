use Rattle.std.proofs.Common.{sym, ap, ◌∙◌}
use Rattle.mail_head.specs.Cuts.{after_empty}
use Rattle.mail_head.specs.Lines.{lines_of}
use Rattle.mail_head.proofs.MessageLemmas.{after_empty-feed, after_empty-return}
use Rattle.mail_head.proofs.message.after_empty_line.Goals as goal

pub returns-in-10 : goal.returns-in-10
returns-in-10 c =
    sym (ap (λ t. after_empty (lines_of t)) c.in_ok-first.ensures.cases.0
    ∙ after_empty-feed c.in_ok-first.first.now c.in_ok-first.rest.now c.in-10.is)

pub returns-in-13 : goal.returns-in-13
returns-in-13 c =
    c.after_feed.ensures
    ∙ sym (ap (λ t. after_empty (lines_of t)) c.in_ok-first.ensures.cases.0
    ∙ after_empty-return c.in_ok-first.first.now c.in_ok-first.rest.now c.in-13.is)
