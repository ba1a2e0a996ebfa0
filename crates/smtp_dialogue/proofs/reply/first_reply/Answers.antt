use Rattle.std.proofs.Common.{take, drop, subst, sym, ap, ◌∙◌}
use Rattle.lmtp_dialogue.specs.Lines.{LineFinds}
use Rattle.lmtp_dialogue.specs.declared.command_line.Found.TheVariants as found
use Rattle.smtp_dialogue.specs.Replies.{IsReplyLine}
use Rattle.smtp_dialogue.proofs.ReplyLemmas.{begins_more, hears_need, hears_long, hears_bad}
use Rattle.smtp_dialogue.proofs.reply.first_reply.Goals as goal

pub returns-in-Need : goal.returns-in-Need
returns-in-Need c =
    hears_need c.args.octets.now c.loop-count.at c.loop-count.code c.loop-count.invariant (subst (LineFinds found.Need) c.split_at.ensures.back c.in-Need.ensures)

pub returns-in-TooLong : goal.returns-in-TooLong
returns-in-TooLong c =
    hears_long c.args.octets.now c.loop-count.at c.loop-count.code c.loop-count.invariant (subst (LineFinds found.TooLong) c.split_at.ensures.back c.in-TooLong.ensures)

pub returns-in_default : goal.returns-in_default
returns-in_default c =
    let left = c.split_at.ensures.back in
    let line = c.split_at-in-Line.ensures.front ∙ ap (take c.in-Line.count) left in
    hears_bad c.args.octets.now c.loop-count.at c.in-Line.count c.loop-count.code c.loop-count.invariant (subst (LineFinds (found.Line c.in-Line.count)) left c.in-Line.ensures)
    (λ code last text is. c.in_default.ensures code last text (subst (λ l. IsReplyLine l code last text) (sym line) is))

pub loop-count-preserved : goal.loop-count-preserved
loop-count-preserved c =
    let it = c.in-Some.line in
    let left = c.split_at.ensures.back in
    let line = c.split_at-in-Line.ensures.front ∙ ap (take c.in-Line.count) left in
    begins_more c.args.octets.now c.loop-count.at c.in-Line.count it.code c.loop-count.code it.text.now c.loop-count.invariant
    (subst (LineFinds (found.Line c.in-Line.count)) left c.in-Line.ensures)
    (subst (λ last. IsReplyLine (take c.in-Line.count (drop c.loop-count.at c.args.octets.now)) it.code last it.text.now) c.if-line.false
    (subst (λ l. IsReplyLine l it.code it.is_last it.text.now) line c.in-Some.ensures.0))
    c.in-Some.ensures.1
