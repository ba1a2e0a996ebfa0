use Rattle.std.proofs.Common.{◌+◌, [], true, false, take, refl, sym, ap, ◌∙◌, subst, arith}
use Rattle.std.proofs.lemmas.List.{length-drop}
use Rattle.lmtp_dialogue.specs.Lines.{LineFinds}
use Rattle.lmtp_dialogue.specs.declared.command_line.Found.TheVariants as found
use Rattle.smtp_connections.specs.Answers.{IsLineOfReply}
use Rattle.smtp_connections.specs.declared.answer.SmtpAnswer.TheVariants.{Part, Whole, NoReply, LongLine}
use Rattle.smtp_connections.proofs.AnswerLemmas.{answer_more}
use Rattle.smtp_connections.proofs.answer.read_answer.Goals as goal

pub returns-in-Need : goal.returns-in-Need
returns-in-Need c = c.loop-count.invariant.joins [] Part (subst (LineFinds found.Need) c.split_at.ensures.back c.in-Need.ensures)

pub returns-in-TooLong : goal.returns-in-TooLong
returns-in-TooLong c = c.loop-count.invariant.joins [] LongLine (subst (LineFinds found.TooLong) c.split_at.ensures.back c.in-TooLong.ensures)

pub returns-in-Last : goal.returns-in-Last
returns-in-Last c =
    let left = c.split_at.ensures.back in
    let line = c.split_at-in-Line.ensures.front ∙ ap (take c.in-Line.count) left in
    c.loop-count.invariant.joins [] (Whole c.in-Last.code (c.loop-count.at + (c.in-Line.count + 2))) (
      c.in-Line.count,
      record {
        finds = subst (LineFinds (found.Line c.in-Line.count)) left c.in-Line.ensures;
        line = subst (λ l. IsLineOfReply c.loop-count.code l c.in-Last.code true) line c.in-Last.ensures;
      },
      refl,
    )

pub returns-in-None : goal.returns-in-None
returns-in-None c =
    let left = c.split_at.ensures.back in
    let line = c.split_at-in-Line.ensures.front ∙ ap (take c.in-Line.count) left in
    c.loop-count.invariant.joins [] NoReply (
      c.in-Line.count,
      record {
        finds = subst (LineFinds (found.Line c.in-Line.count)) left c.in-Line.ensures;
        none = λ code last it. c.in-None.ensures code last (subst (λ l. IsLineOfReply c.loop-count.code l code last) (sym line) it);
      },
    )

pub loop-count-preserved : goal.loop-count-preserved
loop-count-preserved c =
    let left = c.split_at.ensures.back in
    let line = c.split_at-in-Line.ensures.front ∙ ap (take c.in-Line.count) left in
    let finds = subst (LineFinds (found.Line c.in-Line.count)) left c.in-Line.ensures in
    let size = length-drop c.loop-count.at c.args.octets.now in
    let within = c.loop-count.invariant.within in
    answer_more c.args.octets.now c.loop-count.at c.in-Line.count c.in-More.same c.loop-count.code c.loop-count.invariant
    (record { finds = finds; line = subst (λ l. IsLineOfReply c.loop-count.code l c.in-More.same false) line c.in-More.ensures })
    (omega (arith, finds.2, size, within))
