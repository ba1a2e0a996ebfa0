use Rattle.std.proofs.Common.{sym, ◌∙◌}
use Rattle.smtp_dialogue.proofs.MessageLemmas.{feed, plain, bare}
use Rattle.smtp_dialogue.proofs.message.size_of.Goals as goal
use Rattle.smtp_dialogue.proofs.message.size_of.Goals.{then-octet-ne13-via-then-octet-ne13, then-octet-ne13-via-else-octet-ne13+then-not-begins_feed}

pub loop-octet-preserved-then-octet-eq10 : goal.loop-octet-preserved-then-octet-eq10
loop-octet-preserved-then-octet-eq10 c =
    feed c.args.text.now c.loop-octet.left.now c.in-Some.rest.now c.in-Some.octet.now c.loop-octet.place c.loop-octet.size c.loop-octet.invariant c.in-Some.ensures.cases.0 c.if-octet-eq10.true

pub loop-octet-preserved-then-octet-ne13 : goal.loop-octet-preserved-then-octet-ne13
loop-octet-preserved-then-octet-ne13 c =
    elim c.then-octet-ne13.branch [
      | then-octet-ne13-via-then-octet-ne13 w ↦
          plain c.args.text.now c.loop-octet.left.now c.in-Some.rest.now c.in-Some.octet.now c.loop-octet.place c.loop-octet.size c.loop-octet.invariant c.in-Some.ensures.cases.0
          c.if-octet-eq10.false w.if-octet-ne13.true
      | then-octet-ne13-via-else-octet-ne13+then-not-begins_feed w ↦
          bare c.args.text.now c.loop-octet.left.now c.in-Some.rest.now c.in-Some.octet.now c.loop-octet.place c.loop-octet.size c.loop-octet.invariant c.in-Some.ensures.cases.0
          c.if-octet-eq10.false w.if-octet-ne13.false (sym w.begins_feed.ensures ∙ w.if-not-begins_feed.true)
    ]
