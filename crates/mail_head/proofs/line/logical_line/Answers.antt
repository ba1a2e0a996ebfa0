use Rattle.std.proofs.Common.{sym, ◌∙◌}
use Rattle.mail_head.proofs.FoldLemmas.{folded_more}
use Rattle.mail_head.proofs.line.logical_line.Goals as goal

pub loop-after-preserved : goal.loop-after-preserved
loop-after-preserved c =
    folded_more c.args.text.now c.loop-after.after.now _ _ c.loop-after.invariant
    (sym c.begins_blank.ensures ∙ c.loop-after-test.true) c.first_line-in-loop-after.ensures
