use Rattle.std.proofs.Common.{sym, ◌∙◌}
use Rattle.lmtp_dialogue.proofs.CopyLemmas.{no_path, no_line, path_more, shorter}
use Rattle.lmtp_dialogue.proofs.copy.without_paths.Goals as goal

pub loop-line-preserved : goal.loop-line-preserved
loop-line-preserved c = λ rest leaves.
    c.loop-line.invariant rest
    (path_more c.loop-line.left.now c.logical_line.result.0.now c.logical_line.result.1.now c.logical_line.ensures (sym c.is_path.ensures ∙ c.if-not-is_path.false) rest leaves)

pub loop-line-smaller : goal.loop-line-smaller
loop-line-smaller c = shorter c.loop-line.left.now c.logical_line.result.0.now c.logical_line.result.1.now c.logical_line.ensures

pub returns-then-not-is_path : goal.returns-then-not-is_path
returns-then-not-is_path c =
    c.loop-line.invariant c.loop-line.left.now
    (no_path c.loop-line.left.now c.logical_line.result.0.now c.logical_line.result.1.now c.logical_line.ensures (sym c.is_path.ensures ∙ c.if-not-is_path.true))

pub returns : goal.returns
returns c = c.loop-line.invariant c.loop-line.left.now (no_line c.loop-line.left.now (sym c.is_empty.ensures ∙ c.loop-line-test.false))
