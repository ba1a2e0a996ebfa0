use Rattle.std.proofs.Common.{ap, drop, ◌∙◌}
use Rattle.smtp_dialogue.proofs.ExtensionLemmas.{more, ended}
use Rattle.smtp_dialogue.proofs.extension.Extensions.with_lines.Goals as goal

pub loop-count-preserved : goal.loop-count-preserved
loop-count-preserved c =
    more c.args.octets.now c.loop-count.left.now c.behind_end-left.result.now c.in-Line.count c.split_at.result.0.now c.args.self c.loop-count.offered c.with_line-offered.result c.in-Line.ensures
    c.split_at.ensures.front (c.behind_end-left.ensures ∙ ap (drop 2) c.split_at.ensures.back) c.with_line-offered.ensures c.loop-count.invariant

pub returns : goal.returns
returns c = ended c.args.octets.now c.loop-count.left.now c.args.self c.loop-count.offered c.find_line.result c.find_line.ensures c.in_default.not-Line c.loop-count.invariant
