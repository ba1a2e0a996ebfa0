use Rattle.std.proofs.Common.{sym, ◌∙◌}
use Rattle.smtp_dialogue.proofs.MessageLemmas.{keeps}
use Rattle.smtp_dialogue.proofs.message.without_path.Goals as goal

pub returns-else-is_path : goal.returns-else-is_path
returns-else-is_path c = keeps c.args.message.now c.logical_line.result.0.now c.logical_line.result.1.now c.logical_line.ensures (sym c.is_path.ensures ∙ c.if-is_path.false)
