use Rattle.smtp_send.specs.Talks.{stages_behind}
use Rattle.smtp_send.proofs.dialogue.+speak.Given as goal

abbrev pub decreases-speak : goal.decreases-speak
decreases-speak g l = stages_behind l.stage
