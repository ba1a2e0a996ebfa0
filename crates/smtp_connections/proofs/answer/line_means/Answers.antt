use Rattle.smtp_connections.proofs.answer.line_means.Goals as goal

pub returns-in_default : goal.returns-in_default
returns-in_default c = λ code last line. c.in_default.ensures code last line.text line.reads
