use Rattle.lmtp_dialogue.proofs.AnswerLemmas.{not_sent}
use Rattle.lmtp_dialogue.proofs.receiver.Receiver.report.Goals as goal

pub returns-in_default-clause-ok : goal.returns-in_default-clause-ok
returns-in_default-clause-ok c = not_sent c.args.self.now c.args.outcome.now c.args.out.now c.in_default.not-Sending
