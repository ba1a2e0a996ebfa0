use Rattle.std.proofs.Common.{[]}
use Rattle.lmtp_dialogue.proofs.AnswerLemmas.{not_sent, pass_none}
use Rattle.lmtp_dialogue.proofs.receiver.Receiver.pass.Goals as goal

pub returns-in_default-clause-goes : goal.returns-in_default-clause-goes
returns-in_default-clause-goes c = pass_none c.args.self.now (λ outcome. not_sent c.args.self.now outcome [] c.in_default.not-Sending)
