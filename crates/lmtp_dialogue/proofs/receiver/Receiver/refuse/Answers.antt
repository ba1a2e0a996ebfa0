use Rattle.lmtp_dialogue.proofs.RefuseLemmas.{not_ready}
use Rattle.lmtp_dialogue.proofs.receiver.Receiver.refuse.Goals as goal

pub returns-in_default-clause-ok : goal.returns-in_default-clause-ok
returns-in_default-clause-ok c = not_ready c.args.self.now c.args.room c.args.out.now c.in_default.not-Ready
