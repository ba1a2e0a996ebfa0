use Rattle.std.proofs.Common.{refl, ap, drop, ◌∙◌}
use Rattle.std.proofs.Math.Seq.{drop-length}
use Rattle.lmtp_dialogue.proofs.ReceiverLemmas.{takes_over}
use Rattle.lmtp_dialogue.proofs.receiver.Receiver.take_in.Goals as goal

pub returns-in-Over-clause-takes : goal.returns-in-Over-clause-takes
returns-in-Over-clause-takes c =
    takes_over c.args.self.now _ c.in-Over.is refl
    (c.drop_front.ensures ∙ (ap (λ n. drop n c.args.self.now.unread) c.len.ensures ∙ drop-length c.args.self.now.unread))
