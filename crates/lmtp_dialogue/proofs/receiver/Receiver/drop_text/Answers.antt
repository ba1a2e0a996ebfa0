use Rattle.std.proofs.Common.{refl}
use Rattle.lmtp_dialogue.proofs.FeedLemmas.{feeds_nothing}
use Rattle.lmtp_dialogue.proofs.ReceiverLemmas.{keeps_less}
use Rattle.lmtp_dialogue.proofs.receiver.Receiver.drop_text.Goals as goal

pub returns-in-Sending-clause-stands : goal.returns-in-Sending-clause-stands
returns-in-Sending-clause-stands c =
    keeps_less c.args.self.now _ c.in-Sending.is c.in-Sending.is refl refl refl
    (feeds_nothing c.args.self.now.talk.text c.give_up.new.self c.give_up.ensures.place c.give_up.ensures.keeps) c.give_up.ensures.place c.give_up.ensures.limit
