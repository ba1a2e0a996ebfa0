use Rattle.std.proofs.Common.{refl}
use Rattle.lmtp_dialogue.specs.Dialogues.{dialogue_given}
use Rattle.lmtp_dialogue.proofs.ReceiverLemmas.{holds_more}
use Rattle.lmtp_dialogue.proofs.receiver.Receiver.give.Goals as goal

pub returns-clause-hears : goal.returns-clause-hears
returns-clause-hears c = λ d stands.
    c.take_in.ensures.takes (dialogue_given c.args.piece.now d)
    (holds_more c.args.self.now _ c.args.piece.now d refl refl c.in_ok-extend_from_slice.ensures.ok stands)
