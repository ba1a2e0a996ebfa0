use Rattle.std.proofs.Common.{refl}
use Rattle.lmtp_dialogue.specs.declared.receiver.Receiver.{Receiver}
use Rattle.lmtp_dialogue.proofs.AnswerLemmas.{admits, admits_none}
use Rattle.lmtp_dialogue.proofs.receiver.Receiver.admit.Goals as goal

pub returns-in-Asking-clause-goes : goal.returns-in-Asking-clause-goes
returns-in-Asking-clause-goes c =
    let r = c.args.self.now in
    let s : Receiver = record { unread = r.unread; long = r.long; talk = c.admit.new.self } in
    admits r s c.args.lookup c.in-Asking.is c.admit.ensures refl refl

pub returns-in_default-clause-goes : goal.returns-in_default-clause-goes
returns-in_default-clause-goes c = admits_none c.args.self.now c.args.lookup c.in_default.not-Asking
