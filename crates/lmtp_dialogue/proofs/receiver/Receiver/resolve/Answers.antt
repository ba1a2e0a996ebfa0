use Rattle.std.proofs.Common.{refl}
use Rattle.lmtp_dialogue.specs.declared.receiver.Receiver.{Receiver}
use Rattle.lmtp_dialogue.proofs.AnswerLemmas.{not_asked, resolves}
use Rattle.lmtp_dialogue.proofs.receiver.Receiver.resolve.Goals as goal

pub returns-in_ok-resolve-in-Asking-clause-ok : goal.returns-in_ok-resolve-in-Asking-clause-ok
returns-in_ok-resolve-in-Asking-clause-ok c =
    let r = c.args.self.now in
    let s : Receiver = record { unread = r.unread; long = r.long; talk = c.resolve.new.self } in
    resolves r s c.args.lookup c.args.out.now c.resolve.new.out c.in-Asking.is c.in_ok-resolve-in-Asking.ensures.ok refl refl

pub returns-in_default-clause-ok : goal.returns-in_default-clause-ok
returns-in_default-clause-ok c = not_asked c.args.self.now c.args.lookup c.args.out.now c.in_default.not-Asking
