use Rattle.std.proofs.Common.{[], refl, sym, ◌∙◌}
use Rattle.lmtp_dialogue.specs.declared.receiver.Receiver.{Receiver}
use Rattle.lmtp_dialogue.proofs.AnswerLemmas.{not_whole, pass_none, pass_goes}
use Rattle.lmtp_dialogue.proofs.receiver.Receiver.pass_next.Goals as goal

pub returns-then-not-has_ended-clause-goes : goal.returns-then-not-has_ended-clause-goes
returns-then-not-has_ended-clause-goes c =
    pass_none c.args.self.now
    (λ outcome. not_whole c.args.self.now outcome [] c.requires (λ ended. absurd (cc (sym c.if-not-has_ended.true ∙ c.has_ended.ensures.1 ended))))

pub returns-clause-goes : goal.returns-clause-goes
returns-clause-goes c =
    let r = c.args.self.now in
    let m : Receiver = record { unread = r.unread; long = r.long; talk = c.pass.new.self } in
    pass_goes r m c.take_in.new.self c.requires (c.has_ended.ensures.0 c.if-not-has_ended.false) c.pass.ensures refl refl c.take_in.ensures.takes
