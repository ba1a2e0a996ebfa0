use Rattle.std.proofs.Common.{refl, sym, ◌∙◌}
use Rattle.lmtp_dialogue.specs.declared.receiver.Receiver.{Receiver}
use Rattle.lmtp_dialogue.proofs.AnswerLemmas.{not_whole, report_goes}
use Rattle.lmtp_dialogue.proofs.receiver.Receiver.report_next.Goals as goal

pub returns-then-not-has_ended-clause-ok : goal.returns-then-not-has_ended-clause-ok
returns-then-not-has_ended-clause-ok c =
    not_whole c.args.self.now c.args.outcome.now c.args.out.now c.requires (λ ended. absurd (cc (sym c.if-not-has_ended.true ∙ c.has_ended.ensures.1 ended)))

pub returns-clause-ok : goal.returns-clause-ok
returns-clause-ok c =
    let r = c.args.self.now in
    let m : Receiver = record { unread = r.unread; long = r.long; talk = c.report.new.self } in
    report_goes r m c.take_in.new.self c.args.outcome.now c.args.out.now c.report.new.out c.requires (c.has_ended.ensures.0 c.if-not-has_ended.false)
    c.in_ok-report.ensures.ok refl refl c.take_in.ensures.takes
