use Rattle.std.proofs.Common.{sym, ◌∙◌}
use Rattle.lmtp_dialogue.proofs.NextLemmas.{no_text_in, sending_is_heard, delivery_in}
use Rattle.lmtp_dialogue.proofs.receiver.Receiver.next_delivery.Goals as goal

pub returns-then-not-has_ended : goal.returns-then-not-has_ended
returns-then-not-has_ended c = λ d stands. (
  sending_is_heard c.args.self.now d c.requires stands,
  no_text_in c.args.self.now d c.requires stands (λ ended. absurd (cc (sym c.if-not-has_ended.true ∙ c.has_ended.ensures.1 ended))),
)

pub returns : goal.returns
returns c = λ d stands.
    delivery_in c.args.self.now d c.delivery.result c.requires stands (c.has_ended.ensures.0 c.if-not-has_ended.false)
    c.delivery.ensures.sender c.delivery.ensures.recipient c.delivery.ensures.text
