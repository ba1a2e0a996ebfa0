use Rattle.std.proofs.Common.{ap, ◌∙◌}
use Rattle.lmtp_dialogue.specs.Texts.{after}
use Rattle.lmtp_dialogue.proofs.FeedLemmas.{feeds_one}
use Rattle.lmtp_dialogue.proofs.message_text.Text.turn.Goals as goal

pub returns-clause-feeds : goal.returns-clause-feeds
returns-clause-feeds c =
    feeds_one c.args.self.now _ c.args.octet c.requires (c.after-self.ensures ∙ ap (λ p. after p c.args.octet) c.gain.ensures.place) c.gain.ensures.keeps
