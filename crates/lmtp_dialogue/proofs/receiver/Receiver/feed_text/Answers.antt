use Rattle.std.proofs.Common.{List, ℕ, ap, ◌∙◌, length, take, refl, subst}
use Rattle.lmtp_dialogue.specs.Texts.{Feeds}
use Rattle.lmtp_dialogue.proofs.ReceiverLemmas.{takes_text}
use Rattle.lmtp_dialogue.proofs.receiver.Receiver.feed_text.Goals as goal

pub returns-clause-takes : goal.returns-clause-takes
returns-clause-takes c =
    let same = c.as_slice.ensures in
    let feed = c.feed-taken in
    takes_text c.args.self.now _ feed.result c.requires c.requires refl refl c.drop_front.ensures
    (subst (λ u. Feeds c.args.self.now.talk.text (take feed.result u) feed.new.self) same feed.ensures.feeds)
    (λ goes. feed.ensures.whole goes ∙ ap (λ (u : List ℕ). length u) same) feed.ensures.limit
