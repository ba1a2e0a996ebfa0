use Rattle.std.proofs.Common.{take, length, ap, ◌∙◌, subst, arith}
use Rattle.std.proofs.lemmas.List.{length-drop, take_rest}
use Rattle.lmtp_dialogue.specs.Texts.{Feeds}
use Rattle.lmtp_dialogue.proofs.FeedLemmas.{feeds_up_to}
use Rattle.lmtp_dialogue.proofs.message_text.Text.feed.Goals as goal

pub loop-self-preserved : goal.loop-self-preserved
loop-self-preserved c =
    let i = c.loop-self.invariant in
    let rest = take_rest c.args.piece.now c.loop-self.taken in
    record {
      within = omega (arith, c.feed_some-count.ensures.within, ap length rest, length-drop c.loop-self.taken c.args.piece.now, i.within);
      feeds = feeds_up_to c.args.self.now c.loop-self.self c.feed_some-count.new.self c.args.piece.now c.loop-self.taken c.feed_some-count.result i.feeds
          (subst (λ octets. Feeds c.loop-self.self (take c.feed_some-count.result octets) c.feed_some-count.new.self) rest c.feed_some-count.ensures.feeds);
      limit = c.feed_some-count.ensures.limit ∙ i.limit;
      held = omega (arith, c.feed_some-count.ensures.held, i.held);
    }
