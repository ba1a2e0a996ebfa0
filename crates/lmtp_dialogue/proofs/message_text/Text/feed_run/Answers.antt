use Rattle.lmtp_dialogue.proofs.FeedLemmas.{feeds_inside}
use Rattle.lmtp_dialogue.proofs.message_text.Text.feed_run.Goals as goal

pub returns-clause-feeds : goal.returns-clause-feeds
returns-clause-feeds c =
    feeds_inside c.args.self.now c.append.new.self c.args.octets.now c.run_length-count.result c.in-Inside.is c.append.ensures.place
    c.run_length-count.ensures.within c.run_length-count.ensures.other c.append.ensures.keeps
