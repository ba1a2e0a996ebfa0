use Rattle.std.proofs.Common.{◌≡◌, ◌+◌, length, refl, arith}
use Rattle.lmtp_dialogue.proofs.TalkLemmas.{next_owed, none_owed}
use Rattle.lmtp_dialogue.proofs.talk.Talk.pass.Goals as goal

pub returns-then-told-count : goal.returns-then-told-count
returns-then-told-count c =
    let t = c.args.self.now in
    record {
      phase = rw c.requires.sends (next_owed t.sender t.recipients t.told (omega (arith, c.if-told-count.true, c.len-count.ensures)));
      hello = refl;
      text = rw c.requires.sends refl;
      limit = λ same. same;
    }

pub returns-else-told-count : goal.returns-else-told-count
returns-else-told-count c =
    let t = c.args.self.now in
    let same : t.told + 1 ≡ length t.recipients = omega (arith, c.if-told-count.false, c.len-count.ensures, c.requires.owed) in
    record {
      phase = rw (c.end_message.ensures.stage, c.requires.sends) (none_owed t.sender t.recipients t.told same);
      hello = c.end_message.ensures.hello;
      text = rw c.end_message.ensures.stage c.end_message.ensures.text;
      limit = λ limit. c.end_message.ensures.limit;
    }
