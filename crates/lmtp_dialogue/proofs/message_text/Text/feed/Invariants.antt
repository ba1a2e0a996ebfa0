use Rattle.std.proofs.Common.{◌≡◌, ◌+◌, ◌-◌, ◌≤◌, length, take}
use Rattle.lmtp_dialogue.specs.Texts.{Feeds, held_text}
use Rattle.lmtp_dialogue.proofs.message_text.Text.feed.Given as goal

abbrev pub invariant-loop-self : goal.invariant-loop-self
invariant-loop-self l = record {
  within : l.taken ≤ length l.piece;
  feeds : Feeds l.fn.self (take l.taken l.piece) l.self;
  limit : l.self.limit ≡ l.fn.self.limit;
  held : held_text l.self ≤ held_text l.fn.self + l.taken;
}

abbrev pub decreases-loop-self : goal.decreases-loop-self
decreases-loop-self l = length l.piece - l.taken
