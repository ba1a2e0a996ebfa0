use Rattle.std.proofs.Common.{◌≡◌, ◌+◌, ◌++◌, take}
use Rattle.lmtp_dialogue.proofs.recipient_reply.write.Given as goal

-- what was written so far, and the room that is left
abbrev pub invariant-loop-octet : goal.invariant-loop-octet
invariant-loop-octet l = record {
  items : l.lines.items ≡ l.initial.lines.items ++ take l.octet-index l.more;
  len : l.lines.len ≡ l.initial.lines.len + l.octet-index;
  cap : l.lines.cap ≡ l.initial.lines.cap;
}
