use Rattle.std.proofs.Common.{◌≡◌, drop}
use Rattle.std.specs.List.{list_any}
use Rattle.lmtp_dialogue.specs.Copies.{tells_delivery, was_delivered}
use Rattle.mail_head.specs.Fields.{field_texts_of}
use Rattle.lmtp_dialogue.proofs.copy.was_delivered.Given as goal

abbrev pub invariant-loop-field : goal.invariant-loop-field
invariant-loop-field l = list_any (tells_delivery l.recipient) (field_texts_of (drop l.field-index l.field-items)) ≡ was_delivered l.recipient l.fn.head
