use Rattle.std.proofs.Common.{◌+◌, take, drop, subst}
use Rattle.lmtp_dialogue.specs.Lines.{LineFinds}
use Rattle.lmtp_dialogue.specs.Talks.{item_by}
use Rattle.lmtp_dialogue.proofs.NextLemmas.{first_line_in, is_line_by, no_line_in, heard_in}
use Rattle.lmtp_dialogue.proofs.receiver.Receiver.next_line.Goals as goal

pub returns-in-Line : goal.returns-in-Line
returns-in-Line c = λ d stands.
    let r = c.args.self.now in
    let count = c.in-Line.field-0 in
    let found = subst (λ f. LineFinds f r.unread) c.in-Line.is (subst (LineFinds c.find_line.result) c.as_slice.ensures c.find_line.ensures) in
    (item_by r.long (take count r.unread), drop (count + 2) r.unread, first_line_in r d count c.requires stands found, is_line_by r.long (take count r.unread))

pub returns-in_default : goal.returns-in_default
returns-in_default c = λ d stands.
    let r = c.args.self.now in
    (heard_in r d c.requires stands, no_line_in r d c.find_line.result c.requires stands c.in_default.not-Line (subst (LineFinds c.find_line.result) c.as_slice.ensures c.find_line.ensures))
