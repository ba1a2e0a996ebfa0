use Rattle.std.proofs.Common.{◌++◌, ap, ◌∙◌, subst}
use Rattle.lmtp_dialogue.specs.Lines.{LineFinds}
use Rattle.lmtp_dialogue.specs.Receivers.{IsOverRoom}
use Rattle.lmtp_dialogue.proofs.RefuseLemmas.{no_mail, has_room, refuses}
use Rattle.lmtp_dialogue.proofs.receiver.Receiver.refuse_line.Goals as goal

pub returns-in_default-clause-ok : goal.returns-in_default-clause-ok
returns-in_default-clause-ok c =
    no_mail c.args.self.now c.args.room c.find_line.result c.args.out.now c.requires c.in_default.not-Line (subst (LineFinds c.find_line.result) c.as_slice.ensures c.find_line.ensures)

pub returns-then-not-is_over-clause-ok : goal.returns-then-not-is_over-clause-ok
returns-then-not-is_over-clause-ok c =
    let r = c.args.self.now in
    let found = subst (λ f. LineFinds f r.unread) c.in-Line.is (subst (LineFinds c.find_line.result) c.as_slice.ensures c.find_line.ensures) in
    has_room r c.args.room c.in-Line.count c.args.out.now c.requires found (subst (IsOverRoom c.args.room r c.in-Line.count) c.if-not-is_over.true c.is_over.ensures)

pub returns-clause-ok : goal.returns-clause-ok
returns-clause-ok c =
    let r = c.args.self.now in
    let found = subst (λ f. LineFinds f r.unread) c.in-Line.is (subst (LineFinds c.find_line.result) c.as_slice.ensures c.find_line.ensures) in
    refuses r c.take_in.new.self c.args.room c.in-Line.count c.drop_front.new.self c.args.out.now c.extend_from_slice.new.self c.requires found
    (subst (IsOverRoom c.args.room r c.in-Line.count) c.if-not-is_over.false c.is_over.ensures) (c.in_ok-extend_from_slice.ensures.ok ∙ ap (λ line. c.args.out.now ++ line) c.line.ensures) c.drop_front.ensures c.take_in.ensures.takes
