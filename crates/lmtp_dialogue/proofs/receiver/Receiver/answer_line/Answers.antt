use Rattle.std.proofs.Common.{take, false, refl, subst}
use Rattle.lmtp_dialogue.specs.Lines.{LineFinds}
use Rattle.lmtp_dialogue.specs.Talks.{item_by, TakesTurn}
use Rattle.lmtp_dialogue.specs.declared.receiver.Receiver.{Receiver}
use Rattle.lmtp_dialogue.proofs.AnswerLemmas.{no_line, no_line_next, line_goes}
use Rattle.lmtp_dialogue.proofs.receiver.Receiver.answer_line.Goals as goal

pub returns-in_default-clause-ok : goal.returns-in_default-clause-ok
returns-in_default-clause-ok c =
    no_line c.args.self.now c.find_line.result c.args.out.now c.requires c.in_default.not-Line (subst (LineFinds c.find_line.result) c.as_slice.ensures c.find_line.ensures)

pub returns-in_default-clause-line : goal.returns-in_default-clause-line
returns-in_default-clause-line c =
    no_line_next c.args.self.now c.find_line.result c.args.out.now c.requires c.in_default.not-Line (subst (LineFinds c.find_line.result) c.as_slice.ensures c.find_line.ensures)

pub returns-clause-ok : goal.returns-clause-ok
returns-clause-ok c =
    let r = c.args.self.now in
    let count = c.in-Line.count in
    let found = subst (λ f. LineFinds f r.unread) c.in-Line.is (subst (LineFinds c.find_line.result) c.as_slice.ensures c.find_line.ensures) in
    let m : Receiver = record { unread = c.drop_front.new.self; long = false; talk = c.obey_line.new.self } in
    let turns = subst (λ u. TakesTurn (item_by r.long (take count u)) r.talk c.obey_line.new.self c.args.out.now c.obey_line.new.out) c.as_slice-2.ensures c.in_ok-obey_line.ensures.ok in
    let both = line_goes r m c.take_in.new.self count c.args.out.now c.obey_line.new.out c.requires found turns refl c.drop_front.ensures c.take_in.ensures.takes in
    both.0

pub returns-clause-line : goal.returns-clause-line
returns-clause-line c =
    let r = c.args.self.now in
    let count = c.in-Line.count in
    let found = subst (λ f. LineFinds f r.unread) c.in-Line.is (subst (LineFinds c.find_line.result) c.as_slice.ensures c.find_line.ensures) in
    let m : Receiver = record { unread = c.drop_front.new.self; long = false; talk = c.obey_line.new.self } in
    let turns = subst (λ u. TakesTurn (item_by r.long (take count u)) r.talk c.obey_line.new.self c.args.out.now c.obey_line.new.out) c.as_slice-2.ensures c.in_ok-obey_line.ensures.ok in
    let both = line_goes r m c.take_in.new.self count c.args.out.now c.obey_line.new.out c.requires found turns refl c.drop_front.ensures c.take_in.ensures.takes in
    both.1
