use Rattle.std.proofs.Common.{◌++◌, refl, sym, ap, ◌∙◌, append_assoc}
use Rattle.smtp_dialogue.specs.Sent.{left_of, sent_from, sent_start}
use Rattle.smtp_send.proofs.TalkLemmas.{broken, part_gathered, err_of, err_map, ok_of}
use Rattle.smtp_send.proofs.text.write_text.Goals as goal

pub returns-then-is_err-clause-err : goal.returns-then-is_err-clause-err
returns-then-is_err-clause-err g c = λ t said.
    let all = sent_from sent_start c.args.text.now in
    let piece = c.loop-part.piece.items in
    let part = c.in-Some.part.now in
    let left = left_of c.next.new.self in
    let one = c.loop-part.invariant.1 t said in
    let two = err_of c.gather.result (sym c.is_err.ensures.value ∙ c.if-is_err.true) c.gather.ensures.err one.0 one.1 in
    (two.0, two.1, broken all t one.0 two.0 (piece ++ part) (piece ++ left_of c.loop-part.sent) left one.2 (ap (λ x. piece ++ x) c.in-Some.ensures.0 ∙ sym (append_assoc piece part left)) two.2)

pub loop-part-preserved : goal.loop-part-preserved
loop-part-preserved g c = (
  λ rows shows. c.gather.ensures.rows rows (c.loop-part.invariant.0 rows shows),
  λ t said.
      let all = sent_from sent_start c.args.text.now in
      let one = c.loop-part.invariant.1 t said in
      let two = ok_of c.gather.result (sym c.is_err.ensures.value ∙ c.if-is_err.false) c.gather.ensures.ok one.0 one.1 in
      (two.0, two.1, part_gathered all t one.0 two.0 c.loop-part.piece.items c.in-Some.part.now c.gather.new.piece.items (left_of c.loop-part.sent) (left_of c.next.new.self) one.2 c.in-Some.ensures.0 two.2),
)

pub returns-clause-err : goal.returns-clause-err
returns-clause-err g c =
    err_map c.write_piece.result
    (λ fails t said.
    let all = sent_from sent_start c.args.text.now in
    let piece = c.loop-part.piece.items in
    let left = left_of c.loop-part.sent in
    let one = c.loop-part.invariant.1 t said in
    let two = fails one.0 one.1 in
    (two.0, two.1, broken all t one.0 two.0 piece (piece ++ left) left one.2 refl two.2))
    c.write_piece.ensures.err
