use Rattle.std.proofs.Common.{◌++◌, ◌∙◌, ap, codes}
use Rattle.daemon_log.specs.Lines.{line_start, pair, pair_text, with_pairs}
use Rattle.daemon_host.specs.Log.{delivery_word, fate_pairs, id_pairs}
use Rattle.daemon_host.specs.MessageIds.{logged_id}
use Rattle.daemon_host.proofs.LogLemmas.{three_and_more, two_kinds}
use Rattle.daemon_host.proofs.log.of_delivery.Goals as goal

pub returns : goal.returns
returns c =
    let request = c.args.request.now in
    let id = id_pairs (logged_id request.message) in
    let fate = fate_pairs c.args.answer.now in
    three_and_more c.end.result (delivery_word c.args.answer.now) _ _ _ _ _ (pair (codes "user") request.user) (pair (codes "from") request.sender) (pair (codes "to") request.recipient)
    (id ++ fate) (c.in_ok-line.ensures ∙ ap line_start c.word_of.ensures)
    (c.in_ok-add_pair.ensures ∙ ap (λ value. c.in_ok-line.line ++ pair_text (codes "user") value) c.as_slice.ensures)
    (c.in_ok-add_pair-2.ensures ∙ ap (λ value. c.add_pair.new.line ++ pair_text (codes "from") value) c.as_slice-2.ensures)
    (c.in_ok-add_pair-3.ensures ∙ ap (λ value. c.add_pair-2.new.line ++ pair_text (codes "to") value) c.as_slice-3.ensures)
    (two_kinds _ _ _ id fate (c.in_ok-add_id.ensures ∙ ap (λ message. with_pairs c.add_pair-3.new.line (id_pairs (logged_id message))) c.as_slice-4.ensures) c.in_ok-add_fate.ensures)
    c.end.ensures
