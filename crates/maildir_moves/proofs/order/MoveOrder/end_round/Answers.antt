use Rattle.std.proofs.Common.{rules, ap, refl, ◌∙◌, filter, not}
use Rattle.std.proofs.lemmas.Fn.{filter_same}
use Rattle.maildir_moves.specs.Order.{is_behind}
use Rattle.maildir_moves.proofs.order.MoveOrder.end_round.Goals as goal

pub returns : goal.returns
returns c = record {
  last = c.take-last.ensures.after;
  passed = refl;
  marks = filter_same _ (λ m. not (is_behind c.take-last.result m.user)) _ (λ x b f' k. search rules) _ _ c.retain.ensures.filtered
      ∙ ap (λ l. filter (λ m. not (is_behind l m.user)) c.args.self.now.marks.items) c.take-last.ensures.value;
}
