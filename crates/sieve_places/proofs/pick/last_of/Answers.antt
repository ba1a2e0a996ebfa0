-- One token more was looked at.
use Rattle.std.proofs.Common.{◌≡◌, ◌+◌, ◌<◌, cond, Some, take, get_or, sym, ap, ◌∙◌, subst, arith, rules}
use Rattle.std.specs.Prelude.{IfSome}
use Rattle.sieve_places.specs.Picks.{is_of_class, last_index}
use Rattle.sieve_places.proofs.PickLemmas.{last_index-more, below_next}
use Rattle.sieve_places.proofs.pick.last_of.Goals as goal
use Rattle.sieve_places.proofs.pick.last_of.Goals.{then-is_of, else-is_of}

pub loop-index-preserved : goal.loop-index-preserved
loop-index-preserved c =
    let class = c.args.class in
    let ts = c.args.tokens.now in
    let i = c.loop-index.index in
    let t = c.index-tokens-index.result in
    let here : get_or ts i t ≡ t = search rules in
    let more = last_index-more class ts i t c.loop-index-test.true in
    let is = ap (is_of_class class) here ∙ sym c.is_of.ensures in
    elim c.if-is_of.branch [
      | then-is_of w ↦ record {
        so_far = w.found-is ∙ sym (more ∙ ap (λ b. cond b (Some i) (last_index class (take i ts))) (is ∙ w.if-is_of.true));
        within = subst (λ o. IfSome o (λ at. at < i + 1)) (sym w.found-is) (omega arith);
      }
      | else-is_of w ↦ record {
        so_far = w.found-is ∙ (c.loop-index.invariant.so_far ∙ sym (more ∙ ap (λ b. cond b (Some i) (last_index class (take i ts))) (is ∙ w.if-is_of.false)));
        within = subst (λ o. IfSome o (λ at. at < i + 1)) (sym w.found-is) (below_next c.loop-index.found i c.loop-index.invariant.within);
      }
    ]
