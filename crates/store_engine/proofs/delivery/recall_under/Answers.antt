use Rattle.std.proofs.Common.{◌≡◌, ◌∙◌, ◌+◌, ◌-◌, ◌++◌, Ok, OnOk, IfErr, ap, refl, rules}
use Rattle.sqlite.specs.Held.{state}
use Rattle.sieve_plan.specs.Sent.{known_in_half, known_under}
use Rattle.store_accounts.specs.Refusals.{IsTransient}
use Rattle.store_engine.proofs.RecallLemmas.{Adds, Besides, recalls_besides, recalls_both_failed, recalls_failed, recalls_then, three_halves}
use Rattle.store_engine.proofs.delivery.recall_under.Goals as goal

pub returns-in_err-early : goal.returns-in_err-early
returns-in_err-early g c =
    let none : OnOk c.from_residual.result ⊥ = search rules in
    let transient : IfErr c.from_residual.result IsTransient = search rules in
    let moment = c.args.moment in
    let key = c.args.key.now in
    recalls_failed c.args.user.now (Adds (λ a. known_in_half a moment key (c.half_of-half.result - 1)) c.args.known) (Adds (λ a. known_under a moment key) c.args.known) (state g.S.Store c.args.store.now) (state g.S.Store c.recall_in.new.store) c.recall_in.result c.recall_in.ensures
    c.from_residual.result none transient

pub returns-in_err-here : goal.returns-in_err-here
returns-in_err-here g c =
    let none : OnOk c.from_residual-in_err-here.result ⊥ = search rules in
    let transient : IfErr c.from_residual-in_err-here.result IsTransient = search rules in
    let moment = c.args.moment in
    let key = c.args.key.now in
    let half = c.half_of-half.result in
    let early = c.in_ok-early.early in
    recalls_both_failed c.args.user.now (Adds (λ a. known_in_half a moment key (half - 1)) c.args.known) (Adds (λ a. known_in_half a moment key half) early) (state g.S.Store c.args.store.now) (state g.S.Store c.recall_in.new.store) (state g.S.Store c.recall_in-2.new.store) c.recall_in.result early c.in_ok-early.was c.recall_in.ensures
    c.recall_in-2.result c.recall_in-2.ensures (Adds (λ a. known_under a moment key) c.args.known) c.from_residual-in_err-here.result none transient

pub returns : goal.returns
returns g c =
    let moment = c.args.moment in
    let key = c.args.key.now in
    let known = c.args.known in
    let half = c.half_of-half.result in
    let early = c.in_ok-early.early in
    let here = c.in_ok-here.here in
    let Early = Adds (λ a. known_in_half a moment key (half - 1)) known in
    let Here = Adds (λ a. known_in_half a moment key half) early in
    let one = recalls_besides c.args.user.now Early Here (state g.S.Store c.args.store.now) (state g.S.Store c.recall_in.new.store) (state g.S.Store c.recall_in-2.new.store) c.recall_in.result early c.in_ok-early.was c.recall_in.ensures c.recall_in-2.result c.recall_in-2.ensures here c.in_ok-here.was in
    recalls_then c.args.user.now (Besides Early early Here) (Adds (λ a. known_in_half a moment key (half + 1)) here) (Adds (λ a. known_under a moment key) known) (state g.S.Store c.args.store.now) (state g.S.Store c.recall_in-2.new.store) (state g.S.Store c.recall_in-3.new.store) (Ok here) here refl one
    c.recall_in-3.result c.recall_in-3.ensures
    (λ late a found is.
    let at = c.half_of-half.ensures.is_half in
    three_halves a moment key known early here late (found.0 ∙ ap (λ h. known ++ known_in_half a moment key (h - 1)) at) (found.1 ∙ ap (λ h. early ++ known_in_half a moment key h) at) (is ∙ ap (λ h. here ++ known_in_half a moment key (h + 1)) at))
