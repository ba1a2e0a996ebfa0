use Rattle.std.proofs.Common.{◌≡◌, ◌∙◌, ◌++◌, [], length, map, Ok, OnOk, IfErr, ap, rules}
use Rattle.sqlite.specs.Held.{state}
use Rattle.sieve_plan.specs.Sent.{near_targets, sent_handle, known_in_half}
use Rattle.store_accounts.specs.Refusals.{IsTransient}
use Rattle.store_accounts.specs.ReplyRows.{AreFirstBetween, first_between, reply_key_of}
use Rattle.store_engine.proofs.RecallLemmas.{Adds, recalls_failed, recalls_read, recalls_then, recalls_unmade}
use Rattle.store_engine.proofs.delivery.recall_in.Goals as goal

pub returns-in_err-from : goal.returns-in_err-from
returns-in_err-from g c =
    let none : OnOk c.from_residual.result ⊥ = search rules in
    let transient : IfErr c.from_residual.result IsTransient = search rules in
    recalls_unmade c.args.user.now (Adds (λ a. known_in_half a c.args.moment c.args.key.now c.args.half) c.args.known) (state g.S.Store c.args.store.now) c.from_residual.result none transient

pub returns-in_err-below : goal.returns-in_err-below
returns-in_err-below g c =
    let none : OnOk c.from_residual-in_err-below.result ⊥ = search rules in
    let transient : IfErr c.from_residual-in_err-below.result IsTransient = search rules in
    recalls_unmade c.args.user.now (Adds (λ a. known_in_half a c.args.moment c.args.key.now c.args.half) c.args.known) (state g.S.Store c.args.store.now) c.from_residual-in_err-below.result none transient

pub returns-in_err-keys : goal.returns-in_err-keys
returns-in_err-keys g c =
    let none : OnOk c.from_residual-in_err-keys.result ⊥ = search rules in
    let transient : IfErr c.from_residual-in_err-keys.result IsTransient = search rules in
    let Between = AreFirstBetween c.as_slice.result.now c.as_slice-2.result.now in
    recalls_failed c.args.user.now Between (Adds (λ a. known_in_half a c.args.moment c.args.key.now c.args.half) c.args.known) (state g.S.Store c.args.store.now) (state g.S.Store c.reply_keys_between.new.self) c.reply_keys_between.result
    (recalls_read c.args.user.now Between (state g.S.Store c.args.store.now) (state g.S.Store c.reply_keys_between.new.self) c.reply_keys_between.result c.reply_keys_between.ensures) c.from_residual-in_err-keys.result none transient

pub returns : goal.returns
returns g c =
    let moment = c.args.moment in
    let key = c.args.key.now in
    let half = c.args.half in
    let known = c.args.known in
    let Between = AreFirstBetween c.as_slice.result.now c.as_slice-2.result.now in
    recalls_then c.args.user.now Between (Adds (λ a. near_targets a moment c.len.result c.as_slice-3.result.now) known) (Adds (λ a. known_in_half a moment key half) known) (state g.S.Store c.args.store.now) (state g.S.Store c.reply_keys_between.new.self) (state g.S.Store c.recall_near.new.store)
    c.reply_keys_between.result c.in_ok-keys.keys c.in_ok-keys.was (recalls_read c.args.user.now Between (state g.S.Store c.args.store.now) (state g.S.Store c.reply_keys_between.new.self) c.reply_keys_between.result c.reply_keys_between.ensures) c.recall_near.result c.recall_near.ensures
    (λ all a found is.
    let first = ap (λ from. map reply_key_of (first_between from c.as_slice-2.result.now a.replies)) (c.as_slice.ensures ∙ c.in_ok-from.ensures) in
    let last = ap (λ below. map reply_key_of (first_between (sent_handle half key []) below a.replies)) (c.as_slice-2.ensures ∙ c.in_ok-below.ensures) in
    is ∙ ap (λ l. known ++ l) (ap (λ before. near_targets a moment before c.as_slice-3.result.now) (c.len.ensures ∙ ap length c.in_ok-from.ensures) ∙ ap (near_targets a moment (length (sent_handle half key []))) (c.as_slice-3.ensures ∙ (found ∙ (first ∙ last)))))
