use Rattle.std.proofs.Common.{◌≡◌, ◌∙◌, ◌-◌, List, [], ◌∷◌, map, OnOk, IfErr, ap, rules}
use Rattle.sqlite.specs.Held.{state}
use Rattle.sieve_plan.specs.Sent.{half_handle, over_keys}
use Rattle.store_accounts.specs.Refusals.{IsTransient}
use Rattle.store_accounts.specs.ReplyRows.{AreFirstBetween, first_between, reply_key_of}
use Rattle.store_accounts.specs.declared.reply.ReplyKey.{ReplyKey}
use Rattle.store_engine.proofs.RecallLemmas.{recalls_read, recalls_told, recalls_unmade}
use Rattle.store_engine.proofs.delivery.recall_over.Goals as goal

pub returns-in_err-below : goal.returns-in_err-below
returns-in_err-below g c =
    let none : OnOk c.from_residual.result ⊥ = search rules in
    let transient : IfErr c.from_residual.result IsTransient = search rules in
    recalls_unmade c.args.user.now (λ (over : List ReplyKey) a. over ≡ over_keys a c.args.moment) (state g.S.Store c.args.store.now) c.from_residual.result none transient

pub returns : goal.returns
returns g c =
    recalls_told c.args.user.now (AreFirstBetween (3 ∷ []) c.as_slice.result.now) (λ (over : List ReplyKey) a. over ≡ over_keys a c.args.moment) (state g.S.Store c.args.store.now) (state g.S.Store c.reply_keys_between.new.self) c.reply_keys_between.result
    (λ over a is. is ∙ ap (λ below. map reply_key_of (first_between (3 ∷ []) below a.replies)) (c.as_slice.ensures ∙ (c.in_ok-below.ensures ∙ ap (λ half. half_handle (half - 1)) c.half_of.ensures.is_half)))
    (recalls_read c.args.user.now (AreFirstBetween (3 ∷ []) c.as_slice.result.now) (state g.S.Store c.args.store.now) (state g.S.Store c.reply_keys_between.new.self) c.reply_keys_between.result c.reply_keys_between.ensures)
