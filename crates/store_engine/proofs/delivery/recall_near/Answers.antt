use Rattle.std.proofs.Common.{◌≡◌, ◌∙◌, ◌+◌, ◌++◌, ℕ, cond, List, [], ◌∷◌, drop, take, Ok, ap, refl, sym, subst, take_all}
use Rattle.std.specs.FinMap.{get}
use Rattle.std.proofs.lemmas.List.{append-nil}
use Rattle.sqlite.specs.Held.{state}
use Rattle.sieve_plan.specs.Sent.{near_targets}
use Rattle.store_accounts.specs.Account.{Account}
use Rattle.store_accounts.specs.ReplyRows.{IsReplyMoment}
use Rattle.store_accounts.specs.declared.reply.ReplyKey.{ReplyKey}
use Rattle.store_engine.specs.Lookups.{Recalls}
use Rattle.store_engine.proofs.RecallLemmas.{Adds, near_more, recalls_both, recalls_none, recalls_read}
use Rattle.store_engine.proofs.delivery.recall_near.Goals as goal
use Rattle.store_engine.proofs.delivery.recall_near.Goals.{then-is_near_if+in_ok-from_slice+in_ok-push, else-is_near_if}

abbrev Near : ℕ → ℕ → List ReplyKey → List (List ℕ) → List (List ℕ) → Account → Type 0
Near moment before keys known = Adds (λ a. near_targets a moment before keys) known

pub loop-key-init : goal.loop-key-init
loop-key-init g c = recalls_none c.args.user.now (Near c.args.moment c.args.before (take 0 c.args.keys.now) c.args.known) (state g.S.Store c.args.store.now) (Ok c.args.known) tt (λ a. sym (append-nil c.args.known))

pub loop-key-preserved : goal.loop-key-preserved
loop-key-preserved g c =
    let i = c.loop-key.key-index in
    let keys = c.args.keys.now in
    let key = c.key-item.result in
    let Found = IsReplyMoment c.as_slice.result.now c.as_slice-in-loop-key.result.now in
    let next : c.if-is_near_if.all ≡ cond c.is_near_if.result (c.loop-key.all ++ drop c.args.before key.handle ∷ []) c.loop-key.all =
    elim c.if-is_near_if.branch [
      | then-is_near_if+in_ok-from_slice+in_ok-push w ↦ let text = w.in_ok-from_slice.ensures ∙ (w.behind.ensures ∙ ap (drop c.args.before) w.as_slice-then-is_near_if.ensures) in
          let pushed : w.push.new.self ≡ c.loop-key.all ++ drop c.args.before key.handle ∷ [] = w.in_ok-push.ensures.ok ∙ ap (λ t. c.loop-key.all ++ t ∷ []) text in
          let same : c.if-is_near_if.all ≡ w.push.new.self = cc (w.all-is) in
          same ∙ (pushed ∙ sym (ap (λ b. cond b (c.loop-key.all ++ drop c.args.before key.handle ∷ []) c.loop-key.all) w.if-is_near_if.true))
      | else-is_near_if w ↦ let same : c.if-is_near_if.all ≡ c.loop-key.all = cc (w.all-is) in
          same ∙ sym (ap (λ b. cond b (c.loop-key.all ++ drop c.args.before key.handle ∷ []) c.loop-key.all) w.if-is_near_if.false)
    ] in
    recalls_both c.args.user.now (Near c.args.moment c.args.before (take i keys) c.args.known) Found (state g.S.Store c.args.store.now) (state g.S.Store c.loop-key.store) (state g.S.Store c.moment_of.new.self) (Ok c.loop-key.all) c.loop-key.all refl c.loop-key.invariant
    c.moment_of.result (recalls_read c.args.user.now Found (state g.S.Store c.loop-key.store) (state g.S.Store c.moment_of.new.self) c.moment_of.result c.moment_of.ensures) c.in_ok-kept.kept c.in_ok-kept.was (Near c.args.moment c.args.before (take (i + 1) keys) c.args.known) c.if-is_near_if.all
    (λ a so_far found.
    let kept = found ∙ (ap (λ handle. get a.replies (handle, c.as_slice-in-loop-key.result.now)) c.as_slice.ensures ∙ ap (λ sender. get a.replies (key.handle, sender)) c.as_slice-in-loop-key.ensures) in
    near_more a c.args.moment c.args.before keys i key c.args.known c.loop-key.all c.if-is_near_if.all c.in_ok-kept.kept c.is_near_if.result c.loop-key-test.true c.key-item.is so_far kept (sym c.is_near_if.ensures) next)

pub returns : goal.returns
returns g c =
    subst (λ keys. Recalls c.args.user.now (Near c.args.moment c.args.before keys c.args.known) (state g.S.Store c.args.store.now) (state g.S.Store c.loop-key.store) (Ok c.loop-key.all)) (take_all c.loop-key.key-index c.args.keys.now c.loop-key-test.false) c.loop-key.invariant
