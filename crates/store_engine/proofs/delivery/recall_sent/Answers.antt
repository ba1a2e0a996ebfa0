use Rattle.std.proofs.Common.{◌≡◌, ◌∙◌, ◌+◌, ◌++◌, ℕ, List, take, Ok, OnOk, IfErr, ap, refl, rules, subst, take_all}
use Rattle.std.specs.Prelude.{flat_map}
use Rattle.sqlite.specs.Held.{state}
use Rattle.sieve_plan.specs.Sent.{known_under}
use Rattle.store_accounts.specs.Account.{Account}
use Rattle.store_accounts.specs.Refusals.{IsTransient}
use Rattle.store_engine.specs.Lookups.{Recalls}
use Rattle.store_engine.proofs.RecallLemmas.{Adds, keys_more, recalls_both, recalls_both_failed, recalls_none}
use Rattle.store_engine.proofs.delivery.recall_sent.Goals as goal

abbrev Known : ℕ → List (List ℕ) → List (List ℕ) → Account → Type 0
Known moment keys known a = known ≡ flat_map (known_under a moment) keys

pub loop-key-init : goal.loop-key-init
loop-key-init g c = recalls_none c.args.user.now (Known c.args.moment (take 0 c.args.keys.now)) (state g.S.Store c.args.store.now) (Ok c.new-known.result) tt (λ a. c.new-known.ensures)

pub returns-in_err-known : goal.returns-in_err-known
returns-in_err-known g c =
    let none : OnOk c.from_residual.result ⊥ = search rules in
    let transient : IfErr c.from_residual.result IsTransient = search rules in
    recalls_both_failed c.args.user.now (Known c.args.moment (take c.loop-key.key-index c.args.keys.now)) (Adds (λ a. known_under a c.args.moment c.as_slice.result.now) c.loop-key.known) (state g.S.Store c.args.store.now) (state g.S.Store c.loop-key.store) (state g.S.Store c.recall_under.new.store) (Ok c.loop-key.known)
    c.loop-key.known refl c.loop-key.invariant c.recall_under.result c.recall_under.ensures (Known c.args.moment c.args.keys.now) c.from_residual.result none transient

pub loop-key-preserved : goal.loop-key-preserved
loop-key-preserved g c =
    let i = c.loop-key.key-index in
    let keys = c.args.keys.now in
    recalls_both c.args.user.now (Known c.args.moment (take i keys)) (Adds (λ a. known_under a c.args.moment c.as_slice.result.now) c.loop-key.known) (state g.S.Store c.args.store.now) (state g.S.Store c.loop-key.store) (state g.S.Store c.recall_under.new.store) (Ok c.loop-key.known) c.loop-key.known refl c.loop-key.invariant
    c.recall_under.result c.recall_under.ensures c.in_ok-known.known c.in_ok-known.was (Known c.args.moment (take (i + 1) keys)) c.in_ok-known.known
    (λ a so_far more. keys_more a c.args.moment keys i c.key-item.result c.loop-key.known c.in_ok-known.known c.loop-key-test.true c.key-item.is so_far (more ∙ ap (λ key. c.loop-key.known ++ known_under a c.args.moment key) c.as_slice.ensures))

pub returns : goal.returns
returns g c =
    subst (λ keys. Recalls c.args.user.now (Known c.args.moment keys) (state g.S.Store c.args.store.now) (state g.S.Store c.loop-key.store) (Ok c.loop-key.known)) (take_all c.loop-key.key-index c.args.keys.now c.loop-key-test.false) c.loop-key.invariant
