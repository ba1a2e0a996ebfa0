use Rattle.std.proofs.Common.{◌≡◌, ◌∙◌, ℕ, List, Ok, OnOk, IfErr, ap, sym, rules}
use Rattle.std.specs.Prelude.{flat_map}
use Rattle.sqlite.specs.Held.{state}
use Rattle.sieve_plan.specs.Sent.{known_under}
use Rattle.sieve_plan.specs.Views.{known_of}
use Rattle.store_accounts.specs.Refusals.{IsTransient}
use Rattle.store_engine.proofs.RecallLemmas.{known_some, none_to_ask, recalls_none, recalls_told, recalls_unmade, some_to_ask}
use Rattle.store_engine.proofs.delivery.recall_known.Goals as goal

pub returns-then-is_empty : goal.returns-then-is_empty
returns-then-is_empty g c =
    let none = none_to_ask c.args.targets.now (sym c.is_empty.ensures ∙ c.if-is_empty.true) in
    recalls_none c.args.user.now (λ (known : List (List ℕ)) a. known ≡ known_of a c.args.mail.now c.args.targets.now) (state g.S.Store c.args.store.now) (Ok _) tt (λ a. c.new.ensures ∙ sym (ap (known_of a c.args.mail.now) none))

pub returns-in_err-keys : goal.returns-in_err-keys
returns-in_err-keys g c =
    let none : OnOk c.from_residual.result ⊥ = search rules in
    let transient : IfErr c.from_residual.result IsTransient = search rules in
    recalls_unmade c.args.user.now (λ (known : List (List ℕ)) a. known ≡ known_of a c.args.mail.now c.args.targets.now) (state g.S.Store c.args.store.now) c.from_residual.result none transient

pub returns : goal.returns
returns g c =
    let mail = c.args.mail.now in
    let some = some_to_ask c.args.targets.now (sym c.is_empty.ensures ∙ c.if-is_empty.false) in
    recalls_told c.args.user.now (λ (known : List (List ℕ)) a. known ≡ flat_map (known_under a c.moment.result) c.as_slice.result.now) (λ (known : List (List ℕ)) a. known ≡ known_of a mail c.args.targets.now) (state g.S.Store c.args.store.now) (state g.S.Store c.recall_sent.new.store) c.recall_sent.result
    (λ known a is. is ∙ (ap (λ m. flat_map (known_under a m) c.as_slice.result.now) c.moment.ensures ∙ (ap (flat_map (known_under a mail.moment)) (c.as_slice.ensures ∙ c.in_ok-keys.ensures) ∙ known_some a mail c.args.targets.now some)))
    c.recall_sent.ensures
