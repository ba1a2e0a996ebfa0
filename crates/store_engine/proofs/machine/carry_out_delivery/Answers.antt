use Rattle.std.proofs.Common.{◌≡◌, None, OnOk, IfErr, sym, ◌∙◌, rules, subst}
use Rattle.sqlite.specs.Held.{state}
use Rattle.store_accounts.specs.Refusals.{IsTransient}
use Rattle.store_engine.specs.Hosts.{ActsDelivery}
use Rattle.store_engine.specs.Limits.{limit_refusal}
use Rattle.store_engine.proofs.DeliveryLemmas.{delivery_limited, delivery_lacks}
use Rattle.store_engine.proofs.machine.carry_out_delivery.Goals as goal

pub returns-in-Some : goal.returns-in-Some
returns-in-Some g c = delivery_limited c.args.user.now c.args.envelope.now c.args.message.now c.args.terms.now (state g.S.Store c.args.store.now) c.in-Some.refusal (sym c.limit_refusal.ensures ∙ c.in-Some.is)

pub returns-in_err-envelope : goal.returns-in_err-envelope
returns-in_err-envelope g c =
    let undone : OnOk c.from_residual.result ⊥ = search rules in
    let transient : IfErr c.from_residual.result IsTransient = search rules in
    let none : limit_refusal c.args.envelope.now c.args.message.now c.args.terms.now.when.moment ≡ None = sym c.limit_refusal.ensures ∙ c.in_default.is in
    delivery_lacks c.args.user.now c.args.envelope.now c.args.message.now c.args.terms.now none (state g.S.Store c.args.store.now) c.from_residual.result undone transient

pub returns : goal.returns
returns g c =
    let user = c.args.user.now in
    let message = c.args.message.now in
    let old = state g.S.Store c.args.store.now in
    let new = state g.S.Store c.deliver.new.store in
    let lent = subst (λ terms. ActsDelivery user c.in_ok-envelope.envelope message terms old new c.deliver.result) c.lend.ensures.lent c.deliver.ensures.acts in
    subst (λ envelope. ActsDelivery user envelope message c.args.terms.now old new c.deliver.result) c.in_ok-envelope.ensures lent
