use Rattle.std.proofs.Common.{◌≡◌, ◌≤◌, ◌∙◌, false, Some, Ok, OnOk, IfErr, option_copied, sym, ap, subst, rules}
use Rattle.std.proofs.lemmas.Result.{err_from_is_err_and}
use Rattle.sqlite.specs.Held.{state}
use Rattle.mail_address.specs.Outbound.{IsBareAddress}
use Rattle.sieve_exec.specs.Mails.{MailSpec, mail_spec_of}
use Rattle.sieve_plan.specs.declared.view.AccountView.{AccountView}
use Rattle.sieve_plan.specs.Delivered.{has_long_header}
use Rattle.sieve_plan.specs.Plans.{deeds_in}
use Rattle.sieve_plan.specs.Sequences.{DeliversInSequence}
use Rattle.sieve_plan.specs.SequencePlans.{settled_of}
use Rattle.store_accounts.specs.Account.{Account, delivers}
use Rattle.store_accounts.specs.Cells.{borrowed_octets}
use Rattle.store_accounts.specs.Refusals.{IsTransient}
use Rattle.store_accounts.specs.declared.report.Plan.{Plan}
use Rattle.store_engine.specs.AccountEvents.{script_or_default, DeliversTo}
use Rattle.store_engine.specs.Deliveries.{HasHeader}
use Rattle.store_engine.specs.Lookups.{IsLookup, IsRecalled}
use Rattle.store_engine.specs.Terms.{terms_of}
use Rattle.store_engine.proofs.DeliveryLemmas.{moment_fits, planned_at}
use Rattle.store_engine.proofs.RecallLemmas.{recalls_failed, recalls_none, recalls_other, recalls_unmade}
use Rattle.store_engine.proofs.deliveries.plan_parcel.Goals as goal

pub plan_unread-requires : goal.plan_unread-requires
plan_unread-requires g c = subst (λ o. HasHeader c.args.terms.when c.args.parcel.now (option_copied o)) c.in_default.is c.requires.header

pub returns-in_err-plan_unread : goal.returns-in_err-plan_unread
returns-in_err-plan_unread g c =
    let p = c.args.parcel.now in
    let none : OnOk c.from_residual.result ⊥ = search rules in
    let transient : IfErr c.from_residual.result IsTransient = search rules in
    recalls_unmade p.user.now (λ (plan : Plan) (a : Account). IsLookup c.args.found a → DeliversTo (terms_of c.args.terms) p.envelope p.message.now a plan.report (delivers plan a)) (state g.S.Store c.args.store.now) c.from_residual.result none transient

pub returns-in_default : goal.returns-in_default
returns-in_default g c =
    let p = c.args.parcel.now in
    let found = c.args.found in
    let host = c.args.terms.host.now in
    let plan = c.in_ok-plan_unread.field-0 in
    let mail = mail_spec_of p.message.now p.envelope c.args.terms.when in
    recalls_none p.user.now (λ (plan : Plan) (a : Account). IsLookup found a → DeliversTo (terms_of c.args.terms) p.envelope p.message.now a plan.report (delivers plan a)) (state g.S.Store c.args.store.now) (Ok plan) tt
    (λ a is. record {
      own = found.address;
      address = is.address;
      delivers = subst (λ text. DeliversInSequence found.address host.scripts mail (script_or_default text host.default) a plan.report (delivers plan a)) is.text
          (c.in_ok-plan_unread.ensures found.address host.scripts (script_or_default found.text host.default) a);
    })

pub settle-requires : goal.settle-requires
settle-requires g c =
    let p = c.args.parcel.now in
    let when = c.args.terms.when in
    let read : HasHeader when p (Some c.in-Some.mail.now) = subst (λ o. HasHeader when p (option_copied o)) c.in-Some.is c.requires.header in
    subst (λ (mail : MailSpec). has_long_header mail.octets ≡ false) (sym read.1) read.0

pub returns-in_err-settlement : goal.returns-in_err-settlement
returns-in_err-settlement g c =
    let p = c.args.parcel.now in
    let none : OnOk c.from_residual-in_err-settlement.result ⊥ = search rules in
    let transient : IfErr c.from_residual-in_err-settlement.result IsTransient = search rules in
    recalls_unmade p.user.now (λ (plan : Plan) (a : Account). IsLookup c.args.found a → DeliversTo (terms_of c.args.terms) p.envelope p.message.now a plan.report (delivers plan a)) (state g.S.Store c.args.store.now) c.from_residual-in_err-settlement.result none transient

pub recall-requires : goal.recall-requires
recall-requires g c =
    let p = c.args.parcel.now in
    let when = c.args.terms.when in
    let read : HasHeader when p (Some c.in-Some.mail.now) = subst (λ o. HasHeader when p (option_copied o)) c.in-Some.is c.requires.header in
    subst (λ (mail : MailSpec). mail.moment ≤ 253402300799) (sym read.1) (moment_fits p.envelope p.message.now when.moment c.requires.free)

pub returns-in_err-view : goal.returns-in_err-view
returns-in_err-view g c =
    let p = c.args.parcel.now in
    let told = err_from_is_err_and c.from_residual-in_err-view.result c.from_residual-in_err-view.ensures.1 in
    let none : OnOk c.from_residual-in_err-view.result ⊥ = rw told.1 tt in
    let transient : IfErr c.from_residual-in_err-view.result IsTransient = rw (told.1, told.2) c.in_err-view.ensures.named in
    recalls_failed p.user.now (λ (v : AccountView) (a : Account). IsRecalled v c.args.found.address c.in-Some.mail.now (deeds_in c.in_ok-settlement.settlement.deeds) a)
    (λ (plan : Plan) (a : Account). IsLookup c.args.found a → DeliversTo (terms_of c.args.terms) p.envelope p.message.now a plan.report (delivers plan a))
    (state g.S.Store c.args.store.now) (state g.S.Store c.recall.new.store) c.recall.result c.recall.ensures c.from_residual-in_err-view.result none transient

pub plan-requires : goal.plan-requires
plan-requires g c =
    let p = c.args.parcel.now in
    let when = c.args.terms.when in
    let read : HasHeader when p (Some c.in-Some.mail.now) = subst (λ o. HasHeader when p (option_copied o)) c.in-Some.is c.requires.header in
    subst (λ (mail : MailSpec). mail.moment ≤ 253402300799) (sym read.1) (moment_fits p.envelope p.message.now when.moment c.requires.free)

pub returns-in_err-plan : goal.returns-in_err-plan
returns-in_err-plan g c =
    let p = c.args.parcel.now in
    let none : OnOk c.from_residual-in_err-plan.result ⊥ = search rules in
    let transient : IfErr c.from_residual-in_err-plan.result IsTransient = search rules in
    recalls_failed p.user.now (λ (v : AccountView) (a : Account). IsRecalled v c.args.found.address c.in-Some.mail.now (deeds_in c.in_ok-settlement.settlement.deeds) a)
    (λ (plan : Plan) (a : Account). IsLookup c.args.found a → DeliversTo (terms_of c.args.terms) p.envelope p.message.now a plan.report (delivers plan a))
    (state g.S.Store c.args.store.now) (state g.S.Store c.recall.new.store) c.recall.result c.recall.ensures c.from_residual-in_err-plan.result none transient

pub returns : goal.returns
returns g c =
    let p = c.args.parcel.now in
    let when = c.args.terms.when in
    let terms = terms_of c.args.terms in
    let found = c.args.found in
    let mail = c.in-Some.mail.now in
    let view = c.in_ok-view.view in
    let plan = c.in_ok-plan.field-0 in
    let settled = settled_of c.in_ok-settlement.settlement in
    let read : HasHeader when p (Some mail) = subst (λ o. HasHeader when p (option_copied o)) c.in-Some.is c.requires.header in
    recalls_other p.user.now (λ (v : AccountView) (a : Account). IsRecalled v found.address mail (deeds_in c.in_ok-settlement.settlement.deeds) a)
    (λ (plan : Plan) (a : Account). IsLookup found a → DeliversTo terms p.envelope p.message.now a plan.report (delivers plan a)) (state g.S.Store c.args.store.now) (state g.S.Store c.recall.new.store) c.recall.result c.recall.ensures (Ok plan)
    view c.in_ok-view.was tt
    (λ account recalled is. record {
      own = view.address;
      address = subst (λ own. IsBareAddress account.address own) (sym recalled.same) is.address;
      delivers = planned_at view.address _ (borrowed_octets c.deciding-own.result) mail settled p.envelope p.message.now terms account plan read.1
          (c.deciding-own.ensures ∙ ap (λ text. script_or_default text c.args.terms.host.now.default) is.text) c.in_ok-settlement.ensures (c.in_ok-plan.ensures account (recalled.of is.address));
    })
