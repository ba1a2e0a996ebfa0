use Rattle.std.proofs.Common.{◌≡◌, ◌≤◌, false, None, Ok, Err, OnOk, IfErr, ap, refl, sym, ◌∙◌, subst, rules}
use Rattle.std.proofs.lemmas.Result.{err_from_is_err_and}
use Rattle.sqlite.specs.Held.{state}
use Rattle.mail_address.specs.Outbound.{IsBareAddress}
use Rattle.store_accounts.specs.declared.refusal.Refusal.TheVariants.{NoUser}
use Rattle.store_accounts.specs.declared.report.Report.{Report}
use Rattle.store_accounts.specs.Account.{Account, delivers}
use Rattle.store_accounts.specs.Cells.{borrowed_octets}
use Rattle.store_accounts.specs.Refusals.{IsTransient}
use Rattle.store_engine.specs.AccountEvents.{script_or_default}
use Rattle.store_engine.specs.Limits.{limit_refusal}
use Rattle.store_engine.specs.Lookups.{LooksUp, IsLookup, IsRecalled}
use Rattle.store_engine.specs.Terms.{terms_of}
use Rattle.store_engine.proofs.DeliveryLemmas.{moment_fits, transient_refuses, absent_refuses, planned_at, delivery_limited, delivery_unread, delivery_absent, delivery_unasked, delivery_stopped, delivery_written}
use Rattle.store_engine.proofs.LookupLemmas.{looks_recalled, recalled_keeps}
use Rattle.store_engine.proofs.RunLemmas.{delivery_spaced}
use Rattle.sieve_exec.specs.Mails.{MailSpec, mail_spec_of}
use Rattle.sieve_plan.specs.declared.view.AccountView.{AccountView}
use Rattle.sieve_plan.specs.Delivered.{has_long_header}
use Rattle.sieve_plan.specs.Plans.{deeds_in}
use Rattle.sieve_plan.specs.Sequences.{DeliversInSequence}
use Rattle.sieve_plan.specs.SequencePlans.{settled_of}
use Rattle.store_engine.proofs.delivery.deliver.Goals as goal

pub returns-in-Some-clause-acts : goal.returns-in-Some-clause-acts
returns-in-Some-clause-acts g c = delivery_limited c.args.user.now c.args.envelope c.args.message.now (terms_of c.args.terms) (state g.S.Store c.args.store.now) c.in-Some.refusal (sym c.limit_refusal.ensures ∙ c.in-Some.is)

pub returns-in-Some-clause-spaced : goal.returns-in-Some-clause-spaced
returns-in-Some-clause-spaced g c = delivery_spaced c.args.user.now c.args.envelope c.args.message.now (terms_of c.args.terms) (state g.S.Store c.args.store.now) (state g.S.Store c.args.store.now) (Err c.in-Some.refusal) (returns-in-Some-clause-acts g c)

pub returns-in_err-absence-clause-acts : goal.returns-in_err-absence-clause-acts
returns-in_err-absence-clause-acts g c =
    let undone : OnOk c.from_residual.result ⊥ = search rules in
    let transient : IfErr c.from_residual.result IsTransient = search rules in
    let is : c.look_up-looked.result ≡ Err NoUser = search rules in
    let none : limit_refusal c.args.envelope c.args.message.now c.args.terms.when.moment ≡ None = sym c.limit_refusal.ensures ∙ c.in_default.is in
    delivery_unasked c.args.user.now c.args.envelope c.args.message.now (terms_of c.args.terms) none (state g.S.Store c.args.store.now) (state g.S.Store c.look_up-looked.new.store) (state g.S.Store c.absence.new.store) c.look_up-looked.result is
    c.look_up-looked.ensures c.absence.result c.absence.ensures.reads c.from_residual.result undone transient

pub returns-in_err-absence-clause-spaced : goal.returns-in_err-absence-clause-spaced
returns-in_err-absence-clause-spaced g c = delivery_spaced c.args.user.now c.args.envelope c.args.message.now (terms_of c.args.terms) (state g.S.Store c.args.store.now) (state g.S.Store c.absence.new.store) c.from_residual.result (returns-in_err-absence-clause-acts g c)

pub returns-in-Err-NoUser-clause-acts : goal.returns-in-Err-NoUser-clause-acts
returns-in-Err-NoUser-clause-acts g c =
    let is : c.look_up-looked.result ≡ Err NoUser = search rules in
    let none : limit_refusal c.args.envelope c.args.message.now c.args.terms.when.moment ≡ None = sym c.limit_refusal.ensures ∙ c.in_default.is in
    delivery_absent c.args.user.now c.args.envelope c.args.message.now (terms_of c.args.terms) none (state g.S.Store c.args.store.now) (state g.S.Store c.look_up-looked.new.store) (state g.S.Store c.absence.new.store) c.look_up-looked.result is
    c.look_up-looked.ensures c.absence.result c.absence.ensures.reads c.in_ok-absence.field-0 (Err c.in_ok-absence.field-0) c.in_ok-absence.was refl

pub returns-in-Err-NoUser-clause-spaced : goal.returns-in-Err-NoUser-clause-spaced
returns-in-Err-NoUser-clause-spaced g c = delivery_spaced c.args.user.now c.args.envelope c.args.message.now (terms_of c.args.terms) (state g.S.Store c.args.store.now) (state g.S.Store c.absence.new.store) (Err c.in_ok-absence.field-0) (returns-in-Err-NoUser-clause-acts g c)

pub returns-in-Err-NoUser-clause-named : goal.returns-in-Err-NoUser-clause-named
returns-in-Err-NoUser-clause-named g c =
    let none : limit_refusal c.args.envelope c.args.message.now c.args.terms.when.moment ≡ None = sym c.limit_refusal.ensures ∙ c.in_default.is in
    absent_refuses {X = Report} c.args.envelope c.args.message.now c.args.terms.when.moment (Err c.in_ok-absence.field-0) c.in_ok-absence.field-0 none refl c.in_ok-absence.ensures.told

pub returns-in_err-found-clause-acts : goal.returns-in_err-found-clause-acts
returns-in_err-found-clause-acts g c =
    let is : c.from_residual-in_err-found.result ≡ Err c.in_err-found.field-0.0 = search rules in
    let there : c.in_err-found.field-0.0 ≡ NoUser → ⊥ = search rules in
    let none : limit_refusal c.args.envelope c.args.message.now c.args.terms.when.moment ≡ None = sym c.limit_refusal.ensures ∙ c.in_default.is in
    delivery_unread c.args.user.now c.args.envelope c.args.message.now (terms_of c.args.terms) none (state g.S.Store c.args.store.now) (state g.S.Store c.look_up-looked.new.store) c.in_err-found.field-0.0 c.from_residual-in_err-found.result is there
    c.in_err-found.ensures

pub returns-in_err-found-clause-spaced : goal.returns-in_err-found-clause-spaced
returns-in_err-found-clause-spaced g c = delivery_spaced c.args.user.now c.args.envelope c.args.message.now (terms_of c.args.terms) (state g.S.Store c.args.store.now) (state g.S.Store c.look_up-looked.new.store) c.from_residual-in_err-found.result (returns-in_err-found-clause-acts g c)

pub returns-in_err-unread-clause-acts : goal.returns-in_err-unread-clause-acts
returns-in_err-unread-clause-acts g c =
    let undone : OnOk c.from_residual-in_err-unread.result ⊥ = search rules in
    let transient : IfErr c.from_residual-in_err-unread.result IsTransient = search rules in
    let none : limit_refusal c.args.envelope c.args.message.now c.args.terms.when.moment ≡ None = sym c.limit_refusal.ensures ∙ c.in_default.is in
    delivery_stopped c.args.user.now c.args.envelope c.args.message.now (terms_of c.args.terms) none (state g.S.Store c.args.store.now) (state g.S.Store c.look_up-looked.new.store) c.look_up-looked.result
    c.look_up-looked.ensures.reads.keeps c.from_residual-in_err-unread.result undone transient

pub returns-in_err-unread-clause-spaced : goal.returns-in_err-unread-clause-spaced
returns-in_err-unread-clause-spaced g c = delivery_spaced c.args.user.now c.args.envelope c.args.message.now (terms_of c.args.terms) (state g.S.Store c.args.store.now) (state g.S.Store c.look_up-looked.new.store) c.from_residual-in_err-unread.result (returns-in_err-unread-clause-acts g c)

pub returns-then-has_long_header-clause-acts : goal.returns-then-has_long_header-clause-acts
returns-then-has_long_header-clause-acts g c =
    let found = c.in_ok-found.found in
    let plan = c.in_ok-unread.unread in
    let mail = mail_spec_of c.args.message.now c.args.envelope c.args.terms.when in
    let none : limit_refusal c.args.envelope c.args.message.now c.args.terms.when.moment ≡ None = sym c.limit_refusal.ensures ∙ c.in_default.is in
    delivery_written c.args.user.now c.args.envelope c.args.message.now (terms_of c.args.terms) none IsLookup (state g.S.Store c.args.store.now) (state g.S.Store c.look_up-looked.new.store) c.look_up-looked.result found c.in_ok-found.was c.look_up-looked.ensures plan
    (λ account is. record {
      own = found.address;
      address = is.address;
      delivers =
          subst (λ text. DeliversInSequence found.address c.args.terms.host.now.scripts mail (script_or_default text c.args.terms.host.now.default) account plan.report (delivers plan account)) is.text
          (c.in_ok-unread.ensures found.address c.args.terms.host.now.scripts (script_or_default found.text c.args.terms.host.now.default) account);
    })
    (state g.S.Store c.carry_out.new.store) c.carry_out.result c.carry_out.ensures.writes c.carry_out.ensures.told c.carry_out.ensures.named

pub returns-then-has_long_header-clause-spaced : goal.returns-then-has_long_header-clause-spaced
returns-then-has_long_header-clause-spaced g c = delivery_spaced c.args.user.now c.args.envelope c.args.message.now (terms_of c.args.terms) (state g.S.Store c.args.store.now) (state g.S.Store c.carry_out.new.store) c.carry_out.result (returns-then-has_long_header-clause-acts g c)

pub returns-then-has_long_header-clause-named : goal.returns-then-has_long_header-clause-named
returns-then-has_long_header-clause-named g c =
    transient_refuses c.args.envelope c.args.message.now c.args.terms.when.moment c.carry_out.result (sym c.limit_refusal.ensures ∙ c.in_default.is) c.carry_out.ensures.named

pub returns-in_err-mail-clause-acts : goal.returns-in_err-mail-clause-acts
returns-in_err-mail-clause-acts g c =
    let undone : OnOk c.from_residual-in_err-mail.result ⊥ = search rules in
    let transient : IfErr c.from_residual-in_err-mail.result IsTransient = search rules in
    let none : limit_refusal c.args.envelope c.args.message.now c.args.terms.when.moment ≡ None = sym c.limit_refusal.ensures ∙ c.in_default.is in
    delivery_stopped c.args.user.now c.args.envelope c.args.message.now (terms_of c.args.terms) none (state g.S.Store c.args.store.now) (state g.S.Store c.look_up-looked.new.store) c.look_up-looked.result
    c.look_up-looked.ensures.reads.keeps c.from_residual-in_err-mail.result undone transient

pub returns-in_err-mail-clause-spaced : goal.returns-in_err-mail-clause-spaced
returns-in_err-mail-clause-spaced g c = delivery_spaced c.args.user.now c.args.envelope c.args.message.now (terms_of c.args.terms) (state g.S.Store c.args.store.now) (state g.S.Store c.look_up-looked.new.store) c.from_residual-in_err-mail.result (returns-in_err-mail-clause-acts g c)

pub settle-requires : goal.settle-requires
settle-requires g c = subst (λ (mail : MailSpec). has_long_header mail.octets ≡ false) (sym c.in_ok-mail.ensures) (sym c.has_long_header.ensures ∙ c.if-has_long_header.false)

pub returns-in_err-settlement-clause-acts : goal.returns-in_err-settlement-clause-acts
returns-in_err-settlement-clause-acts g c =
    let undone : OnOk c.from_residual-in_err-settlement.result ⊥ = search rules in
    let transient : IfErr c.from_residual-in_err-settlement.result IsTransient = search rules in
    let none : limit_refusal c.args.envelope c.args.message.now c.args.terms.when.moment ≡ None = sym c.limit_refusal.ensures ∙ c.in_default.is in
    delivery_stopped c.args.user.now c.args.envelope c.args.message.now (terms_of c.args.terms) none (state g.S.Store c.args.store.now) (state g.S.Store c.look_up-looked.new.store) c.look_up-looked.result
    c.look_up-looked.ensures.reads.keeps c.from_residual-in_err-settlement.result undone transient

pub returns-in_err-settlement-clause-spaced : goal.returns-in_err-settlement-clause-spaced
returns-in_err-settlement-clause-spaced g c = delivery_spaced c.args.user.now c.args.envelope c.args.message.now (terms_of c.args.terms) (state g.S.Store c.args.store.now) (state g.S.Store c.look_up-looked.new.store) c.from_residual-in_err-settlement.result (returns-in_err-settlement-clause-acts g c)

pub recall-requires : goal.recall-requires
recall-requires g c = subst (λ (mail : MailSpec). mail.moment ≤ 253402300799) (sym c.in_ok-mail.ensures) (moment_fits c.args.envelope c.args.message.now c.args.terms.when.moment (sym c.limit_refusal.ensures ∙ c.in_default.is))

pub returns-in_err-view-clause-acts : goal.returns-in_err-view-clause-acts
returns-in_err-view-clause-acts g c =
    let told = err_from_is_err_and c.from_residual-in_err-view.result c.from_residual-in_err-view.ensures.1 in
    let undone : OnOk c.from_residual-in_err-view.result ⊥ = rw told.1 tt in
    let transient : IfErr c.from_residual-in_err-view.result IsTransient = rw (told.1, told.2) c.in_err-view.ensures.named in
    let none : limit_refusal c.args.envelope c.args.message.now c.args.terms.when.moment ≡ None = sym c.limit_refusal.ensures ∙ c.in_default.is in
    delivery_stopped c.args.user.now c.args.envelope c.args.message.now (terms_of c.args.terms) none (state g.S.Store c.args.store.now) (state g.S.Store c.recall.new.store) c.recall.result
    (recalled_keeps c.args.user.now IsLookup (λ (view : AccountView) a. IsRecalled view c.in_ok-found.found.address c.in_ok-mail.mail (deeds_in c.in_ok-settlement.settlement.deeds) a) (state g.S.Store c.args.store.now) (state g.S.Store c.look_up-looked.new.store) (state g.S.Store c.recall.new.store) c.look_up-looked.result c.in_ok-found.found c.in_ok-found.was c.look_up-looked.ensures c.recall.result c.recall.ensures) c.from_residual-in_err-view.result undone transient

pub returns-in_err-view-clause-spaced : goal.returns-in_err-view-clause-spaced
returns-in_err-view-clause-spaced g c = delivery_spaced c.args.user.now c.args.envelope c.args.message.now (terms_of c.args.terms) (state g.S.Store c.args.store.now) (state g.S.Store c.recall.new.store) c.from_residual-in_err-view.result (returns-in_err-view-clause-acts g c)

pub returns-in_err-view-clause-named : goal.returns-in_err-view-clause-named
returns-in_err-view-clause-named g c =
    let told = err_from_is_err_and c.from_residual-in_err-view.result c.from_residual-in_err-view.ensures.1 in
    let transient : IfErr c.from_residual-in_err-view.result IsTransient = rw (told.1, told.2) c.in_err-view.ensures.named in
    transient_refuses c.args.envelope c.args.message.now c.args.terms.when.moment c.from_residual-in_err-view.result (sym c.limit_refusal.ensures ∙ c.in_default.is) transient

pub plan-requires : goal.plan-requires
plan-requires g c = subst (λ (mail : MailSpec). mail.moment ≤ 253402300799) (sym c.in_ok-mail.ensures) (moment_fits c.args.envelope c.args.message.now c.args.terms.when.moment (sym c.limit_refusal.ensures ∙ c.in_default.is))

pub returns-in_err-plan-clause-acts : goal.returns-in_err-plan-clause-acts
returns-in_err-plan-clause-acts g c =
    let undone : OnOk c.from_residual-in_err-plan.result ⊥ = search rules in
    let transient : IfErr c.from_residual-in_err-plan.result IsTransient = search rules in
    let none : limit_refusal c.args.envelope c.args.message.now c.args.terms.when.moment ≡ None = sym c.limit_refusal.ensures ∙ c.in_default.is in
    delivery_stopped c.args.user.now c.args.envelope c.args.message.now (terms_of c.args.terms) none (state g.S.Store c.args.store.now) (state g.S.Store c.recall.new.store) c.recall.result
    (recalled_keeps c.args.user.now IsLookup (λ (view : AccountView) a. IsRecalled view c.in_ok-found.found.address c.in_ok-mail.mail (deeds_in c.in_ok-settlement.settlement.deeds) a) (state g.S.Store c.args.store.now) (state g.S.Store c.look_up-looked.new.store) (state g.S.Store c.recall.new.store) c.look_up-looked.result c.in_ok-found.found c.in_ok-found.was c.look_up-looked.ensures c.recall.result c.recall.ensures) c.from_residual-in_err-plan.result undone transient

pub returns-in_err-plan-clause-spaced : goal.returns-in_err-plan-clause-spaced
returns-in_err-plan-clause-spaced g c = delivery_spaced c.args.user.now c.args.envelope c.args.message.now (terms_of c.args.terms) (state g.S.Store c.args.store.now) (state g.S.Store c.recall.new.store) c.from_residual-in_err-plan.result (returns-in_err-plan-clause-acts g c)

pub returns-clause-acts : goal.returns-clause-acts
returns-clause-acts g c =
    let found = c.in_ok-found.found in
    let view = c.in_ok-view.view in
    let plan = c.in_ok-plan.plan in
    let settled = settled_of c.in_ok-settlement.settlement in
    let Part = λ (v : AccountView) (a : Account). IsLookup found a × IsRecalled v found.address c.in_ok-mail.mail settled.deeds a in
    let look : LooksUp c.args.user.now Part (state g.S.Store c.args.store.now) (state g.S.Store c.recall.new.store) (Ok view) =
    looks_recalled c.args.user.now IsLookup (λ (view : AccountView) a. IsRecalled view c.in_ok-found.found.address c.in_ok-mail.mail (deeds_in c.in_ok-settlement.settlement.deeds) a) (state g.S.Store c.args.store.now) (state g.S.Store c.look_up-looked.new.store) (state g.S.Store c.recall.new.store) c.look_up-looked.result found c.in_ok-found.was c.look_up-looked.ensures c.recall.result c.recall.ensures
    view c.in_ok-view.was Part view (λ account one two. (one, two)) in
    let none : limit_refusal c.args.envelope c.args.message.now c.args.terms.when.moment ≡ None = sym c.limit_refusal.ensures ∙ c.in_default.is in
    delivery_written c.args.user.now c.args.envelope c.args.message.now (terms_of c.args.terms) none Part (state g.S.Store c.args.store.now) (state g.S.Store c.recall.new.store) (Ok view) view refl look plan
    (λ account is. record {
      own = view.address;
      address = subst (λ own. IsBareAddress account.address own) (sym is.1.same) is.0.address;
      delivers =
          planned_at view.address _ (borrowed_octets c.deciding.result) c.in_ok-mail.mail settled c.args.envelope c.args.message.now (terms_of c.args.terms) account plan c.in_ok-mail.ensures
          (c.deciding.ensures ∙ ap (λ text. script_or_default text c.args.terms.host.now.default) is.0.text) c.in_ok-settlement.ensures (c.in_ok-plan.ensures account (is.1.of is.0.address));
    })
    (state g.S.Store c.carry_out-2.new.store) c.carry_out-2.result c.carry_out-2.ensures.writes c.carry_out-2.ensures.told c.carry_out-2.ensures.named

pub returns-clause-spaced : goal.returns-clause-spaced
returns-clause-spaced g c = delivery_spaced c.args.user.now c.args.envelope c.args.message.now (terms_of c.args.terms) (state g.S.Store c.args.store.now) (state g.S.Store c.carry_out-2.new.store) c.carry_out-2.result (returns-clause-acts g c)

pub returns-clause-named : goal.returns-clause-named
returns-clause-named g c =
    transient_refuses c.args.envelope c.args.message.now c.args.terms.when.moment c.carry_out-2.result (sym c.limit_refusal.ensures ∙ c.in_default.is) c.carry_out-2.ensures.named
