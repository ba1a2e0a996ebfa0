use Rattle.std.proofs.Common.{OnOk, IfErr, sym, ◌∙◌, inl, inr, rules}
use Rattle.sqlite.specs.Held.{state}
use Rattle.store_accounts.specs.Account.{opens}
use Rattle.store_accounts.specs.Refusals.{IsTransient}
use Rattle.store_accounts.specs.declared.refusal.Refusal.TheVariants.{NoUser, UserIsOpen}
use Rattle.store_engine.specs.declared.answer.Answer.TheVariants.{Opened}
use Rattle.store_engine.specs.declared.upkeep.Upkeep.TheVariants.{OpenAccount}
use Rattle.store_engine.specs.Upkeep.{rounds}
use Rattle.store_engine.proofs.KeepingLemmas.{standing_failed, standing_refused, standing_written, open_unknown, open_there_already, open_makes}
use Rattle.store_engine.proofs.upkeep.open_account.Goals as goal

pub returns-in_err-standing : goal.returns-in_err-standing
returns-in_err-standing g c =
    let none : OnOk c.from_residual.result ⊥ = search rules in
    let transient : IfErr c.from_residual.result IsTransient = search rules in
    standing_failed c.args.user.now OpenAccount tt (state g.S.Store c.args.store.now) (state g.S.Store c.read_standing.new.store) c.read_standing.result c.read_standing.ensures c.from_residual.result none transient

pub returns-in_default : goal.returns-in_default
returns-in_default g c =
    standing_refused c.args.user.now OpenAccount tt (state g.S.Store c.args.store.now) (state g.S.Store c.read_standing.new.store) c.read_standing.result c.read_standing.ensures c.in_ok-standing.field-0 c.in_ok-standing.was NoUser (open_unknown c.in_ok-standing.field-0 (inl c.in_default.is))

pub returns-then-standing : goal.returns-then-standing
returns-then-standing g c =
    standing_refused c.args.user.now OpenAccount tt (state g.S.Store c.args.store.now) (state g.S.Store c.read_standing.new.store) c.read_standing.result c.read_standing.ensures c.in_ok-standing.field-0 c.in_ok-standing.was NoUser
    (open_unknown c.in_ok-standing.field-0 (inr (c.in-Some.standing, c.in-Some.is, c.if-standing.true)))

pub returns-then-not-standing : goal.returns-then-not-standing
returns-then-not-standing g c =
    standing_refused c.args.user.now OpenAccount tt (state g.S.Store c.args.store.now) (state g.S.Store c.read_standing.new.store) c.read_standing.result c.read_standing.ensures c.in_ok-standing.field-0 c.in_ok-standing.was UserIsOpen
    (λ o is. open_there_already c.in-Some.standing c.if-standing.false c.if-not-standing.true o (sym c.in-Some.is ∙ is))

pub returns : goal.returns
returns g c =
    standing_written c.args.user.now OpenAccount tt (state g.S.Store c.args.store.now) (state g.S.Store c.read_standing.new.store) c.read_standing.result c.read_standing.ensures c.in_ok-standing.field-0 c.in_ok-standing.was (opens rounds) Opened
    (λ o is. open_makes c.in-Some.standing c.if-standing.false c.if-not-standing.false o (sym c.in-Some.is ∙ is)) (state g.S.Store c.open_account-opened.new.self) c.open_account-opened.result c.open_account-opened.ensures c.and.result c.and.ensures
