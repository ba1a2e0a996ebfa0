use Rattle.std.proofs.Common.{◌≡◌, ◌&&◌, not, true, false, OnOk, IfErr, sym, ◌∙◌, inl, inr, rules}
use Rattle.sqlite.specs.Held.{state}
use Rattle.store_accounts.specs.Account.{removes}
use Rattle.store_accounts.specs.Refusals.{IsTransient}
use Rattle.store_accounts.specs.declared.refusal.Refusal.TheVariants.{NoUser, UserHasMail}
use Rattle.store_engine.specs.declared.answer.Answer.TheVariants.{Removed}
use Rattle.store_engine.specs.declared.upkeep.Upkeep.TheVariants.{RemoveAccount}
use Rattle.store_engine.proofs.KeepingLemmas.{standing_failed, standing_refused, standing_written, remove_unknown, remove_full, remove_makes}
use Rattle.store_engine.proofs.upkeep.remove_account.Goals as goal

pub returns-in_err-standing : goal.returns-in_err-standing
returns-in_err-standing g c =
    let none : OnOk c.from_residual.result ⊥ = search rules in
    let transient : IfErr c.from_residual.result IsTransient = search rules in
    standing_failed c.args.user.now (RemoveAccount c.args.mail) tt (state g.S.Store c.args.store.now) (state g.S.Store c.read_standing.new.store) c.read_standing.result c.read_standing.ensures c.from_residual.result none transient

pub returns-in_default : goal.returns-in_default
returns-in_default g c =
    standing_refused c.args.user.now (RemoveAccount c.args.mail) tt (state g.S.Store c.args.store.now) (state g.S.Store c.read_standing.new.store) c.read_standing.result c.read_standing.ensures c.in_ok-standing.field-0 c.in_ok-standing.was NoUser (remove_unknown c.args.mail c.in_ok-standing.field-0 (inl c.in_default.is))

pub returns-then-standing : goal.returns-then-standing
returns-then-standing g c =
    standing_refused c.args.user.now (RemoveAccount c.args.mail) tt (state g.S.Store c.args.store.now) (state g.S.Store c.read_standing.new.store) c.read_standing.result c.read_standing.ensures c.in_ok-standing.field-0 c.in_ok-standing.was NoUser
    (remove_unknown c.args.mail c.in_ok-standing.field-0 (inr (c.in-Some.standing, c.in-Some.is, c.if-standing.true)))

pub returns-then-is_in_the_way : goal.returns-then-is_in_the_way
returns-then-is_in_the_way g c =
    let full : (not c.args.mail && c.in-Some.standing.has_mail) ≡ true = sym c.is_in_the_way.ensures ∙ c.if-is_in_the_way.true in
    standing_refused c.args.user.now (RemoveAccount c.args.mail) tt (state g.S.Store c.args.store.now) (state g.S.Store c.read_standing.new.store) c.read_standing.result c.read_standing.ensures c.in_ok-standing.field-0 c.in_ok-standing.was UserHasMail
    (λ o is. remove_full c.in-Some.standing c.if-standing.false c.args.mail full o (sym c.in-Some.is ∙ is))

pub returns : goal.returns
returns g c =
    let clear : (not c.args.mail && c.in-Some.standing.has_mail) ≡ false = sym c.is_in_the_way.ensures ∙ c.if-is_in_the_way.false in
    standing_written c.args.user.now (RemoveAccount c.args.mail) tt (state g.S.Store c.args.store.now) (state g.S.Store c.read_standing.new.store) c.read_standing.result c.read_standing.ensures c.in_ok-standing.field-0 c.in_ok-standing.was removes Removed
    (λ o is. remove_makes c.in-Some.standing c.if-standing.false c.args.mail clear o (sym c.in-Some.is ∙ is)) (state g.S.Store c.remove_account-removed.new.self) c.remove_account-removed.result c.remove_account-removed.ensures c.and.result c.and.ensures
