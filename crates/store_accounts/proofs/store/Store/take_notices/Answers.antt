use Rattle.std.proofs.Common.{OnOk, IfErr, ◌∙◌, [], ◌∷◌, w64, SFits, to_z-of_z, rules}
use Rattle.sqlite.specs.Held.{state}
use Rattle.store_tables.specs.declared.change.Change.TheVariants.{RemoveEarlyNotices}
use Rattle.store_accounts.specs.Account.{with_user, takes_notices}
use Rattle.store_accounts.specs.Promises.{HasUser}
use Rattle.store_accounts.specs.Refusals.{IsTransient}
use Rattle.store_accounts.proofs.UpkeepLemmas.{carries_notices}
use Rattle.store_accounts.proofs.KeepLemmas.{writes, writes_failed}
use Rattle.store_accounts.proofs.store.Store.take_notices.Goals as goal

pub returns-in_err-until : goal.returns-in_err-until
returns-in_err-until g c =
    let none : OnOk c.from_residual.result ⊥ = search rules in
    let transient : IfErr c.from_residual.result IsTransient = search rules in
    writes_failed (state g.S.Store c.args.self.now) (HasUser c.args.user.now) (λ all. with_user all c.args.user.now (takes_notices c.args.until)) c.from_residual.result none transient

pub returns : goal.returns
returns g c =
    let fits : SFits w64 c.in_ok-until.until = search rules in
    let is = to_z-of_z fits ∙ c.in_ok-until.ensures.same in
    writes c.apply.result (state g.S.Store c.args.self.now) (state g.S.Store c.apply.new.self) (RemoveEarlyNotices c.args.user _ ∷ []) (HasUser c.args.user.now) (λ all. with_user all c.args.user.now (takes_notices c.args.until))
    (carries_notices c.args.user _ c.args.until is) c.apply.ensures.made c.apply.ensures.settled c.apply.ensures.same c.apply.ensures.crash c.apply.ensures.named
