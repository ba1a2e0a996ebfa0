use Rattle.std.proofs.Common.{OnOk, IfErr, ◌∙◌, [], ◌∷◌, w64, SFits, to_z-of_z, rules}
use Rattle.sqlite.specs.Held.{state}
use Rattle.store_tables.specs.declared.change.Change.TheVariants.{RemoveOutgoing}
use Rattle.store_accounts.specs.Account.{with_user, takes_out}
use Rattle.store_accounts.specs.Promises.{HasUser}
use Rattle.store_accounts.specs.Refusals.{IsTransient}
use Rattle.store_accounts.proofs.CallLemmas.{carries_taking}
use Rattle.store_accounts.proofs.KeepLemmas.{writes, writes_failed}
use Rattle.store_accounts.proofs.store.Store.take_out.Goals as goal

pub returns-in_err-id : goal.returns-in_err-id
returns-in_err-id g c =
    let none : OnOk c.from_residual.result ⊥ = search rules in
    let transient : IfErr c.from_residual.result IsTransient = search rules in
    writes_failed (state g.S.Store c.args.self.now) (HasUser c.args.user.now) (λ all. with_user all c.args.user.now (takes_out c.args.id)) c.from_residual.result none transient

pub returns : goal.returns
returns g c =
    let fits : SFits w64 c.in_ok-id.id = search rules in
    let is = to_z-of_z fits ∙ c.in_ok-id.ensures.same in
    writes c.apply.result (state g.S.Store c.args.self.now) (state g.S.Store c.apply.new.self) (RemoveOutgoing c.args.user _ ∷ []) (HasUser c.args.user.now) (λ all. with_user all c.args.user.now (takes_out c.args.id))
    (carries_taking c.args.user _ c.args.id is) c.apply.ensures.made c.apply.ensures.settled c.apply.ensures.same c.apply.ensures.crash c.apply.ensures.named
