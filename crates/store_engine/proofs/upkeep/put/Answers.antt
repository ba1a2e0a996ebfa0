use Rattle.std.proofs.Common.{sym, subst}
use Rattle.sqlite.specs.Held.{state}
use Rattle.store_accounts.specs.Promises.{WritesUser}
use Rattle.store_engine.specs.Upkeep.{stores}
use Rattle.store_engine.proofs.upkeep.put.Goals as goal

pub returns-then-activate : goal.returns-then-activate
returns-then-activate g c =
    subst (λ b. WritesUser c.args.user.now (stores c.args.name.now c.args.text.now b) (state g.S.Store c.args.store.now) (state g.S.Store c.put_active.new.self) c.put_active.result) (sym c.if-activate.true) c.put_active.ensures

pub returns : goal.returns
returns g c =
    subst (λ b. WritesUser c.args.user.now (stores c.args.name.now c.args.text.now b) (state g.S.Store c.args.store.now) (state g.S.Store c.put_script.new.self) c.put_script.result) (sym c.if-activate.false) c.put_script.ensures
