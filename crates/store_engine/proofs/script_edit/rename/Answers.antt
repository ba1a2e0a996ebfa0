-- The script has its new name, or what was refused is reported as without visible cause.
use Rattle.sqlite.specs.Held.{state}
use Rattle.store_accounts.specs.Account.{renames_script}
use Rattle.std.proofs.Common.{Ok, Err, refl}
use Rattle.store_engine.proofs.EditLemmas.{found_ok, found_err}
use Rattle.store_engine.proofs.script_edit.rename.Goals as goal

pub returns-in-Ok : goal.returns-in-Ok
returns-in-Ok g c =
    found_ok c.args.user.now (renames_script c.args.name.now c.args.other.now) (state g.S.Store c.args.store.now) (state g.S.Store c.rename.new.self) c.rename.result (Ok tt) c.in-Ok.is refl c.rename.ensures

pub returns-in-Err : goal.returns-in-Err
returns-in-Err g c =
    found_err c.args.user.now (renames_script c.args.name.now c.args.other.now) (state g.S.Store c.args.store.now) (state g.S.Store c.rename.new.self) c.rename.result (Err c.unforeseen.result) c.in-Err.refusal c.unforeseen.result c.in-Err.is refl c.unforeseen.ensures c.rename.ensures
