-- The change is put to the machine, and told.
use Rattle.std.proofs.Common.{◌≡◌, refl, rules}
use Rattle.store_engine.specs.declared.script_edit.ScriptEdit.TheVariants.{Deactivate}
use Rattle.cli_run.specs.Serving.{HasDenied}
use Rattle.cli_run.proofs.ScriptEditLemmas.{edit_same}
use Rattle.cli_run.proofs.script_edits.run_deactivate.Goals as goal

pub returns-clause-does : goal.returns-clause-does
returns-clause-does g c tells =
    let asked = c.args.asked in
    let whom : c.as_bytes-user.result.now ≡ asked.user.now = search rules in
    edit_same (HasDenied g.K.Keeper.refuses g.K.Keeper.will_wait asked.location) c.as_bytes-user.result.now asked.user.now Deactivate Deactivate whom refl (g.W.Write.contents c.args.output.now)
    (g.W.Write.contents c.edit_and_tell.new.output) c.edit_and_tell.result (g.K.Keeper.holds c.args.keeper.now) (g.K.Keeper.holds c.edit_and_tell.new.keeper) (c.edit_and_tell.ensures.does tells)
