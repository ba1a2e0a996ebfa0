-- The change is made, and the line is printed after that.
use Rattle.std.proofs.Common.{◌++◌, ap, sym, rules}
use Rattle.cli_reports.specs.Reports.{ended_line}
use Rattle.cli_run.specs.Serving.{HasDenied}
use Rattle.cli_run.proofs.ScriptEditLemmas.{edit_made, edit_unmade}
use Rattle.cli_run.proofs.script_edits.edit_and_tell.Goals as goal

pub returns-in_err-edit_in_store-clause-does : goal.returns-in_err-edit_in_store-clause-does
returns-in_err-edit_in_store-clause-does g c tells =
    edit_unmade (HasDenied g.K.Keeper.refuses g.K.Keeper.will_wait c.args.location) c.args.user.now c.args.edit (g.K.Keeper.holds c.args.keeper.now) (g.K.Keeper.holds c.edit_in_store.new.keeper) (g.W.Write.contents c.args.output.now)
    c.in_err-edit_in_store.field-0.0 c.from_residual.result (search rules) (c.in_err-edit_in_store.ensures.puts tells)

pub returns-clause-does : goal.returns-clause-does
returns-clause-does g c tells =
    edit_made (HasDenied g.K.Keeper.refuses g.K.Keeper.will_wait c.args.location) c.args.user.now c.args.edit (g.K.Keeper.holds c.args.keeper.now) (g.K.Keeper.holds c.edit_in_store.new.keeper) (c.in_ok-edit_in_store.ensures.puts tells)
    (g.W.Write.contents c.args.output.now) (g.W.Write.contents c.write_line.new.output) (ended_line (c.args.word.now ++ c.args.what.now)) (ap ended_line (sym c.requires.told)) c.write_line.result c.write_line.ensures
