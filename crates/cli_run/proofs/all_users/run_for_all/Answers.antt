-- The users were read in a store that was taken and handed back, and then printed.
use Rattle.std.proofs.Common.{◌≡◌, Ok, subst, sym, rules}
use Rattle.cli_run.specs.Faults.{IsPrinted}
use Rattle.cli_run.specs.Serving.{HasDenied}
use Rattle.cli_run.proofs.AllUserLemmas.{lines_refused, lines_shown}
use Rattle.cli_run.proofs.all_users.run_for_all.Goals as goal

pub returns-in_err-text-clause-does : goal.returns-in_err-text-clause-does
returns-in_err-text-clause-does g c tells =
    lines_refused (HasDenied g.K.Keeper.refuses g.K.Keeper.will_wait c.args.location) (g.L.AccountLines.lines c.args.lines.now) (g.K.Keeper.holds c.args.keeper.now) (g.K.Keeper.holds c.list_all.new.keeper) (g.W.Write.contents c.args.output.now)
    c.in_err-text.field-0.0 c.from_residual.result (search rules) (c.in_err-text.ensures.found tells)

pub returns-clause-does : goal.returns-clause-does
returns-clause-does g c tells =
    let old = g.W.Write.contents c.args.output.now in
    let out = g.W.Write.contents c.write_all.new.output in
    let text : c.as_slice.result.now ≡ c.in_ok-text.text = search rules in
    lines_shown (HasDenied g.K.Keeper.refuses g.K.Keeper.will_wait c.args.location) (g.L.AccountLines.lines c.args.lines.now) (g.K.Keeper.holds c.args.keeper.now) (g.K.Keeper.holds c.list_all.new.keeper) c.in_ok-text.text (c.in_ok-text.ensures.found tells) old out
    c.write_all.result (subst (IsPrinted c.write_all.result old out) text c.write_all.ensures)
