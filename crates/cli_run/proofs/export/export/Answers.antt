-- The text was printed, and the account closed behind it where that is asked for.
use Rattle.std.proofs.Common.{rules}
use Rattle.sqlite.specs.Held.{state}
use Rattle.cli_run.proofs.ExportLemmas.{closed, exported, unexported}
use Rattle.cli_run.proofs.export.export.Goals as goal

pub returns-in_err-print_text : goal.returns-in_err-print_text
returns-in_err-print_text g c =
    unexported c.args.user.now c.args.closes (state g.S.Store c.args.store.now) (state g.S.Store c.print_text.new.store) (g.W.Write.contents c.args.output.now) (g.W.Write.contents c.print_text.new.output) c.print_text.result c.print_text.ensures
    c.in_err-print_text.field-0.0 c.in_err-print_text.was c.from_residual.result (search rules)

pub returns-then-not-closes : goal.returns-then-not-closes
returns-then-not-closes g c =
    exported c.args.user.now c.args.closes (state g.S.Store c.args.store.now) (state g.S.Store c.print_text.new.store) (g.W.Write.contents c.args.output.now) (g.W.Write.contents c.print_text.new.output) c.print_text.result c.print_text.ensures
    c.in_ok-print_text.was c.if-not-closes.true

pub returns : goal.returns
returns g c =
    closed c.args.user.now c.args.closes (state g.S.Store c.args.store.now) (state g.S.Store c.print_text.new.store) (g.W.Write.contents c.args.output.now) (g.W.Write.contents c.print_text.new.output) c.print_text.result c.print_text.ensures
    c.in_ok-print_text.was c.if-not-closes.false (state g.S.Store c.do_upkeep.new.store) c.do_upkeep.result c.do_upkeep.ensures c.done_by.result c.done_by.ensures
