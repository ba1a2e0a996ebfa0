-- The lines were written and flushed.
use Rattle.std.proofs.Common.{subst, sym, rules}
use Rattle.cli_run.specs.Faults.{IsPrinted}
use Rattle.cli_run.proofs.ReportLemmas.{told_lines, told_none}
use Rattle.cli_run.proofs.StreamLemmas.{flushed_then, printed_cut_whole}
use Rattle.cli_run.proofs.report.print_report.Goals as goal

pub returns-then-is_discarded : goal.returns-then-is_discarded
returns-then-is_discarded g c =
    subst (IsPrinted c.write_all.result (g.W.Write.contents c.args.output.now) (g.W.Write.contents c.write_all.new.output)) (sym (told_none c.args.report.now (c.is_discarded.ensures.yes c.if-is_discarded.true))) c.write_all.ensures

pub returns-in_err-put_report : goal.returns-in_err-put_report
returns-in_err-put_report g c =
    subst (IsPrinted c.from_residual.result (g.W.Write.contents c.args.output.now) (g.W.Write.contents c.put_report.new.output)) (sym (told_lines c.args.report.now (c.is_discarded.ensures.no c.if-is_discarded.false)))
    (printed_cut_whole _ _ _ c.in_err-put_report.field-0.0 c.from_residual.result (search rules) c.in_err-put_report.ensures)

pub returns : goal.returns
returns g c =
    subst (IsPrinted c.flush.result (g.W.Write.contents c.args.output.now) (g.W.Write.contents c.flush.new.output)) (sym (told_lines c.args.report.now (c.is_discarded.ensures.no c.if-is_discarded.false)))
    (flushed_then _ _ _ _ c.flush.result c.in_ok-put_report.ensures c.flush.ensures)
