-- A fault is told as any other, but that a file is too large.
use Rattle.std.proofs.Common.{◌++◌, codes, Some, subst, sym, rules}
use Rattle.cli_reports.specs.Reports.{ended_line}
use Rattle.std.specs.Option.{option_copied}
use Rattle.cli_run.specs.Checks.{check_fault_line}
use Rattle.cli_run.specs.Streams.{IsWritten}
use Rattle.cli_run.proofs.CheckLemmas.{told_otherwise}
use Rattle.cli_run.proofs.StreamLemmas.{written}
use Rattle.cli_run.proofs.check.refuse_in.Goals as goal

pub returns-in_default-clause-line : goal.returns-in_default-clause-line
returns-in_default-clause-line g c =
    subst (λ f. IsWritten (g.E.Write.contents c.args.errors.now) (g.E.Write.contents c.refuse.new.errors) (check_fault_line (option_copied f) c.args.fault)) (sym c.in_default.is) c.refuse.ensures.line

pub returns-then-is_too_large-clause-line : goal.returns-then-is_too_large-clause-line
returns-then-is_too_large-clause-line g c =
    let old = g.E.Write.contents c.args.errors.now in
    let new = g.E.Write.contents c.write_line.new.output in
    subst (λ f. IsWritten old new (check_fault_line (option_copied f) c.args.fault)) (sym c.in-Some.is)
    (subst (λ f. IsWritten old new (check_fault_line (Some c.in-Some.file.now) f)) (sym (c.is_too_large.ensures.yes c.if-is_too_large.true))
    (subst (λ t. IsWritten old new (ended_line (t ++ codes ": script too large"))) c.as_bytes.ensures.value (written old new _ c.write_line.result c.write_line.ensures)))

pub returns-clause-line : goal.returns-clause-line
returns-clause-line g c =
    let old = g.E.Write.contents c.args.errors.now in
    let new = g.E.Write.contents c.refuse-2.new.errors in
    subst (IsWritten old new) (sym (told_otherwise (option_copied c.args.file) c.args.fault (c.is_too_large.ensures.other c.if-is_too_large.false))) c.refuse-2.ensures.line
