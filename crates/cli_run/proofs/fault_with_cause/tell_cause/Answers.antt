-- One line, or nothing.
use Rattle.std.proofs.Common.{subst, sym, Some}
use Rattle.std.specs.Option.{option_copied}
use Rattle.cli_run.specs.Faults.{cause_line}
use Rattle.cli_run.specs.Streams.{IsWritten}
use Rattle.cli_run.proofs.StreamLemmas.{written}
use Rattle.cli_run.proofs.fault_with_cause.tell_cause.Goals as goal

pub returns-in-Some : goal.returns-in-Some
returns-in-Some g c =
    let old = g.E.Write.contents c.args.errors.now in
    let new = g.E.Write.contents c.write_line.new.output in
    subst (λ o. IsWritten old new (cause_line (option_copied o))) (sym c.in-Some.is)
    (subst (λ t. IsWritten old new (cause_line (Some t))) c.as_bytes.ensures.value (written old new _ c.write_line.result c.write_line.ensures))
