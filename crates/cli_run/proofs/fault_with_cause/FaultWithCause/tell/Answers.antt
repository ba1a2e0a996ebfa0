-- The line was written, and then what is known of the cause; or it wasn't, and nothing follows.
use Rattle.std.proofs.Common.{◌≡◌, ◌++◌, is_ok, true, false, subst, rules}
use Rattle.std.specs.Option.{option_copied}
use Rattle.cli_run.specs.Faults.{cause_line}
use Rattle.cli_run.specs.Streams.{IsWritten}
use Rattle.cli_run.proofs.StreamLemmas.{written_cut, written_then}
use Rattle.cli_run.proofs.fault_with_cause.FaultWithCause.tell.Goals as goal

pub returns-then-is_ok : goal.returns-then-is_ok
returns-then-is_ok g c =
    let old = g.E.Write.contents c.args.errors.now in
    let mid = g.E.Write.contents c.write_all.new.output in
    let new = g.E.Write.contents c.tell_cause.new.errors in
    let ok : is_ok c.write_all.result ≡ true = search rules in
    subst (λ line. IsWritten old new (line ++ cause_line (option_copied c.args.self.cause))) c.line.ensures (written_then old mid new c.line.result.now (cause_line (option_copied c.args.self.cause)) c.write_all.result ok c.write_all.ensures c.tell_cause.ensures)

pub returns-else-is_ok : goal.returns-else-is_ok
returns-else-is_ok g c =
    let old = g.E.Write.contents c.args.errors.now in
    let new = g.E.Write.contents c.write_all.new.output in
    let failed : is_ok c.write_all.result ≡ false = search rules in
    subst (λ line. IsWritten old new (line ++ cause_line (option_copied c.args.self.cause))) c.line.ensures (written_cut old new c.line.result.now (cause_line (option_copied c.args.self.cause)) c.write_all.result failed c.write_all.ensures)
