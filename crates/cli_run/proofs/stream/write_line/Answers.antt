-- It was written and flushed.
use Rattle.std.proofs.Common.{rules}
use Rattle.cli_run.proofs.StreamLemmas.{flushed_then, printed_cut_whole}
use Rattle.cli_run.proofs.stream.write_line.Goals as goal

pub returns-in_err-put_line : goal.returns-in_err-put_line
returns-in_err-put_line g c = printed_cut_whole _ _ _ c.in_err-put_line.field-0.0 c.from_residual.result (search rules) c.in_err-put_line.ensures

pub returns : goal.returns
returns g c = flushed_then _ _ _ _ c.flush.result c.in_ok-put_line.ensures c.flush.ensures
