-- It was written and flushed.
use Rattle.std.proofs.Common.{rules}
use Rattle.cli_run.proofs.StreamLemmas.{flushed_then, printed_cut_whole}
use Rattle.cli_run.proofs.stream.write_all.Goals as goal

pub returns-in_err-put : goal.returns-in_err-put
returns-in_err-put g c = printed_cut_whole _ _ _ c.in_err-put.field-0.0 c.from_residual.result (search rules) c.in_err-put.ensures

pub returns : goal.returns
returns g c = flushed_then _ _ _ c.args.text.now c.flush.result c.in_ok-put.ensures c.flush.ensures
