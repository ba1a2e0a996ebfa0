-- The write failed, was interrupted, or took nothing.
use Rattle.std.proofs.Common.{inr}
use Rattle.cli_run.specs.Streams.{took_nothing, was_interrupted, write_failed}
use Rattle.cli_run.proofs.StreamLemmas.{failed_so}
use Rattle.cli_run.proofs.stream.write_some.Goals as goal

pub returns-in_ok-allow_retry-in-Err-clause-takes : goal.returns-in_ok-allow_retry-in-Err-clause-takes
returns-in_ok-allow_retry-in-Err-clause-takes g c = inr (was_interrupted _ _ c.in-Err.error c.in_ok-allow_retry-in-Err.ensures.retried)

pub returns-in_ok-allow_retry-in-Err-clause-interrupted : goal.returns-in_ok-allow_retry-in-Err-clause-interrupted
returns-in_ok-allow_retry-in-Err-clause-interrupted g c is = was_interrupted _ _ c.in-Err.error c.in_ok-allow_retry-in-Err.ensures.retried

pub returns-in_err-allow_retry-in-Err-clause-failed : goal.returns-in_err-allow_retry-in-Err-clause-failed
returns-in_err-allow_retry-in-Err-clause-failed g c = failed_so c.from_residual.result _ (write_failed _ c.in-Err.error c.in_err-allow_retry-in-Err.ensures.refused)

pub returns-in-Ok-eq0-clause-failed : goal.returns-in-Ok-eq0-clause-failed
returns-in-Ok-eq0-clause-failed g c = took_nothing _ c.args.text.now c.requires
