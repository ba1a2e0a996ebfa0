-- The read told the end, was interrupted, or failed.
use Rattle.std.proofs.Common.{[], inr, subst, take, rules}
use Rattle.std.specs.Io.KnownBytes.{Consumes, IsAtEnd}
use Rattle.cli_run.specs.Streams.{read_failed, tells_end, was_interrupted}
use Rattle.cli_run.proofs.StreamLemmas.{failed_so}
use Rattle.cli_run.proofs.stream.read_at.Goals as goal

pub returns-in-Ok-eq0-clause-tells : goal.returns-in-Ok-eq0-clause-tells
returns-in-Ok-eq0-clause-tells g c is =
    let old = g.R.Read.remaining c.args.input.now in
    let new = g.R.Read.remaining c.read.new.self in
    let nothing : Consumes old new [] = subst (λ n. Consumes old new (take n c.read.new.buf)) c.in-Ok-eq0.field-0-test c.in-Ok-eq0.ensures.bytes.0 in
    let none : IsAtEnd new = search rules in
    tells_end g.R.Read.remaining _ _ nothing none

pub returns-in_ok-allow_retry-in-Err-clause-goes : goal.returns-in_ok-allow_retry-in-Err-clause-goes
returns-in_ok-allow_retry-in-Err-clause-goes g c = inr (was_interrupted _ _ c.in-Err.error c.in_ok-allow_retry-in-Err.ensures.retried)

pub returns-in_ok-allow_retry-in-Err-clause-interrupted : goal.returns-in_ok-allow_retry-in-Err-clause-interrupted
returns-in_ok-allow_retry-in-Err-clause-interrupted g c is = was_interrupted _ _ c.in-Err.error c.in_ok-allow_retry-in-Err.ensures.retried

pub returns-in_err-allow_retry-in-Err-clause-failed : goal.returns-in_err-allow_retry-in-Err-clause-failed
returns-in_err-allow_retry-in-Err-clause-failed g c = failed_so c.from_residual.result _ (read_failed _ c.in-Err.error c.in_err-allow_retry-in-Err.ensures.refused)
