-- It was flushed, or that failed.
use Rattle.std.proofs.Common.{refl}
use Rattle.cli_run.specs.Streams.{flush_failed, was_flushed}
use Rattle.cli_run.proofs.StreamLemmas.{kept_appends}
use Rattle.cli_run.proofs.stream.flush.Goals as goal

pub returns-in-Ok : goal.returns-in-Ok
returns-in-Ok g c = (kept_appends _ _ c.flush.ensures.bytes, was_flushed _)

pub returns-in-Err : goal.returns-in-Err
returns-in-Err g c = (refl, ((0, kept_appends _ _ c.flush.ensures.bytes), flush_failed _ c.in-Err.field-0))
