use Rattle.std.proofs.Common.{◌∙◌, refl}
use Rattle.mail_words.specs.Written.{is_written_run}
use Rattle.mail_words.proofs.RunLemmas.{filled, shorter}
use Rattle.mail_words.proofs.WrittenLaws.{runs_passed, runs_failed}
use Rattle.mail_words.proofs.written.are_written_runs.Goals as goal

pub returns-then-not-branch : goal.returns-then-not-branch
returns-then-not-branch c =
    runs_failed is_written_run c.loop-rest.rest.now c.blank_run.result.0.now c.blank_run.result.1.now c.nonblank_run.result.0.now _ c.in_ok-are_written.field-0 refl
    c.blank_run.ensures.front c.blank_run.ensures.back c.nonblank_run.ensures.front c.nonblank_run.ensures.back c.in_ok-are_written.ensures c.if-not-branch.true
    ∙ c.loop-rest.invariant

pub loop-rest-smaller : goal.loop-rest-smaller
loop-rest-smaller c =
    shorter c.loop-rest.rest.now c.blank_run.result.1.now c.nonblank_run.result.1.now c.blank_run.ensures.back c.nonblank_run.ensures.back
    (filled c.loop-rest.rest.now c.is_empty.result c.is_empty.ensures c.loop-rest-test.true)

pub loop-rest-preserved : goal.loop-rest-preserved
loop-rest-preserved c =
    runs_passed is_written_run c.loop-rest.rest.now c.blank_run.result.0.now c.blank_run.result.1.now c.nonblank_run.result.0.now _ c.in_ok-are_written.field-0 refl
    c.blank_run.ensures.front c.blank_run.ensures.back c.nonblank_run.ensures.front c.nonblank_run.ensures.back c.in_ok-are_written.ensures c.if-not-branch.false
    ∙ c.loop-rest.invariant
