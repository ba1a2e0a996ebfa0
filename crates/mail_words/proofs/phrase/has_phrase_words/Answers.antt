use Rattle.std.proofs.Common.{◌∙◌}
use Rattle.mail_words.proofs.RunLemmas.{filled, shorter}
use Rattle.mail_words.proofs.WrittenLaws.{phrase_passed, phrase_failed}
use Rattle.mail_words.proofs.phrase.has_phrase_words.Goals as goal

pub returns-then-not-is_phrase_run : goal.returns-then-not-is_phrase_run
returns-then-not-is_phrase_run c =
    phrase_failed c.loop-rest.rest.now _ c.blank_run.result.1.now c.nonblank_run.result.0.now _ c.is_phrase_run.result c.blank_run.ensures.front c.blank_run.ensures.back
    c.nonblank_run.ensures.front c.nonblank_run.ensures.back c.is_phrase_run.ensures c.if-not-is_phrase_run.true
    ∙ c.loop-rest.invariant

pub loop-rest-smaller : goal.loop-rest-smaller
loop-rest-smaller c =
    shorter c.loop-rest.rest.now c.blank_run.result.1.now c.nonblank_run.result.1.now c.blank_run.ensures.back c.nonblank_run.ensures.back
    (filled c.loop-rest.rest.now c.is_empty.result c.is_empty.ensures c.loop-rest-test.true)

pub loop-rest-preserved : goal.loop-rest-preserved
loop-rest-preserved c =
    phrase_passed c.loop-rest.rest.now _ c.blank_run.result.1.now c.nonblank_run.result.0.now _ c.is_phrase_run.result c.blank_run.ensures.front c.blank_run.ensures.back
    c.nonblank_run.ensures.front c.nonblank_run.ensures.back c.is_phrase_run.ensures c.if-not-is_phrase_run.false
    ∙ c.loop-rest.invariant
