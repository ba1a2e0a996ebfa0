use Rattle.std.proofs.Common.{◌∙◌}
use Rattle.std.specs.Option.{option_map}
use Rattle.mail_words.proofs.RunLemmas.{read_front, is_some-map, filled, shorter}
use Rattle.mail_words.proofs.decoding.decoded.Goals as goal

pub loop-rest-preserved-in_ok-extend_from_slice-2 : goal.loop-rest-preserved-in_ok-extend_from_slice-2
loop-rest-preserved-in_ok-extend_from_slice-2 c =
    read_front _ c.loop-rest.text.items c.extend_from_slice.new.self.items _ c.loop-rest.rest.now _ c.blank_run.result.1.now _ _ c.kept_blanks.result.now c.shown.result.now
    c.loop-rest.after_word c.is_some.result c.is_some-after_word.result (option_map (λ v. v.items) c.in_ok-word.word)
    c.loop-rest.invariant c.blank_run.ensures.front c.blank_run.ensures.back c.nonblank_run.ensures.front c.nonblank_run.ensures.back
    c.in_ok-word.ensures (c.is_some.ensures ∙ is_some-map (λ v. v.items) c.in_ok-word.word) (c.is_some-after_word.ensures ∙ is_some-map (λ v. v.items) c.in_ok-word.word)
    c.kept_blanks.ensures c.shown.ensures c.in_ok-extend_from_slice.ensures.items c.in_ok-extend_from_slice-2.ensures.items

pub loop-rest-smaller : goal.loop-rest-smaller
loop-rest-smaller c =
    shorter c.loop-rest.rest.now c.blank_run.result.1.now c.nonblank_run.result.1.now c.blank_run.ensures.back c.nonblank_run.ensures.back
    (filled c.loop-rest.rest.now c.is_empty.result c.is_empty.ensures c.loop-rest-test.true)

pub loop-rest-preserved : goal.loop-rest-preserved
loop-rest-preserved c =
    read_front _ c.loop-rest.text.items c.extend_from_slice.new.self.items _ c.loop-rest.rest.now _ c.blank_run.result.1.now _ _ c.kept_blanks.result.now c.shown.result.now
    c.loop-rest.after_word c.is_some.result c.is_some-after_word.result (option_map (λ v. v.items) c.in_ok-word.word)
    c.loop-rest.invariant c.blank_run.ensures.front c.blank_run.ensures.back c.nonblank_run.ensures.front c.nonblank_run.ensures.back
    c.in_ok-word.ensures (c.is_some.ensures ∙ is_some-map (λ v. v.items) c.in_ok-word.word) (c.is_some-after_word.ensures ∙ is_some-map (λ v. v.items) c.in_ok-word.word)
    c.kept_blanks.ensures c.shown.ensures c.in_ok-extend_from_slice.ensures.items c.in_ok-extend_from_slice-2.ensures.items
