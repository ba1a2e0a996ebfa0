use Rattle.std.proofs.Common.{ℕ, ◌∙◌, ap, [], ◌∷◌, List, cond, ◌==◌, ◌||◌, length}
use Rattle.mail_words.proofs.FoldingLemmas.{fold_step}
use Rattle.mail_words.proofs.folding.fold.Goals as goal

pub loop-rest-preserved : goal.loop-rest-preserved
loop-rest-preserved c =
    fold_step _ c.loop-rest.value.items _ _ c.extend_from_slice-in-loop-rest-2.new.self.items c.loop-rest.rest.now c.blank_run.result.0.now c.blank_run.result.1.now
    c.nonblank_run.result.0.now _ c.line_end.result.now c.loop-rest.invariant
    c.blank_run.ensures.front c.blank_run.ensures.back c.nonblank_run.ensures.front c.nonblank_run.ensures.back
    (c.line_end.ensures ∙ ap (λ t. cond {A = List ℕ} ((length t == 0) || ((length c.blank_run.result.0.now == 0) || (length c.nonblank_run.result.0.now == 0))) [] (13 ∷ 10 ∷ [])) c.as_slice.ensures.value)
    c.in_ok-extend_from_slice.ensures.items c.in_ok-extend_from_slice-2.ensures.items c.in_ok-extend_from_slice-3.ensures.items
