use Rattle.std.proofs.Common.{◌≡◌, ℕ, Bool, true, false, not, List, [], ◌∷◌, ◌++◌, take, ◌+◌, refl, subst, sym, ap, ◌∙◌}
use Rattle.std.specs.Ordering.{nat_cmp}
use Rattle.std.specs.Cmp.Lexicographic.{slice_cmp}
use Rattle.std.specs.BTreeSet.{Updates, contains}
use Rattle.std.proofs.lemmas.Grind.{take_at_read}
use Rattle.sieve_exec.specs.Images.{AreImages, AnswerFor, AreApart, text_image, has_image}
use Rattle.sieve_exec.proofs.ImageLemmas.{images_more, answer_less, answer_more, still_apart, new_there}
use Rattle.sieve_exec.proofs.images.distinct.Goals as goal
use Rattle.sieve_exec.proofs.images.distinct.Goals.{then-branch+in_ok-push, else-branch}

was_there : (added there : Bool) → added ≡ not there → added ≡ false → there ≡ true
was_there added true put old = refl
was_there added false put old = sym old ∙ put

was_not : (added there : Bool) → added ≡ not there → added ≡ true → there ≡ false
was_not added true put fresh = sym fresh ∙ put
was_not added false put fresh = refl

pub loop-text-preserved : goal.loop-text-preserved
loop-text-preserved c =
    let collation = c.args.collation in
    let text = c.text-item.result in
    let before = take c.loop-text.text-index c.args.texts.now in
    let these = c.loop-text.first in
    let done = c.loop-text.invariant in
    let more : take (c.loop-text.text-index + 1) c.args.texts.now ≡ before ++ text ∷ [] =
    (take_at_read c.args.texts.now c.loop-text.text-index text c.loop-text-test.true).1 ∙ ap (λ one. before ++ one ∷ []) (sym c.text-item.is) in
    let image : c.in_ok-image_of.field-0 ≡ text_image collation text = c.in_ok-image_of.ensures ∙ ap (text_image collation) c.as_slice.ensures in
    let updates = subst (λ key. Updates (slice_cmp nat_cmp) c.loop-text.images c.insert.new.self key true) image c.in_ok-insert.ensures.updates in
    let images = subst (λ (texts : List (List ℕ)). AreImages collation texts c.insert.new.self) (sym more) (images_more collation before text c.loop-text.images c.insert.new.self done.images updates) in
    let put = subst (λ key. c.in_ok-insert.field-0 ≡ not (contains (slice_cmp nat_cmp) c.loop-text.images key)) image c.in_ok-insert.ensures.added in
    let new = new_there collation before c.loop-text.images (text_image collation text) c.in_ok-insert.field-0 done.images put in
    elim c.if-branch.branch [
      | then-branch+in_ok-push w ↦
          let pushed : c.if-branch.first ≡ these ++ text ∷ [] = w.first-is ∙ w.in_ok-push.ensures ∙ ap (λ one. these ++ one ∷ []) w.as_slice-then-branch.ensures in
          let none : has_image collation before (text_image collation text) ≡ false = was_not _ _ new w.if-branch.true in
          record {
            images = images;
            answer = subst (λ (texts : List (List ℕ)). AnswerFor collation texts c.if-branch.first) (sym more) (subst (λ (l : List (List ℕ)). AnswerFor collation (before ++ text ∷ []) l) (sym pushed) (answer_more collation before these text done.answer));
            once = subst (λ (l : List (List ℕ)). AreApart collation l) (sym pushed) (still_apart collation before these text done.answer done.once none);
          }
      | else-branch w ↦
          let there : has_image collation before (text_image collation text) ≡ true = was_there _ _ new w.if-branch.false in
          record {
            images = images;
            answer = subst (λ (texts : List (List ℕ)). AnswerFor collation texts c.if-branch.first) (sym more) (subst (λ (l : List (List ℕ)). AnswerFor collation (before ++ text ∷ []) l) (sym w.first-is) (answer_less collation before these text done.answer there));
            once = subst (λ (l : List (List ℕ)). AreApart collation l) (sym w.first-is) done.once;
          }
    ]
