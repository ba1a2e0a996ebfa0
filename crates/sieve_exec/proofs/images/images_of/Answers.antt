use Rattle.std.proofs.Common.{◌≡◌, ℕ, true, List, [], ◌∷◌, ◌++◌, take, ◌+◌, subst, sym, ap, ◌∙◌}
use Rattle.std.specs.Ordering.{nat_cmp}
use Rattle.std.specs.Cmp.Lexicographic.{slice_cmp}
use Rattle.std.specs.BTreeSet.{Updates}
use Rattle.std.proofs.lemmas.Grind.{take_at_read}
use Rattle.sieve_exec.specs.Images.{AreImages, text_image}
use Rattle.sieve_exec.proofs.ImageLemmas.{images_more}
use Rattle.sieve_exec.proofs.images.images_of.Goals as goal

pub loop-text-preserved : goal.loop-text-preserved
loop-text-preserved c =
    let text = c.text-item.result in
    let before = take c.loop-text.text-index c.args.texts.now in
    let more : take (c.loop-text.text-index + 1) c.args.texts.now ≡ before ++ text ∷ [] =
    (take_at_read c.args.texts.now c.loop-text.text-index text c.loop-text-test.true).1 ∙ ap (λ one. before ++ one ∷ []) (sym c.text-item.is) in
    let image : c.in_ok-image_of.field-0 ≡ text_image c.args.collation text = c.in_ok-image_of.ensures ∙ ap (text_image c.args.collation) c.as_slice.ensures in
    let updates = subst (λ key. Updates (slice_cmp nat_cmp) c.loop-text.images c.insert.new.self key true) image c.in_ok-insert.ensures.updates in
    subst (λ (texts : List (List ℕ)). AreImages c.args.collation texts c.insert.new.self) (sym more) (images_more c.args.collation before text c.loop-text.images c.insert.new.self c.loop-text.invariant updates)
