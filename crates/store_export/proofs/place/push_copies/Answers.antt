use Rattle.std.proofs.Common.{◌≡◌, ◌++◌, ◌∷◌, ◌∙◌, [], None, Some, append_assoc, sym, ap}
use Rattle.store_export.specs.Parts.{run_with}
use Rattle.store_export.specs.Places.{copy_place, copy_places}
use Rattle.store_export.proofs.RunLemmas.{run_after, run_after-append, copy_places-append}
use Rattle.store_export.proofs.place.push_copies.Goals as goal

pub loop-copy-preserved : goal.loop-copy-preserved
loop-copy-preserved c =
    let before = c.loop-copy.yielded in
    let copy = c.in-Some.copy in
    let last = copy_place (run_after None before) copy in
    let placed : c.push.new.self ≡ c.loop-copy.places ++ last ∷ [] = c.in_ok-push.ensures.ok ∙ ap (λ p. c.loop-copy.places ++ p ∷ []) (c.copy_place.ensures ∙ ap (λ r. copy_place r copy) c.loop-copy.invariant.1) in (
      placed ∙ ap (λ l. l ++ last ∷ []) c.loop-copy.invariant.0 ∙ append_assoc c.args.places.now (copy_places None before) (last ∷ []) ∙ ap (λ l. c.args.places.now ++ l) (sym (copy_places-append None before copy)),
      ap Some (c.with-next.ensures ∙ ap (λ r. run_with r copy.n copy.id) c.loop-copy.invariant.1) ∙ sym (run_after-append None before copy),
    )
