use Rattle.std.proofs.Common.{◌≡◌, ◌<◌, length, map, arith, sym, ◌∙◌}
use Rattle.std.proofs.lemmas.Bool.Decides.{Decides-eqb}
use Rattle.std.proofs.lemmas.List.{length-map}
use Rattle.std.proofs.lemmas.Slice.Eq.{slice_eq-Decides}
use Rattle.sieve_plan.specs.Kept.{pair_of, texts_of}
use Rattle.sieve_plan.proofs.KeptLemmas.{text_at}
use Rattle.sieve_plan.proofs.kept.place_of.Goals as goal

pub returns-then-eq : goal.returns-then-eq
returns-then-eq c =
    let within : c.loop-place.place < length c.args.scripts.now = omega arith in
    (simp length-map within, text_at c.args.scripts.now c.loop-place.place c.index-scripts-place.result within c.index-scripts-place.is ∙ (sym c.as_slice.ensures ∙ (slice_eq-Decides Decides-eqb _ _ _ c.eq.ensures).0 c.if-eq.true))
