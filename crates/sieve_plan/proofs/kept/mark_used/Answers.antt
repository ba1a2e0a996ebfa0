use Rattle.std.proofs.Common.{refl}
use Rattle.std.proofs.Math.Seq.{map-set_same}
use Rattle.sieve_plan.specs.Kept.{pair_of}
use Rattle.sieve_plan.proofs.kept.mark_used.Goals as goal

pub returns : goal.returns
returns c = map-set_same pair_of _ _ _ c.index-scripts-place.result refl
