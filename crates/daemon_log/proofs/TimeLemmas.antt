-- Slots of times, and what was counted in them.
use Rattle.std.proofs.Common.{◌≡◌, ℕ, zero, suc, List, [], ◌∷◌, slice_index_or, replicate, refl}

-- no slot has anything
pub all_none : (count slot : ℕ) → ◌≡◌ {A = ℕ} (slice_index_or (replicate count 0) slot 0) 0
all_none zero slot = refl
all_none (suc count) zero = refl
all_none (suc count) (suc slot) = all_none count slot
