-- What is kept of a refused write, by example, and near misses.
use Rattle.std.proofs.Common.{◌≡◌, Some, None, refl}
use Rattle.sqlite.specs.declared.error.ErrorCode.TheVariants.{DiskFull, OutOfMemory}
use Rattle.store_accounts.specs.Refusals.{IsCauseIn}

full_is_kept : IsCauseIn (Some DiskFull) (Some DiskFull)
full_is_kept = record { store = λ other. refl; memory = λ is. absurd (let no = is in cc) }

-- of lack of memory nothing is kept: the refusal says it
memory_is_not : IsCauseIn (Some OutOfMemory) None
memory_is_not = record { store = λ other. absurd (other refl); memory = λ is. refl }

-- near misses: lack of memory kept, and a full disk not kept
not_memory : IsCauseIn (Some OutOfMemory) (Some OutOfMemory) → ⊥
not_memory cause = let no = cause.memory refl in cc

not_none_of_full : IsCauseIn (Some DiskFull) None → ⊥
not_none_of_full cause = let no = cause.store (λ is. let e = is in cc) in cc
