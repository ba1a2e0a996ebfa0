-- What is told of a close, and what isn't.
use Rattle.std.proofs.Common.{◌≡◌, None, Some, Ok, Err, refl}
use Rattle.sqlite.specs.declared.error.Error.{Error}
use Rattle.store_accounts.specs.declared.refusal.Refusal.TheVariants.{Store}
use Rattle.store_lock.specs.Closing.{IsToldOf}
use Rattle.store_lock.specs.Memory.{told_of_close}

-- of one that went well nothing
nothing_told : IsToldOf (Ok tt) None
nothing_told = refl

-- one that failed isn't passed over
not_passed_over : (error : Error) → IsToldOf (Err error) None → ⊥
not_passed_over error told = let never : ⊥ = let h = told.1 in cc in absurd never

-- in memory the chosen one fails, and the one before it doesn't
chosen_fails : told_of_close (Some 0) ≡ Some Store
chosen_fails = refl

one_before_closes : told_of_close (Some 1) ≡ None
one_before_closes = refl
