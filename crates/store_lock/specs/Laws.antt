-- Facts that the keepers' laws cite.
use Rattle.std.specs.Prelude.{false, IsTrue}

-- a keeper that doesn't tell its tables owes nothing
pub never_told : {P : Type 0} → IsTrue false → P
never_told told = let never : ⊥ = let h = told in cc in absurd never
