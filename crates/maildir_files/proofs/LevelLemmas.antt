-- What a name's levels are from one octet on.
use Rattle.std.proofs.Common.{◌≡◌, ℕ, ◌==◌, Bool, true, false, cond, List, ◌∷◌, refl}
use Rattle.maildir_files.specs.Levels.{levels_go_on, has_levels}

-- the test on what follows, told whether a level is to begin there
abbrev pub levels_from : ℕ → Bool → List ℕ → Bool
levels_from separator begins rest = cond begins (has_levels separator rest) (levels_go_on separator rest)

pub no_level : (separator octet : ℕ) (rest : List ℕ) → (octet == separator) ≡ true → levels_from separator true (octet ∷ rest) ≡ false
no_level separator octet rest same = rw same refl

pub level_goes_on : (separator octet : ℕ) (rest : List ℕ) → (octet == separator) ≡ false → (begins : Bool) → levels_from separator begins (octet ∷ rest) ≡ levels_from separator false rest
level_goes_on separator octet rest other true = rw other refl
level_goes_on separator octet rest other false = rw other refl

pub level_ends : (separator octet : ℕ) (rest : List ℕ) → (octet == separator) ≡ true → levels_from separator false (octet ∷ rest) ≡ levels_from separator true rest
level_ends separator octet rest same = rw same refl

pub levels_step : (separator octet : ℕ) (rest : List ℕ) (begins same : Bool) → (octet == separator) ≡ same → (begins ≡ true → same ≡ true → ⊥) → levels_from separator begins (octet ∷ rest) ≡ levels_from separator same rest
levels_step separator octet rest begins false other new = level_goes_on separator octet rest other begins
levels_step separator octet rest false true same new = level_ends separator octet rest same
levels_step separator octet rest true true same new = absurd (new refl refl)
