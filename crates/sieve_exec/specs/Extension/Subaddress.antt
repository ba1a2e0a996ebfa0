-- `subaddress`: the user and the detail of a local part, `:user` and `:detail` (RFC 5233, 4).
use Rattle.std.specs.Prelude.{◌≡◌, ◌==◌, ℕ, Bool, false, ◌⊎◌, cond, List, [], ◌∷◌, ◌++◌, Option, Some, None}
use Rattle.std.specs.List.{list_any}

-- `+`
abbrev pub is_plus : ℕ → Bool
is_plus octet = octet == 43

-- whether a text has a `+`
abbrev pub has_plus : List ℕ → Bool
has_plus text = list_any is_plus text

-- a local part is cut at its first `+`
pub record CutsAtFirst (local user detail : List ℕ) : Type 0 where
  pub cut : local ≡ user ++ 43 ∷ detail
  pub first : has_plus user ≡ false

-- the user of a local part: what precedes its first `+`, or all of it if it has none
abbrev pub IsUser : List ℕ → List ℕ → Type 0
IsUser local user = ((detail : List ℕ) × CutsAtFirst local user detail) ⊎ ((user ≡ local) × (has_plus local ≡ false))

-- the detail of a local part: what follows its first `+`; a local part without one has none
abbrev pub IsDetail : List ℕ → List ℕ → Type 0
IsDetail local detail = (user : List ℕ) × CutsAtFirst local user detail

-- the user of a local part: the one that is in IsUser with it
abbrev pub user_of : List ℕ → List ℕ
user_of [] = []
user_of (octet ∷ rest) = cond (is_plus octet) [] (octet ∷ user_of rest)

-- its detail, if it has one: the one that is in IsDetail with it
abbrev pub detail_of : List ℕ → Option (List ℕ)
detail_of [] = None
detail_of (octet ∷ rest) = cond (is_plus octet) (Some rest) (detail_of rest)
