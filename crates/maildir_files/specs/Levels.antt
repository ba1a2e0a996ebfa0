-- The levels of a folder's name.
use Rattle.std.specs.Prelude.{ℕ, Bool, true, false, ◌==◌, ◌&&◌, ◌||◌, not, List, [], ◌∷◌}

-- whether a level of one or more octets comes first
abbrev pub begins_level : ℕ → List ℕ → Bool
begins_level separator [] = false
begins_level separator (octet ∷ rest) = not (octet == separator)

-- whether each separator comes before a level of one or more octets
abbrev pub levels_go_on : ℕ → List ℕ → Bool
levels_go_on separator [] = true
levels_go_on separator (octet ∷ rest) = (not (octet == separator) || begins_level separator rest) && levels_go_on separator rest

-- one or more levels with the separator between them, none of them empty
abbrev pub has_levels : ℕ → List ℕ → Bool
has_levels separator name = begins_level separator name && levels_go_on separator name
