-- Names that Dovecot 2.3 lists as they are.
use Rattle.std.specs.Prelude.{ℕ, Bool, true, false, ◌==◌, ◌&&◌, ◌||◌, not, List, [], ◌∷◌}
use Rattle.std.specs.Char.{is_ascii_hexdigit}
use Rattle.std.specs.Int.{is_in_range}

-- a hexadecimal digit of 8 or more, as an octet over 127 begins with
abbrev pub is_high_digit : ℕ → Bool
is_high_digit octet = is_in_range 56 57 octet || (is_in_range 65 70 octet || is_in_range 97 102 octet)

-- whether the two hexadecimal digits of an octet over 127 come first
abbrev pub begins_high : List ℕ → Bool
begins_high [] = false
begins_high (high ∷ []) = false
begins_high (high ∷ low ∷ rest) = is_high_digit high && is_ascii_hexdigit low

-- whether no octet is NUL, which Dovecot takes in no name, and none is a `\` before two hexadecimal digits of an octet over 127: when
-- it lists, it reads these three as that octet, and its process ends if what it has then isn't UTF-8
abbrev pub is_listed : List ℕ → Bool
is_listed [] = true
is_listed (octet ∷ rest) = not (octet == 0) && (not (octet == 92 && begins_high rest) && is_listed rest)
