-- Words on octets and on texts of ASCII.
use Rattle.std.specs.Prelude.{ℕ, Bool, ◌==◌, ◌||◌, ◌&&◌, cond, nat_le, List, [], ◌∷◌, map}
use Rattle.std.specs.Char.{is_ascii_alphabetic, to_ascii_lowercase, is_ascii_digit}

-- SP or TAB
abbrev pub is_blank : ℕ → Bool
is_blank octet = octet == 32 || octet == 9

-- a letter of ASCII
abbrev pub is_letter : ℕ → Bool
is_letter octet = is_ascii_alphabetic octet

-- a digit of ASCII
abbrev pub is_digit : ℕ → Bool
is_digit octet = is_ascii_digit octet

-- 32 to 126
abbrev pub is_printable : ℕ → Bool
is_printable octet = nat_le 32 octet && nat_le octet 126

-- the text with A to Z written as a to z
abbrev pub lowered : List ℕ → List ℕ
lowered text = map to_ascii_lowercase text

-- the text without the blanks at its beginning
abbrev pub trim_front : List ℕ → List ℕ
trim_front [] = []
trim_front (octet ∷ rest) = cond (is_blank octet) (trim_front rest) (octet ∷ rest)

-- an octet before a text, unless that makes a lone blank
abbrev pub prepend_trimmed : ℕ → List ℕ → List ℕ
prepend_trimmed octet [] = cond (is_blank octet) [] (octet ∷ [])
prepend_trimmed octet (next ∷ rest) = octet ∷ (next ∷ rest)

-- the text without the blanks at its end
abbrev pub trim_back : List ℕ → List ℕ
trim_back [] = []
trim_back (octet ∷ rest) = prepend_trimmed octet (trim_back rest)

-- the text without the blanks at its ends
abbrev pub trimmed : List ℕ → List ℕ
trimmed text = trim_back (trim_front text)
