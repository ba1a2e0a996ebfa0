-- How a value is written in a line.
use Rattle.std.specs.Prelude.{◌≡◌, ℕ, ◌+◌, ◌-◌, ◌/◌, ◌%◌, ◌==◌, nat_le, nat_lt, Bool, true, false, ◌&&◌, ◌||◌, if◌then◌else◌, List, [], ◌∷◌, ◌++◌}
use Rattle.std.specs.List.{list_all}

abbrev pub is_between : ℕ → ℕ → ℕ → Bool
is_between low high octet = nat_le low octet && nat_le octet high

-- one of `+-./<>@_~`
abbrev pub is_mark : ℕ → Bool
is_mark octet = (octet == 43) || (octet == 45) || (octet == 46) || (octet == 47) || (octet == 60) || (octet == 62) || (octet == 64) || (octet == 95) || (octet == 126)

-- a digit, a letter or a mark
abbrev pub is_plain : ℕ → Bool
is_plain octet = is_between 48 57 octet || is_between 65 90 octet || is_between 97 122 octet || is_mark octet

-- a visible octet, which a blank isn't
abbrev pub is_visible : ℕ → Bool
is_visible octet = is_between 33 126 octet

abbrev pub is_octet : ℕ → Bool
is_octet octet = nat_lt octet 256

-- a hexadecimal digit, in upper case
abbrev pub digit_of : ℕ → ℕ
digit_of value = if nat_lt value 10 then 48 + value else 65 + (value - 10)

-- an octet within quotation marks: a plain one as it is, any other as `\xHH`
abbrev pub escaped_octet : ℕ → List ℕ
escaped_octet octet = if is_plain octet then octet ∷ [] else 92 ∷ 120 ∷ digit_of (octet / 16) ∷ digit_of (octet % 16) ∷ []

abbrev pub escaped : List ℕ → List ℕ
escaped [] = []
escaped (octet ∷ value) = escaped_octet octet ++ escaped value

-- one or more plain octets
abbrev pub is_bare : List ℕ → Bool
is_bare [] = false
is_bare (octet ∷ value) = is_plain octet && list_all is_plain value

-- as it is if it is bare, otherwise escaped, in quotation marks
abbrev pub spelled : List ℕ → List ℕ
spelled value = if is_bare value then value else 34 ∷ (escaped value ++ 34 ∷ [])
