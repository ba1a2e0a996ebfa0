-- Quoted-printable bodies (RFC 2045, section 6.7).
use Rattle.std.specs.Prelude.{ℕ, zero, suc, ◌+◌, ◌*◌, ◌-◌, ◌==◌, nat_le, Bool, cond, ◌&&◌, Option, None, Some, List, [], ◌∷◌, ◌++◌, length, take, slice_index, option_map, unwrap_or, is_some}
use Rattle.std.specs.List.{flat_map}
use Rattle.octets.specs.Ascii.{trim_back}
use Rattle.mail_head.specs.Lines.{lines_of, without_end, end_of}

-- the value of a hexadecimal digit, of either case
abbrev pub escape_digit : ℕ → Option ℕ
escape_digit octet =
    cond (nat_le 48 octet && nat_le octet 57) (Some (octet - 48))
    (cond (nat_le 65 octet && nat_le octet 70) (Some (octet - 55))
    (cond (nat_le 97 octet && nat_le octet 102) (Some (octet - 87)) None))

-- the octet that two digits write
abbrev pub pair_value : Option ℕ → Option ℕ → Option ℕ
pair_value None low = None
pair_value (Some high) low = option_map (λ digit. high * 16 + digit) low

-- the octet that the two digits at the beginning of a text write
abbrev pub digits_value : List ℕ → Option ℕ
digits_value [] = None
digits_value (high ∷ []) = None
digits_value (high ∷ low ∷ rest) = pair_value (escape_digit high) (escape_digit low)

-- the octet that an equals sign and the two digits behind it stand for (rule 1)
abbrev pub escaped_value : ℕ → List ℕ → Option ℕ
escaped_value octet rest = cond (octet == 61) (digits_value rest) None

-- what stands in a line, but for so many octets at its beginning: each octet as it is (rule 2), also an equals sign without two digits
-- behind it; and what three octets stand for, in place of these
abbrev pub escapes_from : ℕ → List ℕ → List ℕ
escapes_from skip [] = []
escapes_from (suc skip) (octet ∷ rest) = escapes_from skip rest
escapes_from zero (octet ∷ rest) =
    let value = escaped_value octet rest in
    unwrap_or value octet ∷ escapes_from (cond (is_some value) 2 0) rest

-- an equals sign at the end of a line is a soft line break (rule 5)
abbrev pub is_soft : List ℕ → Bool
is_soft text = slice_index text (length text - 1) == 61

-- what a line stands for: blanks at its end count for nothing (rule 3), nor does its end behind a soft line break; any other line
-- end stays (rule 4)
abbrev pub quoted_line : List ℕ → List ℕ
quoted_line line =
    let text = trim_back (without_end line) in
    cond (is_soft text) (escapes_from 0 (take (length text - 1) text)) (escapes_from 0 text ++ end_of line)

-- what a body stands for
abbrev pub quoted_body : List ℕ → List ℕ
quoted_body body = flat_map quoted_line (lines_of body)
