-- Bodies in base64 (RFC 2045, section 6.8).
use Rattle.std.specs.Prelude.{ℕ, ◌*◌, ◌/◌, ◌==◌, Bool, cond, ◌||◌, Option, None, Some, List, [], ◌∷◌, length, take, unwrap_or}
use Rattle.std.specs.Char.{is_ascii_alphanumeric}
use Rattle.base64.specs.Engines.{standard_no_pad}
use Rattle.base64.specs.GeneralPurpose.{decoded_of}

-- a letter, a digit, "+" or "/"
abbrev pub is_base64_octet : ℕ → Bool
is_base64_octet octet = is_ascii_alphanumeric octet || octet == 43 || octet == 47

-- the octets of the alphabet up to the first "=", which ends the digits; any others are passed over
abbrev pub base64_digits : List ℕ → List ℕ
base64_digits [] = []
base64_digits (octet ∷ rest) =
    let later = base64_digits rest in
    cond (octet == 61) [] (cond (is_base64_octet octet) (octet ∷ later) later)

-- the groups of four at the beginning
abbrev pub whole_groups : List ℕ → List ℕ
whole_groups digits = take (length digits / 4 * 4) digits

-- the first of these that is there, or nothing
abbrev pub first_octets : Option (List ℕ) → Option (List ℕ) → List ℕ
first_octets None other = unwrap_or other []
first_octets (Some octets) other = octets

-- what a body stands for: the octets that its digits encode; if a last group of less than four octets is no end of an encoding (RFC 4648,
-- section 4), that group counts for nothing
abbrev pub base64_body : List ℕ → List ℕ
base64_body body =
    let digits = base64_digits body in
    first_octets (decoded_of standard_no_pad digits) (decoded_of standard_no_pad (whole_groups digits))
