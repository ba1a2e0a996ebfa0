-- How a line shows an address: its end can be seen, whatever octets it has.
use Rattle.std.specs.Prelude.{ℕ, Bool, ◌==◌, ◌||◌, not, cond, nat_le, List, [], ◌∷◌}
use Rattle.std.specs.List.{flat_map}
use Rattle.hex.specs.Hex.{encode_lower}

-- an octet that would end the address or the line, or that begins an escape: up to 32, 127, `<`, `>` and `\`
abbrev pub is_escaped : ℕ → Bool
is_escaped octet = nat_le octet 32 || octet == 127 || octet == 60 || octet == 62 || octet == 92

-- such an octet is `\` and two hexadecimal digits in lower case, any other one is itself
abbrev pub address_octet : ℕ → List ℕ
address_octet octet = cond (is_escaped octet) (92 ∷ encode_lower (octet ∷ [])) (octet ∷ [])

-- an address, octet by octet
abbrev pub shown_address : List ℕ → List ℕ
shown_address address = flat_map address_octet address

-- what may be in an address that is shown: `\`, and each octet that isn't escaped
abbrev pub may_stand : ℕ → Bool
may_stand octet = octet == 92 || not (is_escaped octet)
