-- How a value stands in a field of a line of Dovecot's auth protocol: octets that would end it are written as two others.
use Rattle.std.specs.Prelude.{◌≡◌, ℕ, ◌*◌, ◌≤◌, ◌==◌, List, [], ◌∷◌, ◌++◌, length, Option, Some, None, if◌then◌else◌}
use Rattle.std.specs.List.{flat_map}
use Rattle.dovecot_userdb.specs.Lines.{HasNone}

-- what follows the octet 1 in place of an octet that may not stand in a field: `0` for NUL, `1` for 1, `t` for TAB, `r` for CR, `n` for
-- LF; none for an octet that stands for itself
abbrev pub escape_mark : ℕ → Option ℕ
escape_mark octet =
    if octet == 0 then Some 48 else (if octet == 1 then Some 49 else (if octet == 9 then Some 116 else (if octet == 13 then Some 114 else (if octet == 10 then Some 110 else None))))

-- the octet of which this is the mark
abbrev pub octet_marked : ℕ → Option ℕ
octet_marked mark =
    if mark == 48 then Some 0 else (if mark == 49 then Some 1 else (if mark == 116 then Some 9 else (if mark == 114 then Some 13 else (if mark == 110 then Some 10 else None))))

abbrev pub with_mark : ℕ → Option ℕ → List ℕ
with_mark octet (Some mark) = 1 ∷ mark ∷ []
with_mark octet None = octet ∷ []

-- one octet of a value, as it stands in a field
abbrev pub tab_escaped_octet : ℕ → List ℕ
tab_escaped_octet octet = with_mark octet (escape_mark octet)

-- a value, as it stands in a field
abbrev pub tab_escaped : List ℕ → List ℕ
tab_escaped value = flat_map tab_escaped_octet value

-- no octet of a value stands first in these
abbrev pub IsNoOctet : List ℕ → Type 0
IsNoOctet text = (octet : ℕ) (more : List ℕ) → text ≡ tab_escaped_octet octet ++ more → ⊥

-- the value that stands so in a field; none if none does
abbrev pub ReadsValue : List ℕ → Option (List ℕ) → Type 0
ReadsValue text (Some value) = text ≡ tab_escaped value
ReadsValue text None = (value : List ℕ) → text ≡ tab_escaped value → ⊥

-- two values stand differently; a value ends neither its field nor its line, nor has it a NUL or CR there; and it has at most two octets
-- for each of its own
pub record EscapesStand : Type 0 where
  pub one_to_one : (a b : List ℕ) → tab_escaped a ≡ tab_escaped b → a ≡ b
  pub no_tab : (value : List ℕ) → HasNone 9 (tab_escaped value)
  pub no_lf : (value : List ℕ) → HasNone 10 (tab_escaped value)
  pub no_cr : (value : List ℕ) → HasNone 13 (tab_escaped value)
  pub no_nul : (value : List ℕ) → HasNone 0 (tab_escaped value)
  pub short : (value : List ℕ) → length (tab_escaped value) ≤ 2 * length value
