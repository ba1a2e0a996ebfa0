-- How an address is written.
use Rattle.std.specs.Prelude.{◌≡◌, ◌≢◌, ℕ, ◌==◌, ◌||◌, ◌&&◌, ◌⊎◌, not, Bool, true, false, if◌then◌else◌, List, [], ◌∷◌, ◌++◌}
use Rattle.mail_address.specs.declared.address.Addr.{Addr}
use Rattle.mail_address.specs.Pieces.{is_atom_octet, AreAtoms, IsEnclosed}

-- an atom: one or more octets that may be in one (RFC 5322, 3.2.3)
pub record IsAtomText (text : List ℕ) : Type 0 where
  pub present : text ≢ []
  pub octets : AreAtoms text

-- one or more atoms with dots between them
abbrev pub AreDotted : List (List ℕ) → List ℕ → Type 0
AreDotted [] text = ⊥
AreDotted (atom ∷ []) text = IsAtomText atom × (text ≡ atom)
AreDotted (atom ∷ (next ∷ more)) text = (rest : List ℕ) × (IsAtomText atom × ((text ≡ atom ++ 46 ∷ rest) × AreDotted (next ∷ more) rest))

-- a text that is atoms with dots between them (RFC 5322, 3.2.3: dot-atom-text)
pub record IsDotAtom (text : List ℕ) : Type 0 where
  pub atoms : List (List ℕ)
  pub dotted : AreDotted atoms text

-- atom octets with single dots between them; whether an atom octet is due
abbrev pub is_dotted : Bool → List ℕ → Bool
is_dotted due [] = not due
is_dotted due (octet ∷ more) =
    if octet == 46 then not due && is_dotted true more
    else is_atom_octet octet && is_dotted false more

-- whether a text is in IsDotAtom
abbrev pub is_dot_atom : List ℕ → Bool
is_dot_atom text = is_dotted true text

-- a backslash before each quotation mark and backslash
abbrev pub with_quoted_pairs : List ℕ → List ℕ
with_quoted_pairs [] = []
with_quoted_pairs (octet ∷ more) = if octet == 34 || octet == 92 then 92 ∷ (octet ∷ with_quoted_pairs more) else octet ∷ with_quoted_pairs more

-- in quotation marks
abbrev pub quoted : List ℕ → List ℕ
quoted text = 34 ∷ (with_quoted_pairs text ++ 34 ∷ [])

-- the local part as it is if it is atoms with dots between them, otherwise as a quoted string
abbrev pub local_spelling : List ℕ → List ℕ
local_spelling local = if is_dot_atom local then local else quoted local

-- the local part, `@` and the domain
abbrev pub address_spelling : Addr → List ℕ
address_spelling address = local_spelling address.local ++ 64 ∷ address.domain

-- the address with nothing quoted
abbrev pub unquoted_address : Addr → List ℕ
unquoted_address address = address.local ++ 64 ∷ address.domain

-- atoms with dots between them, or a domain literal (RFC 5322, 3.4.1)
abbrev pub IsDomain : List ℕ → Type 0
IsDomain domain = (is_dot_atom domain ≡ true) ⊎ IsEnclosed 91 93 domain
