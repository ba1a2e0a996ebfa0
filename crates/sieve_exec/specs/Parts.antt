-- The parts of an address (RFC 5228, 2.7.4), and where an address of the envelope is cut.
use Rattle.std.specs.Prelude.{◌≡◌, ◌==◌, ℕ, Bool, false, ◌&&◌, ◌⊎◌, not, cond, List, [], ◌∷◌, ◌++◌, Option, Some}
use Rattle.std.specs.List.{list_any}
use Rattle.mail_address.specs.declared.address.Addr.{Addr}
use Rattle.mail_address.specs.Spelling.{unquoted_address}
use Rattle.sieve_syntax.specs.declared.tree.checks.AddressPart.{AddressPart}
use Rattle.sieve_syntax.specs.declared.tree.checks.AddressPart.TheVariants.{All, LocalPart, Domain, User, Detail}
use Rattle.sieve_exec.specs.Extension.Subaddress.{IsUser, IsDetail, user_of, detail_of}

-- ---- an address of a field

-- a part of it
abbrev pub IsAddressPart : AddressPart → Addr → List ℕ → Type 0
IsAddressPart All address part = part ≡ unquoted_address address
IsAddressPart LocalPart address part = part ≡ address.local
IsAddressPart Domain address part = part ≡ address.domain
IsAddressPart User address part = IsUser address.local part
IsAddressPart Detail address part = IsDetail address.local part

-- the part that is in IsPartOf with it, if there is one
abbrev pub address_part_of : AddressPart → Addr → Option (List ℕ)
address_part_of All address = Some (unquoted_address address)
address_part_of LocalPart address = Some address.local
address_part_of Domain address = Some address.domain
address_part_of User address = Some (user_of address.local)
address_part_of Detail address = detail_of address.local

-- ---- an address of the envelope

-- `@`
abbrev pub is_at : ℕ → Bool
is_at octet = octet == 64

-- whether a text has an `@`
abbrev pub has_at : List ℕ → Bool
has_at text = list_any is_at text

-- a text is cut at its last `@`
pub record CutsAtLast (text local domain : List ℕ) : Type 0 where
  pub cut : text ≡ local ++ 64 ∷ domain
  pub last : has_at domain ≡ false

-- a text without `@` is only a local part
pub record IsLocalAlone (text local domain : List ℕ) : Type 0 where
  pub whole : local ≡ text
  pub none : domain ≡ []
  pub bare : has_at text ≡ false

-- the local part and the domain of an address of the envelope, which is taken as it was written; both are empty for the null
-- reverse-path
abbrev pub Cuts : List ℕ → List ℕ → List ℕ → Type 0
Cuts text local domain = CutsAtLast text local domain ⊎ IsLocalAlone text local domain

-- what precedes the last `@`
abbrev pub local_of : List ℕ → List ℕ
local_of [] = []
local_of (octet ∷ rest) = cond (is_at octet && not (has_at rest)) [] (octet ∷ local_of rest)

-- what follows the last `@`
abbrev pub domain_of : List ℕ → List ℕ
domain_of [] = []
domain_of (octet ∷ rest) = cond (has_at rest) (domain_of rest) (cond (is_at octet) rest [])
