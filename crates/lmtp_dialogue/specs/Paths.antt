-- Paths: the addresses of MAIL and RCPT (RFC 5321, section 4.1.2; octets over 127 as RFC 6531, section 3.3, has them).
-- Each Mailbox of the RFC is an address here, and so is what mail servers send beside it: a name without a domain, a domain with `_`.
use Rattle.std.specs.Prelude.{◌≡◌, ◌⊎◌, ℕ, ◌==◌, nat_le, not, ◌&&◌, ◌||◌, Bool, true, List, [], ◌∷◌, ◌++◌, Option, Some, None}
use Rattle.std.specs.List.{list_all}
use Rattle.lmtp_dialogue.specs.declared.path.Quoting.{Quoting}
use Rattle.lmtp_dialogue.specs.declared.path.Quoting.TheVariants.{Outside, Inside, Escaped}

-- a printable octet, or one over 127
abbrev pub is_address_octet : ℕ → Bool
is_address_octet octet = nat_le 32 octet && not (octet == 127)

-- one that may be outside quotation marks: none of SP, `"`, `<`, `>`, `\`
abbrev pub is_unquoted_octet : ℕ → Bool
is_unquoted_octet octet = is_address_octet octet && not (octet == 32 || octet == 34 || octet == 60 || octet == 62 || octet == 92)

-- one that may be between them without a backslash
abbrev pub is_quoted_octet : ℕ → Bool
is_quoted_octet octet = is_address_octet octet && not (octet == 34 || octet == 92)

-- an address, from its start or from between quotation marks on
abbrev pub AddressStands : Quoting → List ℕ → Type 0
AddressStands Outside [] = Unit {0}
AddressStands Inside [] = ⊥
AddressStands Escaped [] = ⊥
AddressStands Outside (octet ∷ rest) = ((octet ≡ 34) × AddressStands Inside rest) ⊎ ((is_unquoted_octet octet ≡ true) × AddressStands Outside rest)
AddressStands Inside (octet ∷ rest) =
    ((octet ≡ 34) × AddressStands Outside rest) ⊎ (((octet ≡ 92) × AddressStands Escaped rest) ⊎ ((is_quoted_octet octet ≡ true) × AddressStands Inside rest))
AddressStands Escaped (octet ∷ rest) = (is_address_octet octet ≡ true) × AddressStands Inside rest

abbrev pub IsPathAddress : List ℕ → Type 0
IsPathAddress address = AddressStands Outside address

-- a source route: `@`, octets that may be outside quotation marks but `:`, and `:`. It is read and left out (RFC 5321, appendix C)
abbrev pub is_hop : ℕ → Bool
is_hop octet = is_unquoted_octet octet && not (octet == 58)

pub record IsRoute (route : List ℕ) : Type 0 where
  pub hops : List ℕ
  pub each : list_all is_hop hops ≡ true
  pub written : route ≡ 64 ∷ (hops ++ 58 ∷ [])

-- an address that doesn't begin with `@`, so that no route is one
abbrev pub BeginsBare : List ℕ → Type 0
BeginsBare address = (rest : List ℕ) → address ≡ 64 ∷ rest → ⊥

-- what follows a route, or all of a text without one; it doesn't begin with `@`
pub record FollowsRoute (text bare : List ℕ) : Type 0 where
  pub route : List ℕ
  pub routed : (route ≡ []) ⊎ IsRoute route
  pub written : text ≡ route ++ bare
  pub is : BeginsBare bare

-- what follows an address in a text: the first `>` outside quotation marks ends it
pub record EndsAddress (text address rest : List ℕ) : Type 0 where
  pub is : IsPathAddress address
  pub written : text ≡ address ++ 62 ∷ rest

-- a text that begins with a path: `<`, perhaps a route, the address, `>`, and what follows it
pub record IsPath (text address rest : List ℕ) : Type 0 where
  pub inner : List ℕ
  pub bare : List ℕ
  pub opened : text ≡ 60 ∷ inner
  pub follows : FollowsRoute inner bare
  pub ends : EndsAddress bare address rest

-- one octet of an address, and what may follow it: exactly what holds from there on
abbrev pub AddressStepsTo : Quoting → ℕ → Option Quoting → Type 0
AddressStepsTo from octet (Some to) =
    ((rest : List ℕ) → AddressStands to rest → AddressStands from (octet ∷ rest)) × ((rest : List ℕ) → AddressStands from (octet ∷ rest) → AddressStands to rest)
AddressStepsTo from octet None = (rest : List ℕ) → AddressStands from (octet ∷ rest) → ⊥
