-- Addresses of hosts in numbers (RFC 5321, section 4.1.3).
use Rattle.std.specs.Prelude.{◌≡◌, ◌⊎◌, ◌≤◌, ◌+◌, ℕ, nat_le, ◌==◌, ◌&&◌, Bool, true, false, if◌then◌else◌, List, [], ◌∷◌, ◌++◌, length, drop, not, Option, Some, None}
use Rattle.std.specs.Char.{is_ascii_hexdigit}
use Rattle.std.specs.List.{list_all, slice_split}
use Rattle.octets.specs.Ascii.{is_digit}
use Rattle.octets.specs.Decimal.{number_of}

abbrev pub is_dot : ℕ → Bool
is_dot octet = octet == 46

abbrev pub is_colon : ℕ → Bool
is_colon octet = octet == 58

abbrev pub is_filled : List ℕ → Bool
is_filled [] = false
is_filled (octet ∷ rest) = true

-- ---- IPv4

-- Snum: one to three digits, of at most 255
abbrev pub is_ipv4_number : List ℕ → Bool
is_ipv4_number text = is_filled text && nat_le (length text) 3 && list_all is_digit text && nat_le (number_of text) 255

-- IPv4-address-literal: four of them, with dots between
abbrev pub is_ipv4 : List ℕ → Bool
is_ipv4 text = length (slice_split is_dot text) == 4 && list_all is_ipv4_number (slice_split is_dot text)

-- ---- IPv6

-- IPv6-hex: one to four hexadecimal digits
abbrev pub is_group : List ℕ → Bool
is_group text = is_filled text && nat_le (length text) 4 && list_all is_ascii_hexdigit text

-- what is between the colons
abbrev pub between_colons : List ℕ → List (List ℕ)
between_colons text = slice_split is_colon text

-- how many groups a text is, with colons between them; none if it isn't that
abbrev pub groups_of : List ℕ → Option ℕ
groups_of text = if list_all is_group (between_colons text) then Some (length (between_colons text)) else None

-- the same, but there may be nothing
abbrev pub some_groups_of : List ℕ → Option ℕ
some_groups_of [] = Some 0
some_groups_of (octet ∷ rest) = groups_of (octet ∷ rest)

-- this many groups, a colon and an IPv4 address
pub record AreGroupsAndIpv4 (text : List ℕ) (count : ℕ) : Type 0 where
  pub groups : List ℕ
  pub address : List ℕ
  pub written : text ≡ groups ++ 58 ∷ address
  pub counted : groups_of groups ≡ Some count
  pub is : is_ipv4 address ≡ true

-- the same, but there may be the address alone
abbrev pub EndsInIpv4 : List ℕ → ℕ → Type 0
EndsInIpv4 text count = ((is_ipv4 text ≡ true) × (count ≡ 0)) ⊎ AreGroupsAndIpv4 text count

-- IPv6-comp: `::` stands for two groups of zeros at least, so there are at most six others
pub record IsCompressed (text : List ℕ) : Type 0 where
  pub front : List ℕ
  pub rest : List ℕ
  pub before : ℕ
  pub behind : ℕ
  pub written : text ≡ front ++ 58 ∷ 58 ∷ rest
  pub ahead : some_groups_of front ≡ Some before
  pub after : some_groups_of rest ≡ Some behind
  pub most : before + behind ≤ 6

-- IPv6v4-comp: the same before an IPv4 address, which is two groups
pub record IsCompressedIpv4 (text : List ℕ) : Type 0 where
  pub front : List ℕ
  pub rest : List ℕ
  pub before : ℕ
  pub behind : ℕ
  pub written : text ≡ front ++ 58 ∷ 58 ∷ rest
  pub ahead : some_groups_of front ≡ Some before
  pub after : EndsInIpv4 rest behind
  pub most : before + behind ≤ 4

-- IPv6-addr: IPv6-full, IPv6-comp, IPv6v4-full or IPv6v4-comp
abbrev pub IsIpv6 : List ℕ → Type 0
IsIpv6 text = (groups_of text ≡ Some 8) ⊎ IsCompressed text ⊎ AreGroupsAndIpv4 text 6 ⊎ IsCompressedIpv4 text

-- ---- what is read of one

-- both counts are there, and together at most this many
pub record Fit (before behind : Option ℕ) (most : ℕ) : Type 0 where
  pub first : ℕ
  pub second : ℕ
  pub ahead : before ≡ Some first
  pub after : behind ≡ Some second
  pub within : first + second ≤ most

-- `::`, and before it a text that neither has `::` nor ends in a colon: what follows a colon there is not empty
pub record CutsDoubled (text front rest : List ℕ) : Type 0 where
  pub written : text ≡ front ++ 58 ∷ 58 ∷ rest
  pub first : list_all is_filled (drop 1 (between_colons front)) ≡ true

-- the last such octet, what comes before it and what comes after it
pub record CutsLast (mark : ℕ) (text front rest : List ℕ) : Type 0 where
  pub written : text ≡ front ++ mark ∷ rest
  pub last : list_all (λ octet. not (octet == mark)) rest ≡ true

-- a colon comes first
abbrev pub begins_colon : List ℕ → Bool
begins_colon [] = false
begins_colon (octet ∷ rest) = is_colon octet

-- `::` does
abbrev pub begins_doubled : List ℕ → Bool
begins_doubled [] = false
begins_doubled (octet ∷ rest) = is_colon octet && begins_colon rest

-- how many octets come before the first `::`
abbrev pub before_doubled : List ℕ → ℕ
before_doubled [] = 0
before_doubled (octet ∷ rest) = if begins_doubled (octet ∷ rest) then 0 else 1 + before_doubled rest
