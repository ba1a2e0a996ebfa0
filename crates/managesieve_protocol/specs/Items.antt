-- The first item in a stream of octets: a command, a bad line, or one that is too long (RFC 5804, sections 1.2 and 4).
use Rattle.std.specs.Prelude.{◌≡◌, ◌≢◌, ℕ, ◌+◌, ◌<◌, ◌≤◌, ◌^◌, ◌⊎◌, Bool, List, [], ◌∷◌, ◌++◌, length, take}
use Rattle.managesieve_protocol.specs.Arguments.{IsDecimalNumber}
use Rattle.managesieve_protocol.specs.Commands.{IsSpelling, IsCommand, IsViable}
use Rattle.managesieve_protocol.specs.declared.items.ClientItem.{ClientItem}
use Rattle.managesieve_protocol.specs.declared.items.ClientItem.TheVariants as item
use Rattle.managesieve_protocol.specs.declared.items.ItemExtent.{ItemExtent}
use Rattle.managesieve_protocol.specs.declared.items.ItemExtent.TheVariants.{Need, Command, Bad, TooBig}

-- ---- bad lines

-- its only LF is its last octet
abbrev pub EndsAtFeed : List ℕ → Type 0
EndsAtFeed [] = ⊥
EndsAtFeed (octet ∷ []) = octet ≡ 10
EndsAtFeed (octet ∷ next ∷ rest) = (octet ≢ 10) × EndsAtFeed (next ∷ rest)

-- a prefix that a command may continue, an octet with which none does, and what follows up to the first LF, which may be that octet
pub record IsBadLine (pending : Bool) (text : List ℕ) : Type 0 where
  pub front : List ℕ
  pub octet : ℕ
  pub tail : List ℕ
  pub viable : IsViable pending front
  pub fails : IsViable pending (front ++ octet ∷ []) → ⊥
  pub line : EndsAtFeed (octet ∷ tail)
  pub written : text ≡ front ++ octet ∷ tail

-- ---- too big

-- the octet after the text is inside a literal: any octet may follow. In names, numbers and quoted strings some may not, such as NUL
abbrev pub IsInLiteral : Bool → List ℕ → Type 0
IsInLiteral pending text = (octet : ℕ) → IsViable pending (text ++ octet ∷ [])

-- that many octets of the rest, which follows the prefix `front`, are outside literals
abbrev pub CountsOutside : Bool → List ℕ → List ℕ → ℕ → Type 0
CountsOutside pending front [] number = number ≡ 0
CountsOutside pending front (octet ∷ rest) number =
    (IsInLiteral pending front × CountsOutside pending (front ++ octet ∷ []) rest number)
    ⊎ ((IsInLiteral pending front → ⊥) × ((others : ℕ) × (number ≡ 1 + others) × CountsOutside pending (front ++ octet ∷ []) rest others))

-- more than 8,192 octets outside literals
abbrev pub IsLong : Bool → List ℕ → Type 0
IsLong pending text = (number : ℕ) × CountsOutside pending [] text number × (8192 < number)

-- `{n+}` CRLF at the end, n over 1,048,576 and below 2^32, at a point where a command may have a literal
pub record EndsInLargeHead (pending : Bool) (text : List ℕ) : Type 0 where
  pub front : List ℕ
  pub digits : List ℕ
  pub size : ℕ
  pub numeral : IsDecimalNumber size digits
  pub large : 1048576 < size
  pub fits : size < 2 ^ 32
  pub outside : IsInLiteral pending front → ⊥
  pub opens : IsInLiteral pending text
  pub written : text ≡ front ++ 123 ∷ (digits ++ 43 ∷ 125 ∷ 13 ∷ 10 ∷ [])

-- too long
abbrev pub IsTooBig : Bool → List ℕ → Type 0
IsTooBig pending text = EndsInLargeHead pending text ⊎ IsLong pending text

-- ---- the first item

-- one of the three
abbrev pub IsItem : Bool → List ℕ → Type 0
IsItem pending text = IsCommand pending text ⊎ (IsBadLine pending text ⊎ IsTooBig pending text)

-- no prefix of the stream shorter than that many octets is one of the three
abbrev pub NoItem : Bool → ℕ → List ℕ → Type 0
NoItem pending count stream = (k : ℕ) → k < count → IsItem pending (take k stream) → ⊥

-- the kind of the shortest prefix of the stream that is one of the three, and its length; too long comes before the other two
abbrev pub IsFirstExtent : Bool → ItemExtent → List ℕ → Type 0
IsFirstExtent pending Need stream = NoItem pending (length stream + 1) stream
IsFirstExtent pending (Command used) stream =
    (used ≤ length stream) × NoItem pending used stream × IsCommand pending (take used stream) × (IsTooBig pending (take used stream) → ⊥)
IsFirstExtent pending (Bad used) stream =
    (used ≤ length stream) × NoItem pending used stream × IsBadLine pending (take used stream) × (IsTooBig pending (take used stream) → ⊥)
IsFirstExtent pending TooBig stream = (used : ℕ) × (used ≤ length stream) × NoItem pending used stream × IsTooBig pending (take used stream)

-- the same with the command's value
abbrev pub IsFirstItem : Bool → ClientItem → List ℕ → Type 0
IsFirstItem pending item.Need stream = IsFirstExtent pending Need stream
IsFirstItem pending (item.Command command used) stream = IsFirstExtent pending (Command used) stream × IsSpelling pending command (take used stream)
IsFirstItem pending (item.Bad used) stream = IsFirstExtent pending (Bad used) stream
IsFirstItem pending item.TooBig stream = IsFirstExtent pending TooBig stream
