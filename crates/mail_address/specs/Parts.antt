-- The parts of a list of addresses, and which address each gives (RFC 5322, 3.4 and 4.4).
use Rattle.std.specs.Prelude.{◌≡◌, ◌≢◌, ℕ, ◌&&◌, ◌⊎◌, not, Bool, true, false, Option, Some, None, option_to_list, filter, List, [], ◌∷◌, ◌++◌}
use Rattle.mail_address.specs.declared.scanner.AddrPieceKind.{AddrPieceKind}
use Rattle.mail_address.specs.declared.scanner.AddrPieceKind.TheVariants as K
use Rattle.mail_address.specs.declared.address.Addr.{Addr}
use Rattle.mail_address.specs.Pieces.{AddrPiece, Cut, unquoted_text}

-- the piece is no blank and no comment
abbrev pub is_token : AddrPieceKind → Bool
is_token K.Blank = false
is_token K.Comment = false
is_token _ = true

-- the pieces without blanks and comments
abbrev pub tokens : List AddrPiece → List AddrPiece
tokens pieces = filter (λ piece. is_token piece.kind) pieces

-- a comma, a colon or a semicolon
abbrev pub is_separator : AddrPieceKind → Bool
is_separator K.Comma = true
is_separator K.Colon = true
is_separator K.Semicolon = true
is_separator _ = false

-- whether an angle bracket is open after a token, if it was or wasn't before
abbrev pub is_bracket_open : Bool → AddrPieceKind → Bool
is_bracket_open inside K.Less = true
is_bracket_open inside K.Greater = false
is_bracket_open inside _ = inside

-- whether an angle bracket is open after these tokens
abbrev pub is_bracket_open_after : Bool → List AddrPiece → Bool
is_bracket_open_after inside [] = inside
is_bracket_open_after inside (token ∷ more) = is_bracket_open_after (is_bracket_open inside token.kind) more

-- there is no separator outside angle brackets
abbrev pub IsUncut : Bool → List AddrPiece → Type 0
IsUncut inside [] = Unit {0}
IsUncut inside (token ∷ more) = ((is_separator token.kind && not inside) ≡ false) × IsUncut (is_bracket_open inside token.kind) more

-- a part: its tokens, and the kind of the separator after it
pub record Part : Type 0 where
  pub tokens : List AddrPiece
  pub ending : Option AddrPieceKind

-- the tokens are these parts, with a separator after each but the last
abbrev pub AreParts : List AddrPiece → List Part → Type 0
AreParts all [] = ⊥
AreParts all (part ∷ []) = (all ≡ part.tokens) × (IsUncut false part.tokens × (part.ending ≡ None))
AreParts all (part ∷ (next ∷ more)) =
    (mark : AddrPiece) × (after : List AddrPiece) × (all ≡ part.tokens ++ mark ∷ after)
    × (IsUncut false part.tokens) × (is_bracket_open_after false part.tokens ≡ false)
    × (is_separator mark.kind ≡ true) × (part.ending ≡ Some mark.kind)
    × AreParts after (next ∷ more)

-- a word is an atom or a quoted string, and has a value (RFC 5322, 3.2.5)
abbrev pub IsWordToken : AddrPieceKind → List ℕ → List ℕ → Type 0
IsWordToken K.Atom text value = value ≡ text
IsWordToken K.Quoted text value = value ≡ unquoted_text text
IsWordToken _ text value = ⊥

-- an atom is its own value
abbrev pub IsAtom : AddrPieceKind → List ℕ → List ℕ → Type 0
IsAtom K.Atom text value = value ≡ text
IsAtom _ text value = ⊥

-- one or more of these with dots between them, and their values with the dots
abbrev pub Dotted : (AddrPieceKind → List ℕ → List ℕ → Type 0) → List AddrPiece → List ℕ → Type 0
Dotted IsItem [] value = ⊥
Dotted IsItem (item ∷ []) value = IsItem item.kind item.text value
Dotted IsItem (item ∷ (dot ∷ more)) value =
    (first : List ℕ) × (others : List ℕ) × (IsItem item.kind item.text first) × (dot.kind ≡ K.Dot)
    × (Dotted IsItem more others) × (value ≡ first ++ 46 ∷ others)

-- one domain literal, whose value is its text as written
pub record IsDomainLiteral (tokens : List AddrPiece) (value : List ℕ) : Type 0 where
  pub literal : AddrPiece
  pub alone : tokens ≡ literal ∷ []
  pub kind : literal.kind ≡ K.Literal
  pub text : value ≡ literal.text

-- words with dots between them, `@`, and atoms with dots between them or a domain literal (RFC 5322, 3.4.1 and 4.4)
pub record IsAddrSpec (tokens : List AddrPiece) (address : Addr) : Type 0 where
  pub local : List AddrPiece
  pub at : AddrPiece
  pub domain : List AddrPiece
  pub cut : tokens ≡ local ++ at ∷ domain
  pub mark : at.kind ≡ K.At
  pub words : Dotted IsWordToken local address.local
  pub host : Dotted IsAtom domain address.domain ⊎ IsDomainLiteral domain address.domain

-- the token is no angle bracket
abbrev pub is_no_bracket : AddrPieceKind → Bool
is_no_bracket K.Less = false
is_no_bracket K.Greater = false
is_no_bracket _ = true

-- the token may be in a route
abbrev pub is_route : AddrPieceKind → Bool
is_route K.Colon = false
is_route K.Greater = false
is_route _ = true

-- each token passes
abbrev pub Each : (AddrPieceKind → Bool) → List AddrPiece → Type 0
Each test [] = Unit {0}
Each test (token ∷ more) = (test token.kind ≡ true) × Each test more

-- a route, which begins with `@` and goes up to the first colon, and an addr-spec (RFC 5322, 4.4: obs-route)
pub record IsRouteAddr (tokens : List AddrPiece) (address : Addr) : Type 0 where
  pub at : AddrPiece
  pub route : List AddrPiece
  pub colon : AddrPiece
  pub others : List AddrPiece
  pub cut : tokens ≡ at ∷ (route ++ colon ∷ others)
  pub begins : at.kind ≡ K.At
  pub up_to : Each is_route route
  pub first : colon.kind ≡ K.Colon
  pub spec : IsAddrSpec others address

-- any tokens but angle brackets, and an addr-spec in angle brackets, perhaps with a route (RFC 5322, 3.4: name-addr)
pub record IsNameAddr (tokens : List AddrPiece) (address : Addr) : Type 0 where
  pub display_name : List AddrPiece
  pub less : AddrPiece
  pub inside : List AddrPiece
  pub greater : AddrPiece
  pub cut : tokens ≡ display_name ++ less ∷ (inside ++ greater ∷ [])
  pub plain : Each is_no_bracket display_name
  pub opens : less.kind ≡ K.Less
  pub spec : IsAddrSpec inside address ⊎ IsRouteAddr inside address
  pub closes : greater.kind ≡ K.Greater

-- the part gives this address; one before a colon gives none, since it names a group
pub record PartGives (part : Part) (address : Addr) : Type 0 where
  pub no_name : part.ending ≢ Some K.Colon
  pub shape : IsAddrSpec part.tokens address ⊎ IsNameAddr part.tokens address

-- the part gives this address, or none
abbrev pub PartAnswers : Part → Option Addr → Type 0
PartAnswers part (Some address) = PartGives part address
PartAnswers part None = (address : Addr) → PartGives part address → ⊥

-- the addresses that the parts give, in order
abbrev pub Collects : List Part → List Addr → Type 0
Collects [] addresses = addresses ≡ []
Collects (part ∷ more) addresses =
    (answer : Option Addr) × (others : List Addr) × (PartAnswers part answer) × (Collects more others)
    × (addresses ≡ option_to_list answer ++ others)

-- the addresses of a value
pub record AreAddresses (value : List ℕ) (addresses : List Addr) : Type 0 where
  pub pieces : List AddrPiece
  pub cut : Cut value pieces
  pub parts : List Part
  pub split : AreParts (tokens pieces) parts
  pub given : Collects parts addresses
