-- The address that a script or a command names.
use Rattle.std.specs.Prelude.{◌≡◌, ℕ, ◌==◌, ◌&&◌, ◌⊎◌, not, nat_le, Bool, true, false, length, List, [], ◌∷◌, ◌++◌}
use Rattle.std.specs.List.{list_all, flat_map}
use Rattle.octets.specs.Ascii.{trimmed}
use Rattle.mail_address.specs.declared.scanner.AddrPieceKind.{AddrPieceKind}
use Rattle.mail_address.specs.declared.scanner.AddrPieceKind.TheVariants as K
use Rattle.mail_address.specs.declared.address.Addr.{Addr}
use Rattle.mail_address.specs.Pieces.{AddrPiece, Cut, unquoted_text}
use Rattle.mail_address.specs.Parts.{tokens, Each, IsAddrSpec}

-- the octet isn't a control character
abbrev pub is_no_control : ℕ → Bool
is_no_control octet = nat_le 32 octet && not (octet == 127)

-- at most 512 octets, none of them a control character
abbrev pub is_fit : List ℕ → Bool
is_fit text = nat_le (length text) 512 && list_all is_no_control text

-- the piece is no comment
abbrev pub is_no_comment : AddrPieceKind → Bool
is_no_comment K.Comment = false
is_no_comment _ = true

-- the piece may be in a display name
abbrev pub is_phrase : AddrPieceKind → Bool
is_phrase K.Blank = true
is_phrase K.Atom = true
is_phrase K.Quoted = true
is_phrase K.Dot = true
is_phrase _ = false

-- apart from blanks, a word comes first
abbrev pub BeginsWithWord : List AddrPiece → Type 0
BeginsWithWord [] = ⊥
BeginsWithWord (piece ∷ more) = WordFirst piece.kind (BeginsWithWord more)
  where
    WordFirst : AddrPieceKind → Type 0 → Type 0
    WordFirst K.Atom _ = Unit {0}
    WordFirst K.Quoted _ = Unit {0}
    WordFirst K.Blank others = others
    WordFirst _ _ = ⊥

-- words, with dots after the first, and an addr-spec in angle brackets (RFC 5322, 3.2.5 and 4.1: obs-phrase)
pub record IsPhrased (pieces : List AddrPiece) (display_name : List ℕ) (address : Addr) : Type 0 where
  pub phrase : List AddrPiece
  pub less : AddrPiece
  pub others : List AddrPiece
  pub cut : pieces ≡ phrase ++ less ∷ others
  pub opens : less.kind ≡ K.Less
  pub words : Each is_phrase phrase
  pub begins : BeginsWithWord phrase
  pub inside : List AddrPiece
  pub greater : AddrPiece
  pub rest : tokens others ≡ inside ++ greater ∷ []
  pub closes : greater.kind ≡ K.Greater
  pub spec : IsAddrSpec inside address
  pub shown : display_name ≡ unquoted_text (trimmed (flat_map (λ piece. piece.text) phrase))

-- an addr-spec without a display name
pub record IsBare (pieces : List AddrPiece) (display_name : List ℕ) (address : Addr) : Type 0 where
  pub spec : IsAddrSpec (tokens pieces) address
  pub shown : display_name ≡ []

-- the text names this address with this display name: it is short, has no control characters and no comment, and is an addr-spec
-- alone or words and an addr-spec in angle brackets. The display name is the text before the bracket without the blanks at its ends,
-- without quotation marks and with quoted pairs replaced.
pub record IsOutbound (text : List ℕ) (display_name : List ℕ) (address : Addr) : Type 0 where
  pub fit : is_fit text ≡ true
  pub pieces : List AddrPiece
  pub cut : Cut text pieces
  pub no_comment : Each is_no_comment pieces
  pub shape : IsBare pieces display_name address ⊎ IsPhrased pieces display_name address

-- the text is this address and nothing else: short, without control characters and comments, and an addr-spec
pub record IsBareAddress (text : List ℕ) (address : Addr) : Type 0 where
  pub fit : is_fit text ≡ true
  pub pieces : List AddrPiece
  pub cut : Cut text pieces
  pub no_comment : Each is_no_comment pieces
  pub spec : IsAddrSpec (tokens pieces) address
