-- The spellings of tokens (RFC 5228, 8.1).
use Rattle.std.specs.Prelude.{◌≡◌, ◌≢◌, ◌⊎◌, ℕ, ◌*◌, ◌==◌, ◌||◌, cond, Option, Some, None, List, [], ◌∷◌, ◌++◌, IsTrue, IsFalse}
use Rattle.std.specs.List.{list_all, flat_map}
use Rattle.octets.specs.Ascii.{is_digit}
use Rattle.octets.specs.Decimal.{number_of}
use Rattle.sieve_lex.specs.declared.token.Content.{Content}
use Rattle.sieve_lex.specs.declared.token.Content.TheVariants.{Identifier, Tag, Number, Text, Mark}
use Rattle.sieve_lex.specs.declared.class.Class.TheVariants as Class
use Rattle.sieve_lex.specs.Lines.{IsMultiline}
use Rattle.sieve_lex.specs.Class.{is_name_start, is_name_octet, octet_class_of}

-- a letter or `_`, then letters, digits and `_`
abbrev pub IsName : List ℕ → Type 0
IsName [] = ⊥
IsName (b ∷ more) = IsTrue (is_name_start b) × IsTrue (list_all is_name_octet more)

-- what the letter after a number multiplies it by, if there is one: K, M or G, of either case
abbrev pub factor_of : List ℕ → Option ℕ
factor_of [] = Some 1
factor_of (b ∷ []) =
    cond (b == 75 || b == 107) (Some 1024)
    (cond (b == 77 || b == 109) (Some 1048576)
    (cond (b == 71 || b == 103) (Some 1073741824) None))
factor_of _ = None

-- digits and perhaps a multiplier, and the number that they stand for
pub record IsNumberText (s : List ℕ) (n : ℕ) : Type 0 where
  pub digits : List ℕ
  pub letter : List ℕ
  pub factor : ℕ
  pub spelled : s ≡ digits ++ letter
  pub present : digits ≢ []
  pub decimal : IsTrue (list_all is_digit digits)
  pub scaled : factor_of letter ≡ Some factor
  pub valued : n ≡ number_of digits * factor

-- a piece of a quoted string: an octet, one after a backslash, CRLF, or a bare LF, which is read as CRLF
pub data StringPiece : Type 0 where
  Plain : ℕ → StringPiece
  Escaped : ℕ → StringPiece
  LineEnd : StringPiece
  BareLineEnd : StringPiece

-- `"`, `\`, CR and LF aren't plain octets; a backslash may precede any octet but NUL, CR and LF
abbrev pub IsStringPiece : StringPiece → Type 0
IsStringPiece (Plain b) = IsFalse (b == 34) × IsFalse (b == 92) × IsFalse (b == 13) × IsFalse (b == 10)
IsStringPiece (Escaped b) = IsFalse (b == 0) × IsFalse (b == 13) × IsFalse (b == 10)
IsStringPiece LineEnd = Unit {0}
IsStringPiece BareLineEnd = Unit {0}

abbrev pub AreStringPieces : List StringPiece → Type 0
AreStringPieces [] = Unit {0}
AreStringPieces (p ∷ ps) = IsStringPiece p × AreStringPieces ps

-- how a piece is written
abbrev pub spelling_of : StringPiece → List ℕ
spelling_of (Plain b) = b ∷ []
spelling_of (Escaped b) = 92 ∷ (b ∷ [])
spelling_of LineEnd = 13 ∷ (10 ∷ [])
spelling_of BareLineEnd = 10 ∷ []

-- what it stands for
abbrev pub piece_value : StringPiece → List ℕ
piece_value (Plain b) = b ∷ []
piece_value (Escaped b) = b ∷ []
piece_value LineEnd = 13 ∷ (10 ∷ [])
piece_value BareLineEnd = 13 ∷ (10 ∷ [])

-- a quoted string and what it stands for (RFC 5228, 2.4.2)
pub record IsQuotedString (s value : List ℕ) : Type 0 where
  pub pieces : List StringPiece
  pub each : AreStringPieces pieces
  pub spelled : s ≡ 34 ∷ (flat_map spelling_of pieces ++ 34 ∷ [])
  pub valued : value ≡ flat_map piece_value pieces

-- s spells this token, and the rest of the text follows
abbrev pub IsTokenShape : Content → List ℕ → List ℕ → Type 0
IsTokenShape (Identifier name) s rest = (s ≡ name) × IsName name
IsTokenShape (Tag name) s rest = (s ≡ 58 ∷ name) × IsName name
IsTokenShape (Number n) s rest = IsNumberText s n
IsTokenShape (Text value) s rest = IsQuotedString s value ⊎ IsMultiline s value rest
IsTokenShape (Mark mark) s rest = (b : ℕ) × ((octet_class_of b ≡ Class.Mark mark) × (s ≡ b ∷ []))
