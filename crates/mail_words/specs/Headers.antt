-- How a text is written in a header field.
use Rattle.std.specs.Prelude.{◌≡◌, ◌≢◌, ℕ, ◌<◌, ◌≤◌, ◌==◌, nat_le, Bool, true, false, ◌&&◌, ◌||◌, not, List, [], ◌∷◌, ◌++◌, length, codes, IsCharBoundary}
use Rattle.std.specs.List.{list_all}
use Rattle.octets.specs.Ascii.{is_printable}
use Rattle.base64.specs.Engines.{standard}
use Rattle.base64.specs.GeneralPurpose.{encode_of}

-- whether a text begins with a question mark
abbrev pub begins_question : List ℕ → Bool
begins_question [] = false
begins_question (octet ∷ rest) = octet == 63

-- whether a text contains `=?`
abbrev pub has_mark : List ℕ → Bool
has_mark [] = false
has_mark (octet ∷ rest) = (octet == 61 && begins_question rest) || has_mark rest

-- at most 200 octets, all 32 to 126, without `=?`
abbrev pub is_plain_value : List ℕ → Bool
is_plain_value text = nat_le (length text) 200 && (list_all is_printable text && not (has_mark text))

-- the greatest length up to 45 at which a character of the text ends
pub record IsPieceLength (text : List ℕ) (n : ℕ) : Type 0 where
  pub small : n ≤ 45
  pub whole : IsCharBoundary text n
  pub longest : (m : ℕ) → n < m → m ≤ 45 → IsCharBoundary text m → ⊥

-- the longest prefix of at most 45 octets that ends at a character, and what follows
pub record CutsPiece (text piece rest : List ℕ) : Type 0 where
  pub spelled : text ≡ piece ++ rest
  pub present : piece ≢ []
  pub length_is : IsPieceLength text (length piece)

-- the longest prefixes of at most 45 octets that end at a character, of the text and of what is left after each
abbrev pub AreEncodedPieces : List (List ℕ) → List ℕ → Type 0
AreEncodedPieces [] text = text ≡ []
AreEncodedPieces (piece ∷ more) text =
    (rest : List ℕ) × (CutsPiece text piece rest × AreEncodedPieces more rest)

-- `=?UTF-8?B?..?=`
abbrev pub word_for : List ℕ → List ℕ
word_for piece = codes "=?UTF-8?B?" ++ (encode_of standard piece ++ codes "?=")

-- CRLF and SP before the word of each of these pieces
abbrev pub others_for : List (List ℕ) → List ℕ
others_for [] = []
others_for (piece ∷ more) = 13 ∷ 10 ∷ 32 ∷ (word_for piece ++ others_for more)

-- the words of these pieces, with CRLF and SP between
abbrev pub words_for : List (List ℕ) → List ℕ
words_for [] = []
words_for (piece ∷ more) = word_for piece ++ others_for more

-- what is put between a value so far and its next word
abbrev pub between : List ℕ → List ℕ
between [] = []
between (octet ∷ rest) = 13 ∷ 10 ∷ 32 ∷ []

-- the words of a text's pieces
pub record IsWorded (text value : List ℕ) : Type 0 where
  pub pieces : List (List ℕ)
  pub cut : AreEncodedPieces pieces text
  pub spelled : value ≡ words_for pieces

-- a plain text as it is, any other as the words of its pieces
pub record IsHeaderText (text value : List ℕ) : Type 0 where
  pub plain : is_plain_value text ≡ true → value ≡ text
  pub worded : is_plain_value text ≡ false → IsWorded text value
