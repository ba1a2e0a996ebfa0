-- Encoded words (RFC 2047, section 2).
use Rattle.std.specs.Prelude.{◌≡◌, ℕ, ◌==◌, nat_le, Bool, true, cond, not, ◌&&◌, Option, None, Some, List, [], ◌∷◌, ◌++◌, length, codes, bytes_eq, option_and_then, is_some}
use Rattle.std.specs.List.{list_all}
use Rattle.std.specs.Str.{str_eq_ignore_ascii_case}
use Rattle.base64.specs.Engines.{standard}
use Rattle.base64.specs.GeneralPurpose.{decoded_of}
use Rattle.mail_head.specs.Lines.{at_front}
use Rattle.mail_words.specs.Charsets.{charset_of, converted}
use Rattle.mail_words.specs.Quoted.{quoted_of}

-- any octet but a question mark
abbrev pub is_unmarked : ℕ → Bool
is_unmarked octet = not (octet == 63)

-- `=?`, a charset, `?`, an encoding, `?`, a text and `?=`, without other question marks
pub record IsEncodedWord (run charset encoding text : List ℕ) : Type 0 where
  pub spelled : run ≡ codes "=?" ++ (charset ++ 63 ∷ (encoding ++ 63 ∷ (text ++ codes "?=")))
  pub charset_unmarked : list_all is_unmarked charset ≡ true
  pub encoding_unmarked : list_all is_unmarked encoding ≡ true
  pub text_unmarked : list_all is_unmarked text ≡ true

-- the texts before, between and after the question marks of a text
abbrev pub between_questions : List ℕ → List (List ℕ)
between_questions [] = [] ∷ []
between_questions (octet ∷ rest) = cond (octet == 63) ([] ∷ between_questions rest) (at_front octet (between_questions rest))

-- 33 to 126
abbrev pub is_visible : ℕ → Bool
is_visible octet = nat_le 33 octet && nat_le octet 126

-- one or more octets 33 to 126
abbrev pub is_encoded_text : List ℕ → Bool
is_encoded_text text = not (length text == 0) && list_all is_visible text

-- the octets that a text stands for in this encoding: B or Q, ignoring ASCII case
abbrev pub encoded_octets : List ℕ → List ℕ → Option (List ℕ)
encoded_octets encoding text =
    cond (str_eq_ignore_ascii_case encoding (codes "b")) (decoded_of standard text)
    (cond (str_eq_ignore_ascii_case encoding (codes "q")) (quoted_of text) None)

-- what a charset, an encoding and a text stand for, as UTF-8
abbrev pub meaning_of : List ℕ → List ℕ → List ℕ → Option (List ℕ)
meaning_of charset encoding text =
    cond (is_encoded_text text)
    (option_and_then (λ set. option_and_then (converted set) (encoded_octets encoding text)) (charset_of charset)) None

-- what the parts of a run stand for, if they are `=`, a charset, an encoding, a text and `=`
abbrev pub meaning_in : List (List ℕ) → Option (List ℕ)
meaning_in (front ∷ charset ∷ encoding ∷ text ∷ back ∷ []) =
    cond (bytes_eq front (codes "=") && bytes_eq back (codes "=")) (meaning_of charset encoding text) None
meaning_in _ = None

-- a run that is a recognised word, and what it says
pub record SaysWord (run said : List ℕ) : Type 0 where
  pub charset : List ℕ
  pub encoding : List ℕ
  pub text : List ℕ
  pub form : IsEncodedWord run charset encoding text
  pub meaning : meaning_of charset encoding text ≡ Some said

-- the text of a run that is a recognised word: the one that is in SaysWord with it
abbrev pub encoded_word_text : List ℕ → Option (List ℕ)
encoded_word_text run = meaning_in (between_questions run)

-- whether a run is a recognised word
abbrev pub is_encoded_word : List ℕ → Bool
is_encoded_word run = is_some (encoded_word_text run)
