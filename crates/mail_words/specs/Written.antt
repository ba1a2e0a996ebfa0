-- Texts whose writer encoded words in them (RFC 2047).
use Rattle.std.specs.Prelude.{◌≡◌, ℕ, ◌==◌, nat_le, Bool, true, false, ◌&&◌, ◌||◌, not, cond, List, [], ◌∷◌, ◌++◌, length}
use Rattle.std.specs.List.{list_all, list_any}
use Rattle.octets.specs.Ascii.{is_letter, is_digit, is_printable}
use Rattle.mail_head.specs.Lines.{begins_blank}
use Rattle.mail_words.specs.Runs.{is_nonblank, runs_of}
use Rattle.mail_words.specs.Words.{is_encoded_word}
use Rattle.mail_words.specs.Headers.{has_mark, IsHeaderText}

-- ---- which texts they are

-- a recognised word of at most 75 octets, the most that a word may have (RFC 2047, 2)
abbrev pub is_written_word : List ℕ → Bool
is_written_word run = nat_le (length run) 75 && is_encoded_word run

-- a run of at most 200 octets that either contains no `=?` or is such a word
abbrev pub is_written_run : List ℕ → Bool
is_written_run run = nat_le (length run) 200 && (not (has_mark run) || is_written_word run)

-- it contains `=?`, all its octets are from 32 to 126, and each run is such a run
abbrev pub has_written_words : List ℕ → Bool
has_written_words text = has_mark text && (list_all is_printable text && list_all is_written_run (runs_of text))

-- ---- words in a phrase

-- `! * + - / = _`
abbrev pub is_word_mark : ℕ → Bool
is_word_mark octet = octet == 33 || (octet == 42 || (octet == 43 || (octet == 45 || (octet == 47 || (octet == 61 || octet == 95)))))

-- what a word in a phrase is written with: letters, digits, these marks and its question marks (RFC 2047, 5 (3))
abbrev pub is_phrase_mark : ℕ → Bool
is_phrase_mark octet = is_letter octet || (is_digit octet || (is_word_mark octet || octet == 63))

-- a run without `=?`, or written so
abbrev pub is_phrase_run : List ℕ → Bool
is_phrase_run run = not (has_mark run) || list_all is_phrase_mark run

-- each run is such a run
abbrev pub has_phrase_words : List ℕ → Bool
has_phrase_words text = list_all is_phrase_run (runs_of text)

-- ---- how they are written

abbrev pub has_nonblank : List ℕ → Bool
has_nonblank text = list_any is_nonblank text

-- CRLF, if blanks follow and another octet comes after them
abbrev pub fold_before : List ℕ → List ℕ
fold_before rest = cond (begins_blank rest && has_nonblank rest) (13 ∷ 10 ∷ []) []

-- a text with CRLF before each run of blanks between other octets (RFC 5322, 2.2.3)
abbrev pub folded : List ℕ → List ℕ
folded [] = []
folded (octet ∷ rest) = octet ∷ (cond (is_nonblank octet) (fold_before rest) [] ++ folded rest)

-- a text of at most 200 octets on one line, a longer one folded
abbrev pub lines_for : List ℕ → List ℕ
lines_for text = cond (nat_le (length text) 200) text (folded text)

-- a text with such words is written as it is, any other text as header text
pub record IsWrittenText (text value : List ℕ) : Type 0 where
  pub stands : has_written_words text ≡ true → value ≡ lines_for text
  pub encoded : has_written_words text ≡ false → IsHeaderText text value
