-- What a server offers in its reply to EHLO (RFC 5321, section 4.1.1.1).
use Rattle.std.specs.Prelude.{◌≡◌, ℕ, ◌==◌, ◌||◌, not, nat_eq, Bool, false, List, [], ◌∷◌, codes, drop, take}
use Rattle.std.specs.Cmp.Lexicographic.{pointwise}
use Rattle.std.specs.List.{list_any, prefix_len}
use Rattle.octets.specs.Ascii.{lowered}
use Rattle.smtp_dialogue.specs.Replies.{IsHere}
use Rattle.smtp_dialogue.specs.declared.extension.Extensions.{Extensions}

-- the first word of a line after its code and mark
abbrev pub is_not_space : ℕ → Bool
is_not_space octet = not (octet == 32)

abbrev pub first_word_of : List ℕ → List ℕ
first_word_of text = take (prefix_len is_not_space text) text

abbrev pub ehlo_keyword_of : List ℕ → List ℕ
ehlo_keyword_of line = first_word_of (drop 4 line)

-- a word, in upper or lower case
abbrev pub is_same_word : List ℕ → List ℕ → Bool
is_same_word word text = pointwise nat_eq (lowered text) (lowered word)

-- a line whose keyword is this one
abbrev pub names : List ℕ → List ℕ → Bool
names keyword line = is_same_word keyword (ehlo_keyword_of line)

-- some of these lines names it
abbrev pub offers : List ℕ → List (List ℕ) → Bool
offers keyword lines = list_any (names keyword) lines

-- what is offered by the lines after the first one, which has the server's name
abbrev pub extensions_of : List (List ℕ) → Extensions
extensions_of lines = record { size = offers (codes "size") lines; eight_bit_mime = offers (codes "8bitmime") lines; smtputf8 = offers (codes "smtputf8") lines }

-- octets are these lines, each with its CRLF
abbrev pub AreReplyLines : List (List ℕ) → List ℕ → Type 0
AreReplyLines [] octets = octets ≡ []
AreReplyLines (line ∷ lines) octets = (behind : List ℕ) × IsHere octets line behind × AreReplyLines lines behind

-- that of a reply of one line and others
abbrev pub OffersExtensions : List ℕ → Extensions → Type 0
OffersExtensions octets it = (first : List ℕ) (lines : List (List ℕ)) → AreReplyLines (first ∷ lines) octets → it ≡ extensions_of lines

-- ---- one line after others

abbrev pub with_line : Extensions → List ℕ → Extensions
with_line it line = record {
  size = it.size || names (codes "size") line;
  eight_bit_mime = it.eight_bit_mime || names (codes "8bitmime") line;
  smtputf8 = it.smtputf8 || names (codes "smtputf8") line;
}

abbrev pub with_lines : Extensions → List (List ℕ) → Extensions
with_lines it lines = record {
  size = it.size || offers (codes "size") lines;
  eight_bit_mime = it.eight_bit_mime || offers (codes "8bitmime") lines;
  smtputf8 = it.smtputf8 || offers (codes "smtputf8") lines;
}

abbrev pub no_extensions : Extensions
no_extensions = record { size = false; eight_bit_mime = false; smtputf8 = false }

-- what lines offer more
abbrev pub OffersMore : List ℕ → Extensions → Extensions → Type 0
OffersMore octets before after = (lines : List (List ℕ)) → AreReplyLines lines octets → after ≡ with_lines before lines
