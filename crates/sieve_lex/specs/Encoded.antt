-- Encoded characters in strings (RFC 5228, 2.4.2.4).
use Rattle.std.specs.Prelude.{ℕ, zero, suc, ◌+◌, ◌*◌, ◌-◌, ◌<◌, ◌≤◌, ◌==◌, ◌||◌, ◌&&◌, nat_le, nat_lt, nat_eq, min, cond, Bool, Option, Some, None, List, [], ◌∷◌, ◌++◌, length, take, drop, fold, slice_index, codes}
use Rattle.std.specs.Char.{encode_utf8}
use Rattle.std.specs.List.{list_any, prefix_len}
use Rattle.std.specs.Cmp.Lexicographic.{pointwise}
use Rattle.octets.specs.Ascii.{lowered}
use Rattle.sieve_lex.specs.declared.encoded.Coding.{Coding}
use Rattle.sieve_lex.specs.declared.encoded.Coding.TheVariants.{Hex, Unicode}
use Rattle.sieve_lex.specs.declared.encoded.Sequence.{Sequence}
use Rattle.sieve_lex.specs.declared.encoded.Sequence.TheVariants.{Absent, OutOfRange, Present}
use Rattle.sieve_lex.specs.Class.{is_white}

-- ---- numbers

-- HEXDIG, of either case
abbrev pub is_hex : ℕ → Bool
is_hex b = (nat_le 48 b && nat_le b 57) || ((nat_le 65 b && nat_le b 70) || (nat_le 97 b && nat_le b 102))

-- the value of such a digit
abbrev pub hex_value : ℕ → ℕ
hex_value b = cond (nat_le b 57) (b - 48) (cond (nat_le b 70) (b - 55) (b - 87))

-- a number with one more digit at its end. Above 10FFFF there are no characters, and all such numbers are taken as one
abbrev pub with_hex : ℕ → ℕ → ℕ
with_hex number b = min (number * 16 + hex_value b) 1114112

-- the number that a word of digits writes
abbrev pub hex_number : List ℕ → ℕ
hex_number word = fold with_hex 0 word

-- the number of a character (RFC 3629, 3)
abbrev pub is_character : ℕ → Bool
is_character number = nat_le number 0xD7FF || (nat_le 0xE000 number && nat_le number 0x10FFFF)

-- what a number of that many digits stands for: hex-pair = 1*2HEXDIG is an octet (two digits write none above 255); unicode-hex =
-- 1*HEXDIG is the UTF-8 of a character, 0 to D7FF or E000 to 10FFFF
abbrev pub number_value : Coding → (digits number : ℕ) → Option (List ℕ)
number_value Hex digits number = cond (nat_le digits 2 && nat_lt number 256) (Some (number ∷ [])) None
number_value Unicode digits number = cond (is_character number) (Some (encode_utf8 number)) None

-- the same of a word that was read: if there are no digits there is no word
abbrev pub word_value : Coding → (digits number : ℕ) → Option (List ℕ)
word_value coding digits number = cond (digits == 0) (Some []) (number_value coding digits number)

-- ---- sequences

-- one text after another, if both are there
abbrev pub joined_texts : Option (List ℕ) → Option (List ℕ) → Option (List ℕ)
joined_texts None rest = None
joined_texts (Some front) None = None
joined_texts (Some front) (Some rest) = Some (front ++ rest)

-- what words stand for, one after another
abbrev pub words_value : Coding → List (List ℕ) → Option (List ℕ)
words_value coding [] = Some []
words_value coding (word ∷ more) = joined_texts (number_value coding (length word) (hex_number word)) (words_value coding more)

-- a word, unless it is empty
abbrev pub nonempty_word : List ℕ → List (List ℕ)
nonempty_word [] = []
nonempty_word (b ∷ word) = (b ∷ word) ∷ []

-- the words that white octets separate, if `word` has begun before: blank = WSP / CRLF
abbrev pub words_from : List ℕ → List ℕ → List (List ℕ)
words_from word [] = nonempty_word word
words_from word (b ∷ s) = cond (is_white b) (nonempty_word word ++ words_from [] s) (words_from (word ++ b ∷ []) s)

-- ---- in a text

-- the text begins with `front`, in any ASCII case
abbrev pub begins_with : List ℕ → List ℕ → Bool
begins_with front text = nat_le (length front) (length text) && pointwise nat_eq (lowered (take (length front) text)) (lowered front)

-- the kind of sequence that the text opens, and how many octets that takes: "${hex:" or "${unicode:"
abbrev pub opening_of : List ℕ → Option (Coding × ℕ)
opening_of text =
    cond (begins_with (codes "${hex:") text) (Some (Hex, 6))
    (cond (begins_with (codes "${unicode:") text) (Some (Unicode, 10)) None)

-- an octet of a word, or one between words
abbrev pub is_inner : ℕ → Bool
is_inner b = is_hex b || is_white b

-- how many such octets the text begins with
abbrev pub inner_len : List ℕ → ℕ
inner_len text = prefix_len is_inner text

-- a word or more, and the closing brace
abbrev pub is_closed : List ℕ → Bool
is_closed text = slice_index text (inner_len text) == 125 && list_any is_hex (take (inner_len text) text)

-- a sequence of that many octets with this value: absent if a word isn't a hex-pair, and out of range if one isn't a character's number
abbrev pub sequence_with : Coding → ℕ → Option (List ℕ) → Sequence
sequence_with coding len (Some value) = Present value len
sequence_with Hex len None = Absent
sequence_with Unicode len None = OutOfRange

-- the sequence, given what it opens with
abbrev pub closed_by : Option (Coding × ℕ) → List ℕ → Sequence
closed_by None text = Absent
closed_by (Some opening) text =
    cond (is_closed (drop opening.1 text))
    (sequence_with opening.0 (opening.1 + inner_len (drop opening.1 text) + 1) (words_value opening.0 (words_from [] (take (inner_len (drop opening.1 text)) (drop opening.1 text)))))
    Absent

-- the sequence that the text begins with: encoded-arb-octets = "${hex:" hex-pair-seq "}", encoded-unicode-char = "${unicode:" unicode-hex-seq "}"
abbrev pub sequence_at : List ℕ → Sequence
sequence_at text = closed_by (opening_of text) text

-- a sequence has one or more octets, and no more than the text has
abbrev pub IsSequenceWithin : Sequence → List ℕ → Type 0
IsSequenceWithin Absent text = Unit {0}
IsSequenceWithin OutOfRange text = Unit {0}
IsSequenceWithin (Present value len) text = (0 < len) × (len ≤ length text)

-- what the text stands for from a position on, if its first `taken` octets belong to a sequence before it: what isn't a sequence
-- stays as it is written, and what has been decoded isn't decoded again
abbrev pub decoded_after : (taken : ℕ) → List ℕ → Option (List ℕ)
decoded_after taken [] = Some []
decoded_after (suc taken) (b ∷ s) = decoded_after taken s
decoded_after zero (b ∷ s) = elim (sequence_at (b ∷ s)) [
  | Absent ↦ joined_texts (Some (b ∷ [])) (decoded_after 0 s)
  | OutOfRange ↦ None
  | Present value len ↦ joined_texts (Some value) (decoded_after (len - 1) s)
]

-- what a string stands for if `encoded-character` is required; nothing if a sequence has a number that isn't a character's
abbrev pub decoded : List ℕ → Option (List ℕ)
decoded text = decoded_after 0 text
