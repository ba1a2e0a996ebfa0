-- Lemmas on encoded characters.
use Rattle.std.proofs.Common.{◌≡◌, ◌+◌, ◌-◌, ◌<◌, ◌≤◌, ℕ, zero, suc, ◌==◌, get_or, Bool, true, false, cond, Option, Some, None, List, [], ◌∷◌, ◌++◌, length, drop, append_assoc, refl, sym, ap, ◌∙◌, arith}
use Rattle.std.proofs.Common.{length-append}
use Rattle.std.proofs.lemmas.List.{append-nil, drop_more, drop-drop}
use Rattle.std.proofs.lemmas.List.Sums.{fold-append}
use Rattle.std.proofs.lemmas.Grind.{common_steps}
use Rattle.std.specs.Prelude.{◌&&◌, nat_eq, nat_le, take, codes}
use Rattle.std.specs.Char.{to_ascii_lowercase}
use Rattle.std.specs.Cmp.Lexicographic.{pointwise}
use Rattle.memchr.specs.Find.{IsFirstByte, is_byte}
use Rattle.octets.specs.Ascii.{lowered}
use Rattle.sieve_lex.specs.declared.encoded.Coding.{Coding}
use Rattle.sieve_lex.specs.declared.encoded.Coding.TheVariants.{Hex, Unicode}
use Rattle.sieve_lex.specs.declared.encoded.Sequence.{Sequence}
use Rattle.sieve_lex.specs.declared.encoded.Sequence.TheVariants.{Absent, OutOfRange, Present}
use Rattle.sieve_lex.specs.Class.{is_white}
use Rattle.sieve_lex.specs.Encoded.{with_hex, hex_number, word_value, number_value, joined_texts, words_value, nonempty_word, words_from, begins_with, opening_of, closed_by, sequence_at, decoded_after, decoded}

-- ---- one text after another

joined_nothing : (rest : Option (List ℕ)) → joined_texts (Some []) rest ≡ rest
joined_nothing None = refl
joined_nothing (Some rest) = refl

joined_none : (front : Option (List ℕ)) → joined_texts front None ≡ None
joined_none None = refl
joined_none (Some front) = refl

joined_assoc : (a b c : Option (List ℕ)) → joined_texts (joined_texts a b) c ≡ joined_texts a (joined_texts b c)
joined_assoc None b c = refl
joined_assoc (Some x) None c = refl
joined_assoc (Some x) (Some y) None = refl
joined_assoc (Some x) (Some y) (Some z) = ap Some (append_assoc x y z)

-- ---- words

-- a word that isn't empty
word_is : (coding : Coding) (digits number : ℕ) → 0 < digits → word_value coding digits number ≡ number_value coding digits number
word_is coding zero number some = absurd (omega (arith, some))
word_is coding (suc digits) number some = let e : (suc digits == 0) ≡ false = grind arith in ap (λ c. cond c (Some []) (number_value coding (suc digits) number)) e

-- one word and others
ended_values : (coding : Coding) (word : List ℕ) (others : List (List ℕ)) → words_value coding (nonempty_word word ++ others) ≡ joined_texts (word_value coding (length word) (hex_number word)) (words_value coding others)
ended_values coding [] others = sym (joined_nothing (words_value coding others))
ended_values coding (b ∷ word) others = ap (λ v. joined_texts v (words_value coding others)) (sym (word_is coding (length (b ∷ word)) (hex_number (b ∷ word)) (omega arith)))

ended_alone : (coding : Coding) (word : List ℕ) → words_value coding (nonempty_word word) ≡ word_value coding (length word) (hex_number word)
ended_alone coding [] = refl
ended_alone coding (b ∷ word) = alone (number_value coding (length (b ∷ word)) (hex_number (b ∷ word))) ∙ sym (word_is coding (length (b ∷ word)) (hex_number (b ∷ word)) (omega arith))
  where
    alone : (v : Option (List ℕ)) → joined_texts v (Some []) ≡ v
    alone None = refl
    alone (Some s) = ap Some (append-nil s)

-- a digit more
pub hex_more : (word : List ℕ) (b : ℕ) → hex_number (word ++ b ∷ []) ≡ with_hex (hex_number word) b
hex_more word b = fold-append with_hex 0 word (b ∷ [])

pub length_more : (word : List ℕ) (b : ℕ) → length (word ++ b ∷ []) ≡ length word + 1
length_more word b = length-append word (b ∷ [])

pub words_digit : (word : List ℕ) (b : ℕ) (s : List ℕ) → is_white b ≡ false → words_from word (b ∷ s) ≡ words_from (word ++ b ∷ []) s
words_digit word b s is = ap (λ c. cond c (nonempty_word word ++ words_from [] s) (words_from (word ++ b ∷ []) s)) is

pub words_white : (word : List ℕ) (b : ℕ) (s : List ℕ) → is_white b ≡ true → words_from word (b ∷ s) ≡ nonempty_word word ++ words_from [] s
words_white word b s is = ap (λ c. cond c (nonempty_word word ++ words_from [] s) (words_from (word ++ b ∷ []) s)) is

module _ (coding : Coding) (value word : List ℕ) where
  -- a word ends
  pub word_ends : (b : ℕ) (s new : List ℕ) → is_white b ≡ true → joined_texts (Some value) (word_value coding (length word) (hex_number word)) ≡ Some new
      → joined_texts (Some value) (words_value coding (words_from word (b ∷ s))) ≡ joined_texts (Some new) (words_value coding (words_from [] s))
  word_ends b s new white appended =
      ap (λ ws. joined_texts (Some value) (words_value coding ws)) (words_white word b s white) ∙ ap (joined_texts (Some value)) (ended_values coding word (words_from [] s))
      ∙ sym (joined_assoc (Some value) (word_value coding (length word) (hex_number word)) (words_value coding (words_from [] s))) ∙ ap (λ v. joined_texts v (words_value coding (words_from [] s))) appended

  -- a word that stands for nothing
  pub word_misfits : (b : ℕ) (s : List ℕ) → is_white b ≡ true → word_value coding (length word) (hex_number word) ≡ None → joined_texts (Some value) (words_value coding (words_from word (b ∷ s))) ≡ None
  word_misfits b s white none =
      ap (λ ws. joined_texts (Some value) (words_value coding ws)) (words_white word b s white) ∙ ap (joined_texts (Some value)) (ended_values coding word (words_from [] s) ∙ ap (λ v. joined_texts v (words_value coding (words_from [] s))) none)

  -- the last word
  pub last_word : (new : List ℕ) → joined_texts (Some value) (word_value coding (length word) (hex_number word)) ≡ Some new → joined_texts (Some value) (words_value coding (words_from word [])) ≡ Some new
  last_word new appended = ap (joined_texts (Some value)) (ended_alone coding word) ∙ appended

  pub last_misfits : word_value coding (length word) (hex_number word) ≡ None → joined_texts (Some value) (words_value coding (words_from word [])) ≡ None
  last_misfits none = ap (joined_texts (Some value)) (ended_alone coding word ∙ none)

-- ---- a text

-- what begins with another octet than `$` begins no sequence
not_dollar : (b : ℕ) → (b ≡ 36 → ⊥) → nat_eq (to_ascii_lowercase b) 36 ≡ false
not_dollar b other = grind (arith, common_steps)

and_false : (b : Bool) → b && false ≡ false
and_false true = refl
and_false false = refl

plain_absent : (b : ℕ) (s : List ℕ) → (b ≡ 36 → ⊥) → sequence_at (b ∷ s) ≡ Absent
plain_absent b s other =
    let first = not_dollar b other in
    let hex : begins_with (codes "${hex:") (b ∷ s) ≡ false =
    ap (λ x. nat_le 6 (length (b ∷ s)) && (x && pointwise nat_eq (lowered (take 5 s)) (lowered (codes "{hex:")))) first ∙ and_false (nat_le 6 (length (b ∷ s))) in
    let unicode : begins_with (codes "${unicode:") (b ∷ s) ≡ false =
    ap (λ x. nat_le 10 (length (b ∷ s)) && (x && pointwise nat_eq (lowered (take 9 s)) (lowered (codes "{unicode:")))) first ∙ and_false (nat_le 10 (length (b ∷ s))) in
    let none : opening_of (b ∷ s) ≡ None =
    ap (λ h. cond h (Some (Hex, 6)) (cond (begins_with (codes "${unicode:") (b ∷ s)) (Some (Unicode, 10)) None)) hex ∙ ap (λ u. cond u (Some (Unicode, 10)) None) unicode in
    ap (λ o. closed_by o (b ∷ s)) none

decoded_skips : (n : ℕ) (s : List ℕ) → decoded_after n s ≡ decoded_after 0 (drop n s)
decoded_skips zero s = refl
decoded_skips (suc n) [] = refl
decoded_skips (suc n) (b ∷ s) = decoded_skips n s

module _ (b : ℕ) (s : List ℕ) (value : List ℕ) where
  -- no sequence
  pub decoded_plain : sequence_at (b ∷ s) ≡ Absent → joined_texts (Some value) (decoded_after 0 (b ∷ s)) ≡ joined_texts (Some (value ++ b ∷ [])) (decoded_after 0 s)
  decoded_plain is = rw (is, joined_texts, decoded_after) (sym (joined_assoc (Some value) (Some (b ∷ [])) (decoded_after 0 s)))

  -- one with a number that is no character's
  pub decoded_wrong : sequence_at (b ∷ s) ≡ OutOfRange → joined_texts (Some value) (decoded_after 0 (b ∷ s)) ≡ None
  decoded_wrong is = rw (is, decoded_after) refl

  -- one that stands for octets
  pub decoded_more : (octets : List ℕ) (len : ℕ) → sequence_at (b ∷ s) ≡ Present octets (suc len) → joined_texts (Some value) (decoded_after 0 (b ∷ s)) ≡ joined_texts (Some (value ++ octets)) (decoded_after 0 (drop len s))
  decoded_more octets len is = let one : suc len - 1 ≡ len = omega arith in rw (is, decoded_after) (ap (λ d. joined_texts (Some value) (joined_texts (Some octets) d)) (ap (λ n. decoded_after n s) one ∙ decoded_skips len s) ∙ sym (joined_assoc (Some value) (Some octets) (decoded_after 0 (drop len s))))

-- a text without `$` stands for itself
nothing_encoded : (s : List ℕ) → ((j : ℕ) → 0 ≤ j → j < length s → (get_or s j 0 == 36) ≡ true → ⊥) → decoded_after 0 s ≡ Some s
nothing_encoded [] none = refl
nothing_encoded (b ∷ s) none =
    let absent = plain_absent b s (λ is. none 0 (omega arith) (omega arith) (rw is refl)) in
    rw (absent, decoded_after) (ap (joined_texts (Some (b ∷ []))) (nothing_encoded s (λ j low high at. none (suc j) (omega arith) (omega arith) at)))

pub without_dollar : (s : List ℕ) → IsFirstByte (is_byte 36) s None → decoded s ≡ Some s
without_dollar s none = nothing_encoded s none

module _ (text : List ℕ) (at : ℕ) (value new : List ℕ) (total : Option (List ℕ)) (below : at < length text) (so : joined_texts (Some value) (decoded_after 0 (drop at text)) ≡ total) where
  here : drop at text ≡ get_or text at 0 ∷ drop (at + 1) text
  here = drop_more text at 0 below

  first : (found : Sequence) → sequence_at (drop at text) ≡ found → sequence_at (get_or text at 0 ∷ drop (at + 1) text) ≡ found
  first found is = ap sequence_at (sym here) ∙ is

  whole : joined_texts (Some value) (decoded_after 0 (get_or text at 0 ∷ drop (at + 1) text)) ≡ total
  whole = ap (λ s. joined_texts (Some value) (decoded_after 0 s)) (sym here) ∙ so

  -- an octet of no sequence
  pub plain_at : sequence_at (drop at text) ≡ Absent → new ≡ value ++ get_or text at 0 ∷ [] → joined_texts (Some new) (decoded_after 0 (drop (at + 1) text)) ≡ total
  plain_at is grown = ap (λ v. joined_texts (Some v) (decoded_after 0 (drop (at + 1) text))) grown ∙ sym (decoded_plain (get_or text at 0) (drop (at + 1) text) value (first Absent is)) ∙ whole

  -- an octet that begins none
  pub other_at : (get_or text at 0 ≡ 36 → ⊥) → new ≡ value ++ get_or text at 0 ∷ [] → joined_texts (Some new) (decoded_after 0 (drop (at + 1) text)) ≡ total
  other_at other grown = plain_at (ap sequence_at here ∙ plain_absent (get_or text at 0) (drop (at + 1) text) other) grown

  -- a sequence
  pub sequence_here : (octets : List ℕ) (len : ℕ) → 0 < len → sequence_at (drop at text) ≡ Present octets len → new ≡ value ++ octets → joined_texts (Some new) (decoded_after 0 (drop (at + len) text)) ≡ total
  sequence_here octets zero some is grown = absurd (omega (arith, some))
  sequence_here octets (suc len) some is grown =
      ap (λ v. joined_texts (Some v) (decoded_after 0 (drop (at + suc len) text))) grown
      ∙ ap (λ s. joined_texts (Some (value ++ octets)) (decoded_after 0 s)) behind
      ∙ sym (decoded_more (get_or text at 0) (drop (at + 1) text) value octets len (first (Present octets (suc len)) is)) ∙ whole
    where
      behind : drop (at + suc len) text ≡ drop len (drop (at + 1) text)
      behind = let e : at + suc len ≡ at + 1 + len = omega arith in ap (λ n. drop n text) e ∙ sym (drop-drop len (at + 1) text)
