-- The words of a sequence are those of the grammar.
use Rattle.std.proofs.Common.{◌≡◌, ◌≢◌, ◌||◌, ◌&&◌, ◌↔◌, ℕ, Bool, true, false, List, [], ◌∷◌, ◌++◌, map, append_assoc, refl, sym, ap, ◌∙◌, subst, arith}
use Rattle.std.specs.Prelude.{IsTrue}
use Rattle.std.specs.List.{list_all, flat_map}
use Rattle.std.proofs.lemmas.Grind.{common_steps}
use Rattle.std.proofs.lemmas.List.{append-nil}
use Rattle.sieve_lex.specs.Class.{is_white}
use Rattle.sieve_lex.specs.Encoded.{is_hex, is_inner, nonempty_word, words_from}
use Rattle.sieve_lex.specs.Rows.{Numeral, IsNumeral, AreNumerals, numeral_spelling, AreNumeralWords}
use Rattle.sieve_lex.proofs.EncodedLemmas.{words_digit, words_white}
use Rattle.sieve_lex.proofs.Prefixes.{both}

pub hex_not_white : (b : ℕ) → is_hex b ≡ true → is_white b ≡ false
hex_not_white b is = grind (arith, common_steps)

inner_is : (hex white : Bool) → (hex || white) ≡ true → white ≡ false → hex ≡ true
inner_is true white is not = refl
inner_is false true is not = absurd (cc not)
inner_is false false is not = absurd (cc is)

pub and_true : (a b : Bool) → a ≡ true → b ≡ true → (a && b) ≡ true
and_true true b one two = two
and_true false b one two = absurd (cc one)

-- ---- what is written so has these words

digits_read : (word digits rest : List ℕ) → list_all is_hex digits ≡ true → words_from word (digits ++ rest) ≡ words_from (word ++ digits) rest
digits_read word [] rest all = ap (λ w. words_from w rest) (sym (append-nil word))
digits_read word (b ∷ more) rest all =
    let parts = both _ _ all in
    words_digit word b (more ++ rest) (hex_not_white b parts.0) ∙ digits_read (word ++ b ∷ []) more rest parts.1 ∙ ap (λ w. words_from w rest) (append_assoc word (b ∷ []) more)

blanks_read : (blanks rest : List ℕ) → list_all is_white blanks ≡ true → words_from [] (blanks ++ rest) ≡ words_from [] rest
blanks_read [] rest all = refl
blanks_read (b ∷ more) rest all = let parts = both _ _ all in words_white [] b (more ++ rest) parts.0 ∙ blanks_read more rest parts.1

word_read : (word blanks rest : List ℕ) → blanks ≢ [] → list_all is_white blanks ≡ true → words_from word (blanks ++ rest) ≡ nonempty_word word ++ words_from [] rest
word_read word [] rest some all = absurd (some refl)
word_read word (b ∷ more) rest some all = let parts = both _ _ all in words_white word b (more ++ rest) parts.0 ∙ ap (λ ws. nonempty_word word ++ ws) (blanks_read more rest parts.1)

ended_word : (word : List ℕ) → word ≢ [] → nonempty_word word ≡ word ∷ []
ended_word [] some = absurd (some refl)
ended_word (b ∷ word) some = refl

last_read : (word blanks : List ℕ) → word ≢ [] → list_all is_white blanks ≡ true → words_from word (blanks ++ []) ≡ word ∷ []
last_read word [] some all = ended_word word some
last_read word (b ∷ more) some all =
    let parts = both _ _ all in
    words_white word b (more ++ []) parts.0 ∙ ap (λ ws. nonempty_word word ++ ws) (blanks_read more [] parts.1) ∙ append-nil (nonempty_word word) ∙ ended_word word some

numerals_read : (numerals : List Numeral) → AreNumerals numerals → words_from [] (flat_map numeral_spelling numerals) ≡ map (λ n. n.word) numerals
numerals_read [] are = refl
numerals_read (n ∷ []) are =
    ap (words_from []) (append_assoc n.word n.blanks []) ∙ digits_read [] n.word (n.blanks ++ []) are.digits ∙ last_read n.word n.blanks are.some are.white
numerals_read (n ∷ (next ∷ more)) (is, (parted, others)) =
    let rest = flat_map numeral_spelling (next ∷ more) in
    ap (words_from []) (append_assoc n.word n.blanks rest) ∙ digits_read [] n.word (n.blanks ++ rest) is.digits ∙ word_read n.word n.blanks rest parted is.white
    ∙ ap (λ ws. ws ++ words_from [] rest) (ended_word n.word is.some) ∙ ap (λ ws. n.word ∷ ws) (numerals_read (next ∷ more) others)

pub row_words : (s : List ℕ) (words : List (List ℕ)) → AreNumeralWords s words → words_from [] s ≡ words
row_words s words row =
    ap (words_from []) row.spelled ∙ blanks_read row.lead (flat_map numeral_spelling row.numerals) row.blank ∙ numerals_read row.numerals row.each ∙ sym row.named

-- ---- digits and white octets are written so

with_numeral : (n : Numeral) (others : List Numeral) → IsNumeral n → n.blanks ≢ [] → AreNumerals others → AreNumerals (n ∷ others)
with_numeral n [] is parted are = is
with_numeral n (next ∷ more) is parted are = (is, (parted, are))

-- a word that has ended, and blanks
ends : (word : List ℕ) (b : ℕ) (s : List ℕ) → list_all is_hex word ≡ true → is_white b ≡ true → AreNumeralWords s (words_from [] s) → AreNumeralWords (word ++ b ∷ s) (nonempty_word word ++ words_from [] s)
ends [] b s digits white row = record {
  lead = b ∷ row.lead;
  numerals = row.numerals;
  blank = and_true _ _ white row.blank;
  each = row.each;
  spelled = ap (λ l. b ∷ l) row.spelled;
  named = row.named;
}
ends (d ∷ word) b s digits white row =
    let n : Numeral = record { word = d ∷ word; blanks = b ∷ row.lead } in
    record {
      lead = [];
      numerals = n ∷ row.numerals;
      blank = refl;
      each = with_numeral n row.numerals (record { some = λ e. cc e; digits = digits; white = and_true _ _ white row.blank }) (λ e. cc e) row.each;
      spelled = ap (λ l. (d ∷ word) ++ b ∷ l) row.spelled ∙ sym (append_assoc (d ∷ word) (b ∷ row.lead) (flat_map numeral_spelling row.numerals));
      named = ap (λ ws. (d ∷ word) ∷ ws) row.named;
    }

all_hex : (word : List ℕ) (b : ℕ) → list_all is_hex word ≡ true → is_hex b ≡ true → list_all is_hex (word ++ b ∷ []) ≡ true
all_hex [] b all is = and_true _ _ is refl
all_hex (d ∷ word) b all is = let parts = both _ _ all in and_true _ _ parts.0 (all_hex word b parts.1 is)

-- one octet more, where the rest is so after any digits
more : (word : List ℕ) (b : ℕ) (s : List ℕ) (white : Bool) → is_white b ≡ white → list_all is_hex word ≡ true → is_inner b ≡ true
    → ((w : List ℕ) → list_all is_hex w ≡ true → AreNumeralWords (w ++ s) (words_from w s)) → AreNumeralWords (word ++ b ∷ s) (words_from word (b ∷ s))
more word b s true white digits inner rest = subst (AreNumeralWords (word ++ b ∷ s)) (sym (words_white word b s white)) (ends word b s digits white (rest [] refl))
more word b s false white digits inner rest =
    let hex = inner_is (is_hex b) (is_white b) inner white in
    subst (λ l. AreNumeralWords l (words_from word (b ∷ s))) (append_assoc word (b ∷ []) s)
    (subst (AreNumeralWords ((word ++ b ∷ []) ++ s)) (sym (words_digit word b s white)) (rest (word ++ b ∷ []) (all_hex word b digits hex)))

row_of : (word s : List ℕ) → list_all is_hex word ≡ true → list_all is_inner s ≡ true → AreNumeralWords (word ++ s) (words_from word s)
row_of [] [] digits inner = record { lead = []; numerals = []; blank = refl; each = tt; spelled = refl; named = refl }
row_of (d ∷ word) [] digits inner = record {
  lead = [];
  numerals = record { word = d ∷ word; blanks = [] } ∷ [];
  blank = refl;
  each = record { some = λ e. cc e; digits = digits; white = refl };
  spelled = sym (append-nil ((d ∷ word) ++ []));
  named = refl;
}
row_of word (b ∷ s) digits inner = let parts = both _ _ inner in more word b s (is_white b) refl digits parts.0 (λ w all. row_of w s all parts.1)

pub words_are : (s : List ℕ) (words : List (List ℕ)) → IsTrue (list_all is_inner s) → (words_from [] s ≡ words) ↔ AreNumeralWords s words
words_are s words inner = (λ same. subst (AreNumeralWords s) same (row_of [] s refl inner), row_words s words)
