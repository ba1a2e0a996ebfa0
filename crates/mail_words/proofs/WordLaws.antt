-- A run is a recognised word exactly where it has a word's form, and its parts are the only ones.
use Rattle.std.proofs.Common.{◌≡◌, ℕ, Bool, true, false, cond, ◌==◌, ◌&&◌, not, Option, None, Some, List, [], ◌∷◌, ◌++◌, refl, sym, ap, ◌∙◌, codes, bytes_eq}
use Rattle.std.proofs.lemmas.Bool.{eqb-true}
use Rattle.std.proofs.lemmas.Slice.Eq.{bytes_eq-Decides}
use Rattle.std.specs.List.{list_all}
use Rattle.mail_head.specs.Lines.{at_front, begins_blank}
use Rattle.mail_head.proofs.FoldLemmas.{and_left, and_right, and_true}
use Rattle.mail_words.specs.Words.{is_unmarked, IsEncodedWord, SaysWord, between_questions, meaning_of, meaning_in, encoded_word_text}

-- an octet that is no question mark
pub other_mark : (octet : ℕ) → is_unmarked octet ≡ true → (octet == 63) ≡ false
other_mark octet unmarked = not_true (octet == 63) unmarked where
  not_true : (test : Bool) → not test ≡ true → test ≡ false
  not_true true h = absurd (cc h)
  not_true false h = refl

-- a part without question mark, and what follows
pub parts_front : (front rest : List ℕ) → list_all is_unmarked front ≡ true → between_questions (front ++ 63 ∷ rest) ≡ front ∷ between_questions rest
parts_front [] rest all = refl
parts_front (octet ∷ front) rest all =
    let other = other_mark octet (and_left _ _ all) in
    let later = parts_front front rest (and_right (is_unmarked octet) (list_all is_unmarked front) all) in
    rw (other, later) refl

-- the parts of a word
pub parts_word : (run charset encoding text : List ℕ) → IsEncodedWord run charset encoding text → between_questions run ≡ codes "=" ∷ charset ∷ encoding ∷ text ∷ codes "=" ∷ []
parts_word run charset encoding text word =
    let third = parts_front text (codes "=") word.text_unmarked in
    let second = parts_front encoding (text ++ codes "?=") word.encoding_unmarked in
    let first = parts_front charset (encoding ++ 63 ∷ (text ++ codes "?=")) word.charset_unmarked in
    ap between_questions word.spelled ∙ (ap (λ t. codes "=" ∷ t) (first ∙ ap (λ t. charset ∷ t) (second ∙ ap (λ t. encoding ∷ t) third)))

-- a word's form is recognised
pub word_again : (run said : List ℕ) → SaysWord run said → encoded_word_text run ≡ Some said
word_again run said says = ap meaning_in (parts_word run says.charset says.encoding says.text says.form) ∙ says.meaning

same_parts : (front a b c back front2 d e f back2 : List ℕ) → front ∷ a ∷ b ∷ c ∷ back ∷ [] ≡ front2 ∷ d ∷ e ∷ f ∷ back2 ∷ [] → (a ≡ d) × ((b ≡ e) × (c ≡ f))
same_parts front a b c back front2 d e f back2 same = (cc same, (cc same, cc same))

-- a word has one charset, one encoding and one text
pub word_only : (run a b c d e f : List ℕ) → IsEncodedWord run a b c → IsEncodedWord run d e f → (a ≡ d) × ((b ≡ e) × (c ≡ f))
word_only run a b c d e f one two = same_parts (codes "=") a b c (codes "=") (codes "=") d e f (codes "=") (sym (parts_word run a b c one) ∙ parts_word run d e f two)

-- parts without question mark, with one between each two of them
abbrev Joins : List (List ℕ) → List ℕ → Type 0
Joins [] text = ⊥
Joins (part ∷ []) text = (text ≡ part) × (list_all is_unmarked part ≡ true)
Joins (part ∷ next ∷ more) text = (rest : List ℕ) × ((text ≡ part ++ 63 ∷ rest) × ((list_all is_unmarked part ≡ true) × Joins (next ∷ more) rest))

joins_mark : (parts : List (List ℕ)) (text : List ℕ) → Joins parts text → Joins ([] ∷ parts) (63 ∷ text)
joins_mark [] text joins = absurd joins
joins_mark (part ∷ more) text joins = (text, (refl, (refl, joins)))

joins_octet : (octet : ℕ) (parts : List (List ℕ)) (text : List ℕ) → is_unmarked octet ≡ true → Joins parts text → Joins (at_front octet parts) (octet ∷ text)
joins_octet octet [] text unmarked joins = absurd joins
joins_octet octet (part ∷ []) text unmarked joins = (ap (λ t. octet ∷ t) joins.0, and_true _ _ unmarked joins.1)
joins_octet octet (part ∷ next ∷ more) text unmarked (rest, (spelled, (all, joins))) =
    (rest, (ap (λ t. octet ∷ t) spelled, (and_true _ _ unmarked all, joins)))

joins_step : (octet : ℕ) (rest : List ℕ) (test : Bool) → (octet == 63) ≡ test → Joins (between_questions rest) rest → Joins (cond test ([] ∷ between_questions rest) (at_front octet (between_questions rest))) (octet ∷ rest)
joins_step octet rest true is joins =
    let mark = eqb-true octet 63 is in
    rw mark (joins_mark (between_questions rest) rest joins)
joins_step octet rest false is joins = joins_octet octet (between_questions rest) rest (ap not is) joins

-- the parts of a text join to it
joins_parts : (text : List ℕ) → Joins (between_questions text) text
joins_parts [] = (refl, refl)
joins_parts (octet ∷ rest) = joins_step octet rest (octet == 63) refl (joins_parts rest)

equals_sign : (text : List ℕ) → bytes_eq text (codes "=") ≡ true → text ≡ codes "="
equals_sign text same = (bytes_eq-Decides text (codes "=")).0 same

chosen : (test : Bool) (found : Option (List ℕ)) (said : List ℕ) → cond test found None ≡ Some said → (test ≡ true) × (found ≡ Some said)
chosen true found said is = (refl, is)
chosen false found said is = absurd (cc is)

says_parts : (parts : List (List ℕ)) (run said : List ℕ) → Joins parts run → meaning_in parts ≡ Some said → SaysWord run said
says_parts [] run said joins is = absurd joins
says_parts (a ∷ []) run said joins is = absurd (cc is)
says_parts (a ∷ b ∷ []) run said joins is = absurd (cc is)
says_parts (a ∷ b ∷ c ∷ []) run said joins is = absurd (cc is)
says_parts (a ∷ b ∷ c ∷ d ∷ []) run said joins is = absurd (cc is)
says_parts (front ∷ charset ∷ encoding ∷ text ∷ back ∷ []) run said (one, (s, (u, (two, (t, (v, (three, (w, (x, (four, (y, (z, last)))))))))))) is =
    let found = chosen (bytes_eq front (codes "=") && bytes_eq back (codes "=")) (meaning_of charset encoding text) said is in
    let begins = equals_sign front (and_left _ _ found.0) in
    let ends = equals_sign back (and_right (bytes_eq front (codes "=")) (bytes_eq back (codes "=")) found.0) in
    record {
      charset = charset;
      encoding = encoding;
      text = text;
      form = record {
        spelled = s ∙ (ap (λ f. f ++ 63 ∷ one) begins ∙ ap (λ r. codes "=?" ++ r) (t ∙ ap (λ r. charset ++ 63 ∷ r) (w ∙ ap (λ r. encoding ++ 63 ∷ r) (y ∙ ap (λ r. text ++ 63 ∷ r) (last.0 ∙ ends)))));
        charset_unmarked = v;
        encoding_unmarked = x;
        text_unmarked = z;
      };
      meaning = found.1;
    }
says_parts (a ∷ b ∷ c ∷ d ∷ e ∷ f ∷ more) run said joins is = absurd (cc is)

-- what is recognised has a word's form
pub word_says : (run said : List ℕ) → encoded_word_text run ≡ Some said → SaysWord run said
word_says run said is = says_parts (between_questions run) run said (joins_parts run) is

begins_equals : (run said : List ℕ) → SaysWord run said → begins_blank run ≡ false
begins_equals run said says = ap begins_blank says.form.spelled

-- blanks are no word
pub blank_no_word : (run : List ℕ) → begins_blank run ≡ true → encoded_word_text run ≡ None
blank_no_word run blank = none (encoded_word_text run) refl where
  none : (found : Option (List ℕ)) → encoded_word_text run ≡ found → found ≡ None
  none None is = refl
  none (Some said) is = absurd (cc (sym blank ∙ begins_equals run said (word_says run said is)))
