-- A value without the blanks at its ends is a word exactly where the word stands after its first blanks and blanks alone follow.
use Rattle.std.proofs.Common.{◌≡◌, ℕ, suc, ◌+◌, ◌<◌, Bool, true, false, cond, nat_eq, ◌==◌, ◌&&◌, ◌||◌, not, List, [], ◌∷◌, length, take, drop, refl, ap, sym, ◌∙◌, arith, drop-cons}
use Rattle.std.specs.Prelude.{Option, Some, None}
use Rattle.std.proofs.lemmas.Bool.Decides.{nat_tests}
use Rattle.std.specs.List.{before_first, position_or_len, list_all, list_any}
use Rattle.std.specs.Char.{to_ascii_lowercase}
use Rattle.mail_head.specs.Lines.{at_front}
use Rattle.octets.specs.Ascii.{is_blank, trim_front, trim_back, trimmed, prepend_trimmed}
use Rattle.sieve_vacation.specs.Cases.{same_ignoring_case, is_empty, is_comma, between_commas}
use Rattle.sieve_vacation.specs.Folds.{after_word, after_comma, is_small, is_nonletter, ends_by_mark}

-- a text up to the first octet that stops it
abbrev cut_at : (ℕ → Bool) → List ℕ → List ℕ
cut_at stop [] = []
cut_at stop (octet ∷ rest) = cond (stop octet) [] (octet ∷ cut_at stop rest)

cut_never : (text : List ℕ) → cut_at (λ octet. false) text ≡ text
cut_never [] = refl
cut_never (octet ∷ rest) = ap (λ t. octet ∷ t) (cut_never rest)

taken_one : (test : Bool) (octet n : ℕ) (rest : List ℕ) → take (cond (not test) (1 + n) 0) (octet ∷ rest) ≡ cond test [] (octet ∷ take n rest)
taken_one true octet n rest = refl
taken_one false octet n rest = let one : 1 + n ≡ suc n = omega arith in rw one refl

cut_first : (stop : ℕ → Bool) (text : List ℕ) → before_first stop text ≡ cut_at stop text
cut_first stop [] = refl
cut_first stop (octet ∷ rest) = taken_one (stop octet) octet (position_or_len stop rest) rest ∙ ap (λ t. cond (stop octet) [] (octet ∷ t)) (cut_first stop rest)

-- no blank and no letter stops a text
record IsApart (stop : ℕ → Bool) : Type 0 where
  blanks : (octet : ℕ) → is_blank octet ≡ true → stop octet ≡ false
  letters : (letter octet : ℕ) → is_small letter ≡ true → nat_eq (to_ascii_lowercase letter) (to_ascii_lowercase octet) ≡ true → stop octet ≡ false

never_apart : IsApart (λ octet. false)
never_apart = record { blanks = λ octet blank. refl; letters = λ letter octet small same. refl }

mark_blanks : (mark octet : ℕ) → is_nonletter mark ≡ true → is_blank octet ≡ true → (octet == mark) ≡ false
mark_blanks mark octet apart blank = grind (arith, nat_tests)

mark_letters : (mark letter octet : ℕ) → is_nonletter mark ≡ true → is_small letter ≡ true → nat_eq (to_ascii_lowercase letter) (to_ascii_lowercase octet) ≡ true → (octet == mark) ≡ false
mark_letters mark letter octet apart small same = grind (arith, nat_tests)

mark_apart : (mark : ℕ) → is_nonletter mark ≡ true → IsApart (λ octet. octet == mark)
mark_apart mark apart = record { blanks = λ octet. mark_blanks mark octet apart; letters = λ letter octet. mark_letters mark letter octet apart }

-- a letter is no blank
letter_apart : (letter octet : ℕ) → is_small letter ≡ true → is_blank octet ≡ true → nat_eq (to_ascii_lowercase letter) (to_ascii_lowercase octet) ≡ false
letter_apart letter octet small blank = grind (arith, nat_tests)

-- blanks at the front are blanks of the cut text
front_step : (stop : ℕ → Bool) (octet : ℕ) (rest : List ℕ) (blank stops : Bool) → (blank ≡ true → stops ≡ false)
    → trim_front (cut_at stop rest) ≡ cut_at stop (trim_front rest)
    → is_blank octet ≡ blank → stop octet ≡ stops
    → trim_front (cond stops [] (octet ∷ cut_at stop rest)) ≡ cut_at stop (cond blank (trim_front rest) (octet ∷ rest))
front_step stop octet rest true true apart more is stops = absurd (cc (apart refl))
front_step stop octet rest true false apart more is stops = rw is more
front_step stop octet rest false true apart more is stops = rw stops refl
front_step stop octet rest false false apart more is stops = rw (is, stops) refl

front_cut : (stop : ℕ → Bool) (text : List ℕ) → IsApart stop → trim_front (cut_at stop text) ≡ cut_at stop (trim_front text)
front_cut stop [] apart = refl
front_cut stop (octet ∷ rest) apart =
    front_step stop octet rest (is_blank octet) (stop octet) (apart.blanks octet) (front_cut stop rest apart) refl refl

-- a text is blank from its front as from its end
empty_step : (octet : ℕ) (rest back : List ℕ) (blank : Bool) → is_blank octet ≡ blank → is_empty back ≡ is_empty (trim_front rest)
    → is_empty (prepend_trimmed octet back) ≡ is_empty (cond blank (trim_front rest) (octet ∷ rest))
empty_step octet rest [] true is more = rw is more
empty_step octet rest [] false is more = rw is refl
empty_step octet rest (next ∷ back) true is more = more
empty_step octet rest (next ∷ back) false is more = refl

empty_back : (text : List ℕ) → is_empty (trim_back text) ≡ is_empty (trim_front text)
empty_back [] = refl
empty_back (octet ∷ rest) = empty_step octet rest (trim_back rest) (is_blank octet) refl (empty_back rest)

same_empty : (text : List ℕ) → same_ignoring_case [] text ≡ is_empty text
same_empty [] = refl
same_empty (octet ∷ rest) = refl

-- blanks alone follow, up to what stops the text
abbrev ends_by : (ℕ → Bool) → Option (List ℕ) → Bool
ends_by stop None = false
ends_by stop (Some rest) = is_empty (trim_front (cut_at stop rest))

back_step : (letter octet : ℕ) (word back : List ℕ) (blank same : Bool) → is_blank octet ≡ blank → nat_eq (to_ascii_lowercase letter) (to_ascii_lowercase octet) ≡ same
    → (blank ≡ true → same ≡ false) → same_ignoring_case (letter ∷ word) (prepend_trimmed octet back) ≡ cond same (same_ignoring_case word back) false
back_step letter octet word [] true true is test apart = absurd (cc (apart refl))
back_step letter octet word [] true false is test apart = rw is refl
back_step letter octet word [] false true is test apart = rw (is, test) refl
back_step letter octet word [] false false is test apart = rw (is, test) refl
back_step letter octet word (next ∷ back) blank true is test apart = rw test refl
back_step letter octet word (next ∷ back) blank false is test apart = rw test refl

word_step : (stop : ℕ → Bool) (letter octet : ℕ) (word rest : List ℕ) (stops same : Bool) → is_small letter ≡ true
    → stop octet ≡ stops → nat_eq (to_ascii_lowercase letter) (to_ascii_lowercase octet) ≡ same → (same ≡ true → stops ≡ false)
    → same_ignoring_case word (trim_back (cut_at stop rest)) ≡ ends_by stop (after_word word rest)
    → same_ignoring_case (letter ∷ word) (trim_back (cond stops [] (octet ∷ cut_at stop rest))) ≡ ends_by stop (cond same (after_word word rest) None)
word_step stop letter octet word rest true true small stopping test apart more = absurd (cc (apart refl))
word_step stop letter octet word rest true false small stopping test apart more = refl
word_step stop letter octet word rest false true small stopping test apart more =
    back_step letter octet word (trim_back (cut_at stop rest)) (is_blank octet) true refl test (λ blank. absurd (cc (letter_apart letter octet small blank))) ∙ more
word_step stop letter octet word rest false false small stopping test apart more =
    back_step letter octet word (trim_back (cut_at stop rest)) (is_blank octet) false refl test (λ blank. refl)

both_true : (a b : Bool) → (a && b) ≡ true → (a ≡ true) × (b ≡ true)
both_true true b is = (refl, is)
both_true false b is = absurd cc

word_at : (stop : ℕ → Bool) (word text : List ℕ) → IsApart stop → list_all is_small word ≡ true
    → same_ignoring_case word (trim_back (cut_at stop text)) ≡ ends_by stop (after_word word text)
word_at stop [] text apart small = same_empty (trim_back (cut_at stop text)) ∙ empty_back (cut_at stop text)
word_at stop (letter ∷ word) [] apart small = refl
word_at stop (letter ∷ word) (octet ∷ rest) apart small =
    let both = both_true (is_small letter) (list_all is_small word) small in
    word_step stop letter octet word rest (stop octet) _ both.0 refl refl (apart.letters letter octet both.0) (word_at stop word rest apart both.1)

-- the word that a value is, without the blanks at its ends
pub word_is : (word value after : List ℕ) → list_all is_small word ≡ true → Some after ≡ after_word word (trim_front value)
    → is_empty (trim_front after) ≡ same_ignoring_case word (trimmed value)
word_is word value after small found =
    let at = word_at (λ octet. false) word (trim_front value) never_apart small in
    let whole = rw (cut_never (trim_front value)) at at in
    sym (whole ∙ (ap (ends_by (λ octet. false)) (sym found) ∙ ap (λ t. is_empty (trim_front t)) (cut_never after)))

pub word_isnt : (word value : List ℕ) → list_all is_small word ≡ true → None ≡ after_word word (trim_front value) → false ≡ same_ignoring_case word (trimmed value)
word_isnt word value small found =
    let at = word_at (λ octet. false) word (trim_front value) never_apart small in
    let whole = rw (cut_never (trim_front value)) at at in
    sym (whole ∙ ap (ends_by (λ octet. false)) (sym found))

mark_cut : (mark : ℕ) (text : List ℕ) → is_empty (cut_at (λ octet. octet == mark) text) ≡ ends_by_mark mark text
mark_cut mark [] = refl
mark_cut mark (octet ∷ rest) = cut_head (octet == mark)
  where
    cut_head : (stops : Bool) → is_empty (cond stops [] (octet ∷ cut_at (λ o. o == mark) rest)) ≡ stops
    cut_head true = refl
    cut_head false = refl

-- the word that a value is up to its first octet of a mark
mark_is : (mark : ℕ) (word value : List ℕ) → is_nonletter mark ≡ true → list_all is_small word ≡ true
    → same_ignoring_case word (trimmed (before_first (λ octet. octet == mark) value)) ≡ ends_by (λ octet. octet == mark) (after_word word (trim_front value))
mark_is mark word value apart small =
    let front = ap trim_front (cut_first (λ octet. octet == mark) value) ∙ front_cut (λ octet. octet == mark) value (mark_apart mark apart) in
    ap (λ t. same_ignoring_case word (trim_back t)) front ∙ word_at (λ octet. octet == mark) word (trim_front value) (mark_apart mark apart) small

pub mark_word : (mark : ℕ) (word value after : List ℕ) → is_nonletter mark ≡ true → list_all is_small word ≡ true → Some after ≡ after_word word (trim_front value)
    → ends_by_mark mark (trim_front after) ≡ same_ignoring_case word (trimmed (before_first (λ octet. octet == mark) value))
mark_word mark word value after apart small found =
    sym (mark_is mark word value apart small ∙ (ap (ends_by (λ octet. octet == mark)) (sym found)
    ∙ (ap is_empty (front_cut (λ octet. octet == mark) after (mark_apart mark apart)) ∙ mark_cut mark (trim_front after))))

pub mark_other : (mark : ℕ) (word value : List ℕ) → is_nonletter mark ≡ true → list_all is_small word ≡ true → None ≡ after_word word (trim_front value)
    → false ≡ same_ignoring_case word (trimmed (before_first (λ octet. octet == mark) value))
mark_other mark word value apart small found = sym (mark_is mark word value apart small ∙ ap (ends_by (λ octet. octet == mark)) (sym found))

-- the values of a list from here on, where there are more
abbrev more_values : Option (List ℕ) → List (List ℕ)
more_values None = []
more_values (Some rest) = between_commas rest

values_step : (comma : Bool) (octet : ℕ) (rest : List ℕ) → between_commas rest ≡ cut_at is_comma rest ∷ more_values (after_comma rest)
    → cond comma ([] ∷ between_commas rest) (at_front octet (between_commas rest)) ≡ cond comma [] (octet ∷ cut_at is_comma rest) ∷ more_values (cond comma (Some rest) (after_comma rest))
values_step true octet rest later = refl
values_step false octet rest later = rw later refl

-- the first value, and the others
values_cut : (text : List ℕ) → between_commas text ≡ cut_at is_comma text ∷ more_values (after_comma text)
values_cut [] = refl
values_cut (octet ∷ rest) = values_step (is_comma octet) octet rest (values_cut rest)

-- a list whose first value passes
pub first_passes : (p : List ℕ → Bool) (text : List ℕ) → p (before_first is_comma text) ≡ true → list_any p (between_commas text) ≡ true
first_passes p text pass =
    let first : p (cut_at is_comma text) ≡ true = ap p (sym (cut_first is_comma text)) ∙ pass in
    rw (values_cut text, first) refl

-- a list whose first value doesn't pass
pub others_pass : (p : List ℕ → Bool) (text rest : List ℕ) → p (before_first is_comma text) ≡ false → Some rest ≡ after_comma text
    → list_any p (between_commas rest) ≡ list_any p (between_commas text)
others_pass p text rest fail found =
    let first : p (cut_at is_comma text) ≡ false = ap p (sym (cut_first is_comma text)) ∙ fail in
    rw (values_cut text, first, ← found) refl

pub none_passes : (p : List ℕ → Bool) (text : List ℕ) → p (before_first is_comma text) ≡ false → None ≡ after_comma text → list_any p (between_commas text) ≡ false
none_passes p text fail found =
    let first : p (cut_at is_comma text) ≡ false = ap p (sym (cut_first is_comma text)) ∙ fail in
    rw (values_cut text, first, ← found) refl

-- an empty value has no more letters
pub none_after : (word : List ℕ) (i : ℕ) → i < length word → after_word (drop i word) [] ≡ None
none_after word i within = rw (drop-cons word i 0 within) refl
