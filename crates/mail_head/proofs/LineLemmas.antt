-- Lemmas on the lines of a text.
use Rattle.std.proofs.Common.{◌≡◌, ℕ, zero, suc, ◌+◌, ◌<◌, ◌≤◌, Bool, true, false, cond, ◌==◌, List, [], ◌∷◌, ◌++◌, length, get_or, take, drop, None, Some, refl, sym, ap, ◌∙◌, add-one, arith}
use Rattle.std.proofs.lemmas.List.{append-nil, take_all, drop_all, take-append-drop, length-take-le}
use Rattle.std.proofs.lemmas.Bool.{false_from_ne_true}
use Rattle.std.specs.List.{concat}
use Rattle.memchr.specs.Find.{IsFirstByte, is_byte}
use Rattle.mail_head.specs.Cuts.{CutsLine}
use Rattle.mail_head.specs.Lines.{is_feed, at_front, lines_of, begins_blank, first_is_folded}

-- the first line ends at the first LF
pub lines_at : (text : List ℕ) (k : ℕ) → k < length text → (get_or text k 0 == 10) ≡ true
    → ((j : ℕ) → 0 ≤ j → j < k → (get_or text j 0 == 10) ≡ true → ⊥)
    → lines_of text ≡ take (suc k) text ∷ lines_of (drop (suc k) text)
lines_at [] k short feed none = absurd (omega arith)
lines_at (octet ∷ rest) zero short feed none = rw feed
lines_at (octet ∷ rest) (suc k) short feed none =
    let other = false_from_ne_true (octet == 10) (none 0 (omega arith) (omega arith)) in
    let later = lines_at rest k (omega arith) feed (λ j low high at. none (suc j) (omega arith) (omega arith) at) in
    rw (other, later)

-- a text without LF is one line
pub lines_none : (text : List ℕ) → 0 < length text
    → ((j : ℕ) → 0 ≤ j → j < length text → (get_or text j 0 == 10) ≡ true → ⊥)
    → lines_of text ≡ text ∷ []
lines_none [] present none = absurd (omega arith)
lines_none (octet ∷ []) present none = rw (false_from_ne_true (octet == 10) (none 0 (omega arith) (omega arith)))
lines_none (octet ∷ (next ∷ rest)) present none =
    let other = false_from_ne_true (octet == 10) (none 0 (omega arith) (omega arith)) in
    let later = lines_none (next ∷ rest) (omega arith) (λ j low high at. none (suc j) (omega arith) (omega arith) at) in
    rw (other, later)

concat-at_front : (octet : ℕ) (lines : List (List ℕ)) → concat (at_front octet lines) ≡ octet ∷ concat lines
concat-at_front octet [] = refl
concat-at_front octet (line ∷ more) = refl

concat-cut : (test : Bool) (octet : ℕ) (lines : List (List ℕ)) → concat (cond test ((octet ∷ []) ∷ lines) (at_front octet lines)) ≡ octet ∷ concat lines
concat-cut true octet lines = refl
concat-cut false octet lines = concat-at_front octet lines

-- the lines joined are the text
pub concat-lines_of : (text : List ℕ) → concat (lines_of text) ≡ text
concat-lines_of [] = refl
concat-lines_of (octet ∷ rest) = concat-cut (is_feed octet) octet (lines_of rest) ∙ ap (λ t. octet ∷ t) (concat-lines_of rest)

goes_on-cut : (test : Bool) (octet : ℕ) (lines : List (List ℕ)) → first_is_folded (cond test ((octet ∷ []) ∷ lines) (at_front octet lines)) ≡ begins_blank (octet ∷ [])
goes_on-cut true octet lines = refl
goes_on-cut false octet [] = refl
goes_on-cut false octet (line ∷ more) = refl

-- the first line begins as the text does
pub goes_on-lines_of : (text : List ℕ) → first_is_folded (lines_of text) ≡ begins_blank text
goes_on-lines_of [] = refl
goes_on-lines_of (octet ∷ rest) = goes_on-cut (is_feed octet) octet (lines_of rest)

-- a text begins as its first part does
pub begins_blank-append : (line after : List ℕ) → 0 < length line → begins_blank (line ++ after) ≡ begins_blank line
begins_blank-append [] after present = absurd (omega arith)
begins_blank-append (octet ∷ rest) after present = refl

-- a search for the first LF cuts the first line off
pub cut_at : (text : List ℕ) (k : ℕ) → IsFirstByte (is_byte 10) text (Some k) → CutsLine text (take (k + 1) text) (drop (k + 1) text)
cut_at text k found = rw (add-one k) (record {
  spelled = sym (take-append-drop (suc k) text);
  first = lines_at text k found.0.high found.1 found.0.before;
  present = let size = length-take-le (suc k) text (omega (arith, found.0.high)) in omega (arith, size);
})

-- where there is none, the whole text is a line
pub cut_none : (text : List ℕ) → 0 < length text → IsFirstByte (is_byte 10) text None → CutsLine text (take (length text) text) (drop (length text) text)
cut_none text present none =
    let front = take_all (length text) text (omega arith) in
    let back = drop_all (length text) text (omega arith) in
    rw (front, back) (record { spelled = sym (append-nil text); first = lines_none text present none; present = present })
