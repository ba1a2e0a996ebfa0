-- Lemmas on the parts of a run between question marks.
use Rattle.std.proofs.Common.{◌≡◌, ◌⊎◌, ℕ, zero, suc, ◌+◌, ◌<◌, ◌≤◌, Bool, true, false, cond, ◌==◌, ◌&&◌, None, Some, List, [], ◌∷◌, length, get_or, take, drop, refl, ap, ◌∙◌, inl, inr, add-one, codes, bytes_eq, arith}
use Rattle.std.proofs.lemmas.Bool.{false_from_ne_true}
use Rattle.memchr.specs.Find.{IsFirstByte, is_byte}
use Rattle.mail_head.specs.Lines.{at_front}
use Rattle.mail_words.specs.Words.{between_questions, meaning_in}

parts_at : (text : List ℕ) (k : ℕ) → k < length text → (get_or text k 0 == 63) ≡ true → ((j : ℕ) → 0 ≤ j → j < k → (get_or text j 0 == 63) ≡ true → ⊥)
    → between_questions text ≡ take k text ∷ between_questions (drop (suc k) text)
parts_at [] k short mark none = absurd (omega arith)
parts_at (octet ∷ rest) zero short mark none = rw mark refl
parts_at (octet ∷ rest) (suc k) short mark none =
    let other = false_from_ne_true (octet == 63) (none 0 (omega arith) (omega arith)) in
    let later = parts_at rest k (omega arith) mark (λ j low high at. none (suc j) (omega arith) (omega arith) at) in
    rw (other, later) refl

-- a search for the first question mark cuts the first part off
pub part_at : (text : List ℕ) (k : ℕ) → IsFirstByte (is_byte 63) text (Some k) → between_questions text ≡ take k text ∷ between_questions (drop (k + 1) text)
part_at text k found = rw (add-one k) (parts_at text k found.0.high found.1 found.0.before)

-- a text without question mark is one part
pub part_none : (text : List ℕ) → IsFirstByte (is_byte 63) text None → between_questions text ≡ text ∷ []
part_none [] none = refl
part_none (octet ∷ rest) none =
    let other = false_from_ne_true (octet == 63) (none 0 (omega arith) (omega arith)) in
    let later = part_none rest (λ j low high at. none (suc j) (omega arith) (omega arith) at) in
    rw (other, later) refl

-- two parts or more
pub record IsCut (parts : List (List ℕ)) : Type 0 where
  pub first : List ℕ
  pub second : List ℕ
  pub more : List (List ℕ)
  pub is : parts ≡ first ∷ second ∷ more

cut_first : (octet : ℕ) (parts : List (List ℕ)) → IsCut parts → IsCut (at_front octet parts)
cut_first octet parts cut = record { first = octet ∷ cut.first; second = cut.second; more = cut.more; is = ap (at_front octet) cut.is }

cut_one : (text : List ℕ) (parts : List (List ℕ)) → (parts ≡ text ∷ []) ⊎ IsCut parts → IsCut ([] ∷ parts)
cut_one text parts (inl one) = record { first = []; second = text; more = []; is = ap (λ t. [] ∷ t) one }
cut_one text parts (inr cut) = record { first = []; second = cut.first; more = cut.second ∷ cut.more; is = ap (λ t. [] ∷ t) cut.is }

shape_step : (test : Bool) (octet : ℕ) (rest : List ℕ) → (between_questions rest ≡ rest ∷ []) ⊎ IsCut (between_questions rest)
    → (cond test ([] ∷ between_questions rest) (at_front octet (between_questions rest)) ≡ (octet ∷ rest) ∷ []) ⊎ IsCut (cond test ([] ∷ between_questions rest) (at_front octet (between_questions rest)))
shape_step true octet rest shape = inr (cut_one rest (between_questions rest) shape)
shape_step false octet rest (inl one) = inl (ap (at_front octet) one)
shape_step false octet rest (inr cut) = inr (cut_first octet (between_questions rest) cut)

-- a text is one part, or has more
pub parts_shape : (text : List ℕ) → (between_questions text ≡ text ∷ []) ⊎ IsCut (between_questions text)
parts_shape [] = inl refl
parts_shape (octet ∷ rest) = shape_step (octet == 63) octet rest (parts_shape rest)

parts_last : (front charset encoding text back : List ℕ) (parts : List (List ℕ)) → (bytes_eq front (codes "=") && bytes_eq back (codes "=")) ≡ false → (parts ≡ back ∷ []) ⊎ IsCut parts
    → meaning_in (front ∷ charset ∷ encoding ∷ text ∷ parts) ≡ None
parts_last front charset encoding text back parts other (inl one) = rw (one, other) refl
parts_last front charset encoding text back parts other (inr cut) = rw cut.is refl

-- parts that are not those of a word
pub parts_other : (run front after charset second encoding third text back : List ℕ) → between_questions run ≡ front ∷ between_questions after → between_questions after ≡ charset ∷ between_questions second
    → between_questions second ≡ encoding ∷ between_questions third → between_questions third ≡ text ∷ between_questions back → (bytes_eq front (codes "=") && bytes_eq back (codes "=")) ≡ false → meaning_in (between_questions run) ≡ None
parts_other run front after charset second encoding third text back a b c d other =
    let all : between_questions run ≡ front ∷ charset ∷ encoding ∷ text ∷ between_questions back = a ∙ ap (λ t. front ∷ t) (b ∙ ap (λ t. charset ∷ t) (c ∙ ap (λ t. encoding ∷ t) d)) in
    ap meaning_in all ∙ parts_last front charset encoding text back (between_questions back) other (parts_shape back)
