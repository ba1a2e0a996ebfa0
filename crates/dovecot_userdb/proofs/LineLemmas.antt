-- Lemmas on marks, lines and fields.
use Rattle.std.proofs.Common.{◌≡◌, ◌≢◌, ℕ, zero, suc, ◌+◌, ◌<◌, List, [], ◌∷◌, ◌++◌, length, take, drop, get_or, Option, Some, None, refl, sym, ap, ◌∙◌, subst, append-nil, add-one, arith, eq-eqb}
use Rattle.std.proofs.Math.Seq.{drop-cons}
use Rattle.memchr.specs.Find.{IsFirstByte, is_byte}
use Rattle.dovecot_userdb.specs.Lines.{HasNone, from_mark, CutsAt}

-- ---- by the index

pub none_by : (mark : ℕ) (text : List ℕ) → ((k : ℕ) → k < length text → get_or text k 0 ≢ mark) → HasNone mark text
none_by mark [] none = tt
none_by mark (x ∷ rest) none = (none 0 (omega arith), none_by mark rest (λ k h. none (suc k) (omega (arith, h))))

cut_in : (mark : ℕ) (all : List ℕ) (at : ℕ) → at < length all → ((k : ℕ) → k < at → get_or all k 0 ≢ mark) → get_or all at 0 ≡ mark → CutsAt mark all (take at all) (Some (drop (suc at) all))
cut_in mark [] at within none is = absurd (omega (arith, within))
cut_in mark (x ∷ all) zero within none is = record { none = tt; written = ap (λ (y : ℕ). y ∷ all) is }
cut_in mark (x ∷ all) (suc at) within none is =
    let it = cut_in mark all at (omega (arith, within)) (λ k h. none (suc k) (omega (arith, h))) is in
    record { none = (none 0 (omega arith), it.none); written = ap (λ (l : List ℕ). x ∷ l) it.written }

pub cut_by : (mark : ℕ) (all : List ℕ) (at : ℕ) → at < length all → ((k : ℕ) → k < at → get_or all k 0 ≢ mark) → get_or all at 0 ≡ mark → CutsAt mark all (take at all) (Some (drop (at + 1) all))
cut_by mark all at within none is = subst (λ (n : ℕ). CutsAt mark all (take at all) (Some (drop n all))) (sym (add-one at)) (cut_in mark all at within none is)

-- ---- by a search

pub cut_none : (mark : ℕ) (all : List ℕ) → IsFirstByte (is_byte mark) all None → CutsAt mark all all None
cut_none mark all first = record {
  none = none_by mark all (λ k h is. first k (omega arith) h (eq-eqb (get_or all k 0) mark is));
  written = sym (append-nil all);
}

pub cut_some : (mark : ℕ) (all : List ℕ) (at x : ℕ) (rest : List ℕ) → IsFirstByte (is_byte mark) all (Some at) → drop at all ≡ x ∷ rest → CutsAt mark all (take at all) (Some rest)
cut_some mark all at x rest first behind =
    let is : get_or all at 0 ≡ mark = grind (arith, first.1) in
    let it = cut_in mark all at first.0.high (λ k h is. first.0.before k (omega arith) h (eq-eqb (get_or all k 0) mark is)) is in
    let same : x ∷ rest ≡ get_or all at 0 ∷ drop (suc at) all = sym behind ∙ drop-cons all at 0 first.0.high in
    let rests : drop (suc at) all ≡ rest = cc in
    subst (λ (r : List ℕ). CutsAt mark all (take at all) (Some r)) rests it

-- ---- one way

pub same_front : (mark : ℕ) (a b : List ℕ) (r s : Option (List ℕ)) → HasNone mark a → HasNone mark b → a ++ from_mark mark r ≡ b ++ from_mark mark s → (a ≡ b) × (r ≡ s)
same_front mark [] [] None None one two is = (refl, refl)
same_front mark [] [] (Some r) (Some s) one two is = (refl, cc)
same_front mark [] [] None (Some s) one two is = absurd (cc is)
same_front mark [] [] (Some r) None one two is = absurd (cc is)
same_front mark [] (y ∷ b) None s one two is = absurd (cc is)
same_front mark [] (y ∷ b) (Some r) s one two is = let same : y ≡ mark = cc in absurd (two.0 same)
same_front mark (x ∷ a) [] r None one two is = absurd (cc is)
same_front mark (x ∷ a) [] r (Some s) one two is = let same : x ≡ mark = cc in absurd (one.0 same)
same_front mark (x ∷ a) (y ∷ b) r s one two is =
    let head : x ≡ y = cc in
    let tail : a ++ from_mark mark r ≡ b ++ from_mark mark s = cc in
    let it = same_front mark a b r s one.1 two.1 tail in
    let fronts : a ≡ b = it.0 in
    (cc (head, fronts), it.1)

pub cut_same : (mark : ℕ) (all a b : List ℕ) (r s : Option (List ℕ)) → CutsAt mark all a r → CutsAt mark all b s → (a ≡ b) × (r ≡ s)
cut_same mark all a b r s one two = same_front mark a b r s one.none two.none (sym one.written ∙ two.written)

pub none_append : (mark : ℕ) (a b : List ℕ) → HasNone mark a → HasNone mark b → HasNone mark (a ++ b)
none_append mark [] b one two = two
none_append mark (x ∷ a) b one two = (one.0, none_append mark a b one.1 two)

pub none_front : (mark : ℕ) (a b : List ℕ) → HasNone mark (a ++ b) → HasNone mark a
none_front mark [] b none = tt
none_front mark (x ∷ a) b none = (none.0, none_front mark a b none.1)

pub not_with_mark : (mark : ℕ) (a b : List ℕ) → HasNone mark (a ++ mark ∷ b) → ⊥
not_with_mark mark [] b none = none.0 refl
not_with_mark mark (x ∷ a) b none = not_with_mark mark a b none.1
