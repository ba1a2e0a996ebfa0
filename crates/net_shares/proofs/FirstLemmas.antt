-- The first of a list that is changed stands at the place where it is found.
use Rattle.std.proofs.Common.{◌≡◌, ℕ, ◌+◌, ◌<◌, Bool, true, false, cond, if◌then◌else◌, List, [], ◌∷◌, length, Option, Some, None, unwrap_or, slice_get, slice_set, refl, sym, ◌∙◌, ap, subst, suc, arith}
use Rattle.std.specs.List.{position, position_from}
use Rattle.std.proofs.lemmas.Iterator.Adapters.{position_from-zero}
use Rattle.std.proofs.lemmas.List.Quantifiers.{position-Some}
use Rattle.net_shares.specs.Shares.{change_first}

module _ {X : Type 0} (which : X → Bool) (change : X → X) where
  -- there it is changed
  abbrev pub ChangesAt : List X → ℕ → Type 0
  ChangesAt xs at = (x : X) → slice_get xs at ≡ Some x → slice_set xs at (change x) ≡ change_first which change xs

  record Found (xs : List X) (start at : ℕ) : Type 0 where
    pub behind : ℕ
    pub count : at ≡ start + behind
    pub changes : ChangesAt xs behind

  here : (x y : X) (xs : List X) → Some x ≡ Some y → change y ∷ xs ≡ change x ∷ xs
  here x y xs is = ap (λ z. change z ∷ xs) (sym (ap (λ (o : Option X). unwrap_or o x) is))

  found_from : (xs : List X) (start at : ℕ) → position_from which start xs ≡ Some at → Found xs start at
  found_from [] start at is = let never : ◌≡◌ {A = Option ℕ} None (Some at) = is in cc
  found_from (x ∷ xs) start at is = by (which x) refl is (λ later. found_from xs (start + 1) at later)
    where
      by : (test : Bool) → which x ≡ test → cond test (Some start) (position_from which (start + 1) xs) ≡ Some at
          → (position_from which (start + 1) xs ≡ Some at → Found xs (start + 1) at) → Found (x ∷ xs) start at
      by true it same later = record {
        behind = 0;
        count = omega (arith, ap (λ (o : Option ℕ). unwrap_or o at) same);
        changes = λ y gets. here x y xs gets ∙ ap (λ b. if b then change x ∷ xs else x ∷ change_first which change xs) (sym it);
      }
      by false it same later =
          let more = later same in
          record {
            behind = suc more.behind;
            count = omega (arith, more.count);
            changes = λ y gets. ap (λ l. x ∷ l) (more.changes y gets) ∙ ap (λ b. if b then change x ∷ xs else x ∷ change_first which change xs) (sym it);
          }

  none_from : (xs : List X) (start : ℕ) → position_from which start xs ≡ None → change_first which change xs ≡ xs
  none_from [] start is = refl
  none_from (x ∷ xs) start is = by (which x) refl is (λ later. none_from xs (start + 1) later)
    where
      by : (test : Bool) → which x ≡ test → cond test (Some start) (position_from which (start + 1) xs) ≡ None
          → (position_from which (start + 1) xs ≡ None → change_first which change xs ≡ xs) → (if which x then change x ∷ xs else x ∷ change_first which change xs) ≡ x ∷ xs
      by true it same later = let never : Some start ≡ None = same in cc
      by false it same later = ap (λ b. if b then change x ∷ xs else x ∷ change_first which change xs) it ∙ ap (λ l. x ∷ l) (later same)

  pub changes_at : (xs : List X) (at : ℕ) → position which xs ≡ Some at → ChangesAt xs at
  changes_at xs at is =
      let found = found_from xs 0 at (sym (position_from-zero which xs) ∙ is) in
      let same : found.behind ≡ at = omega (arith, found.count) in
      subst (ChangesAt xs) same found.changes

  pub changes_none : (xs : List X) → position which xs ≡ None → change_first which change xs ≡ xs
  changes_none xs is = none_from xs 0 (sym (position_from-zero which xs) ∙ is)

  pub is_within : (xs : List X) (at : ℕ) → position which xs ≡ Some at → at < length xs
  is_within [] at is = let never : ◌≡◌ {A = Option ℕ} None (Some at) = is in cc
  is_within (x ∷ xs) at is = (position-Some which (x ∷ xs) at x is).0
