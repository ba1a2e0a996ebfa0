-- Lemmas on sets of capabilities, by the names that grant them.
use Rattle.std.proofs.Common.{◌≡◌, ◌<◌, ◌+◌, ◌||◌, ℕ, Bool, true, false, List, [], ◌∷◌, length, take, get_or, refl, sym, ap, ◌∙◌}
use Rattle.std.specs.Prelude.{nat_eq}
use Rattle.std.specs.List.{list_any}
use Rattle.std.specs.Cmp.Lexicographic.{pointwise}
use Rattle.std.proofs.lemmas.List.Folds.{list_any_more}
use Rattle.std.proofs.lemmas.Slice.Eq.{bytes_eq-Decides}
use Rattle.sieve_syntax.specs.declared.capability.Capability.{Capability}
use Rattle.sieve_syntax.specs.Capabilities.{granted_by, granted_too, is_name_of}

-- what is so of a name that is there is so of some name
any_there : (P : List ℕ → Bool) (name : List ℕ) (names : List (List ℕ)) → list_any (pointwise nat_eq name) names ≡ true → P name ≡ true → list_any P names ≡ true
any_there P name [] is holds = absurd (cc is)
any_there P name (other ∷ more) is holds =
    step (pointwise nat_eq name other) (list_any (pointwise nat_eq name) more) (P other) (list_any P more)
    (λ e. ap P (sym ((bytes_eq-Decides name other).0 e)) ∙ holds) (λ later. any_there P name more later holds) is
  where
    step : (same later this all : Bool) → (same ≡ true → this ≡ true) → (later ≡ true → all ≡ true) → (same || later) ≡ true → (this || all) ≡ true
    step true later true all one two is = refl
    step true later false all one two is = let bad : false ≡ true = one refl in absurd (cc bad)
    step false later true all one two is = refl
    step false later false all one two is = two is

-- a name that is there grants nothing more
pub granted_again : (name : List ℕ) (names : List (List ℕ)) → list_any (pointwise nat_eq name) names ≡ true → granted_by names ≡ granted_too (granted_by names) (name ∷ [])
granted_again name names is = λ i c. same c i
  where
    step : (all this : Bool) → (this ≡ true → all ≡ true) → all ≡ (all || (this || false))
    step true this now = refl
    step false true now = let bad : false ≡ true = now refl in absurd (cc bad)
    step false false now = refl

    same : (c : Capability) → granted_by names c ≡ granted_too (granted_by names) (name ∷ []) c
    same c = step (list_any (is_name_of c) names) (is_name_of c name) (any_there (is_name_of c) name names is)

-- no name grants anything more
pub granted_none : (before : Capability → Bool) → before ≡ granted_too before []
granted_none before = λ i c. same (before c) i
  where
    same : (b : Bool) → b ≡ (b || false)
    same true = refl
    same false = refl

-- one more of a row of names
pub granted_more : (before : Capability → Bool) (now next : List (List ℕ)) (names : List (List ℕ)) (k : ℕ) (name : List ℕ) → k < length names → name ≡ get_or names k name
    → granted_by now ≡ granted_too before (take k names) → granted_by next ≡ granted_too (granted_by now) (name ∷ []) → granted_by next ≡ granted_too before (take (k + 1) names)
granted_more before now next names k name within item was made = λ i c. same c i
  where
    regroup : (a b p : Bool) → ((a || b) || (p || false)) ≡ (a || (b || p))
    regroup true b p = refl
    regroup false true p = refl
    regroup false false true = refl
    regroup false false false = refl

    same : (c : Capability) → granted_by next c ≡ granted_too before (take (k + 1) names) c
    same c =
        ap (λ (g : Capability → Bool). g c) made
        ∙ ap (λ (g : Capability → Bool). g c || (is_name_of c name || false)) was
        ∙ regroup (before c) (list_any (is_name_of c) (take k names)) (is_name_of c name)
        ∙ ap (λ b. before c || b) (ap (λ n. list_any (is_name_of c) (take k names) || is_name_of c n) item ∙ sym (list_any_more (is_name_of c) names k name within))
