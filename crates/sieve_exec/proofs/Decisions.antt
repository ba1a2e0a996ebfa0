-- Lemmas on tests and what they decide.
use Rattle.std.proofs.Common.{◌≡◌, Bool, true, false, cond, List, IfOk, Result, refl, sym, subst}
use Rattle.std.specs.Bool.{Decides, MatchBool}
use Rattle.std.specs.List.{list_any, list_all, Any, All}
use Rattle.std.proofs.lemmas.List.Folds.{Any-from_list_any, list_any-from_Any}
use Rattle.std.proofs.lemmas.Bool.Decides.{Decides-by_and}

-- a test decides what is as good as what it decides
pub decides_as : {P Q : Type 0} (r : Bool) → (P → Q) → (Q → P) → Decides r P → Decides r Q
decides_as r there back decides = (λ h. there (decides.0 h), λ q. decides.1 (back q))

-- whether some element passes
pub any_decides : {X : Type 0} (p : X → Bool) (P : X → Type 0) → ((x : X) → Decides (p x) (P x)) → (xs : List X) → Decides (list_any p xs) (Any P xs)
any_decides p P each xs =
    decides_as _
    (λ (k, x, below, is, passes). (k, x, below, is, (each x).0 passes))
    (λ (k, x, below, is, holds). (k, x, below, is, (each x).1 holds))
    (Any-from_list_any p xs, list_any-from_Any p xs)

-- whether each element passes
pub all_decides : {X : Type 0} (p : X → Bool) (P : X → Type 0) → ((x : X) → Decides (p x) (P x)) → (xs : List X) → Decides (list_all p xs) (All P xs)
all_decides p P each xs = Decides-by_and p P (list_all p) each refl (λ x xs. refl) xs

-- where values are counted, and where they aren't
pub counts_decides : (counts one other : Bool) (P Q : Type 0) → Decides one P → Decides other Q → Decides (cond counts one other) (MatchBool counts P Q)
counts_decides true one other P Q first second = first
counts_decides false one other P Q first second = second

-- ---- a test that counts, and one that doesn't

module _ {E : Type 0} (r : Result Bool E) (counts one other : Bool) where
  pub each_asked : counts ≡ false → IfOk r (λ holds. holds ≡ other) → IfOk r (λ holds. holds ≡ cond counts one other)
  each_asked off h = subst (λ b. IfOk r (λ holds. holds ≡ cond b one other)) (sym off) h

pub number_asked : (counts one other : Bool) → counts ≡ true → one ≡ cond counts one other
number_asked counts one other on = subst (λ b. one ≡ cond b one other) (sym on) refl

pub other_asked : (counts one : Bool) (here other : Bool) → counts ≡ false → here ≡ other → here ≡ cond counts one other
other_asked counts one here other off same = subst (λ b. here ≡ cond b one other) (sym off) same
