-- Whether some of what a list is made of passes.
use Rattle.std.proofs.Common.{◌≡◌, Bool, true, false, cond, ◌&&◌, ◌||◌, List, [], ◌∷◌, refl, ap, ◌∙◌}
use Rattle.std.specs.List.{filter, flat_map, list_any}
use Rattle.std.proofs.lemmas.List.Folds.{list_any-append}

pub any_kept : {X : Type 0} (p q : X → Bool) (xs : List X) → list_any p (filter q xs) ≡ list_any (λ x. q x && p x) xs
any_kept p q [] = refl
any_kept p q (x ∷ xs) =
    let more = any_kept p q xs in
    elim (q x) as (λ kept. list_any p (cond kept (x ∷ filter q xs) (filter q xs)) ≡ ((kept && p x) || list_any (λ y. q y && p y) xs)) [
      | true ↦ ap (λ b. p x || b) more
      | false ↦ more
    ]

pub any_joined : {X Y : Type 0} (p : Y → Bool) (f : X → List Y) (xs : List X) → list_any p (flat_map f xs) ≡ list_any (λ x. list_any p (f x)) xs
any_joined p f [] = refl
any_joined p f (x ∷ xs) = list_any-append p (f x) (flat_map f xs) ∙ ap (λ b. list_any p (f x) || b) (any_joined p f xs)
