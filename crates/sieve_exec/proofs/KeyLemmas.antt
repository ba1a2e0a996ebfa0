-- Values asked key by key, or keys value by value.
use Rattle.std.proofs.Common.{◌≡◌, ◌↔◌, IsTrue, ℕ, Bool, true, false, ◌||◌, length, slice_index, List, [], ◌∷◌, map, Option, Some, None, refl, sym, ap, ◌∙◌}
use Rattle.std.specs.List.{list_any, filter_map, cons_option}
use Rattle.sieve_syntax.specs.declared.tree.checks.Collation.{Collation}
use Rattle.sieve_syntax.specs.declared.tree.checks.Matching.{Matching}
use Rattle.std.specs.Char.{to_ascii_uppercase}
use Rattle.std.proofs.lemmas.Bool.Decides.{same_from_decides}
use Rattle.sieve_match.specs.Comparators.{ContainsBy}
use Rattle.sieve_match.specs.Places.{AreMasks}
use Rattle.sieve_match.specs.Search.{fits_key}
use Rattle.sieve_match.specs.declared.masks.Masks.{Masks}
use Rattle.sieve_syntax.specs.declared.tree.checks.Collation.TheVariants.{Octet, AsciiCasemap, AsciiNumeric}
use Rattle.sieve_syntax.specs.declared.tree.checks.Matching.TheVariants.{Is, Contains, Matches, Value, Count}
use Rattle.sieve_exec.specs.Matches.{matches_key, matches_some, part_matches}
use Rattle.sieve_exec.specs.Ready.{IsReady, some_passes}
use Rattle.sieve_exec.proofs.MatchLemmas.{image_decides}

pub none_pass : {X : Type 0} (xs : List X) → list_any (λ (x : X). false) xs ≡ false
none_pass [] = refl
none_pass (x ∷ xs) = none_pass xs

or_four : (a b c d : Bool) → ((a || b) || (c || d)) ≡ ((a || c) || (b || d))
or_four true b c d = refl
or_four false true true d = refl
or_four false true false d = refl
or_four false false c d = refl

any_or : {X : Type 0} (p q : X → Bool) (xs : List X) → list_any (λ x. p x || q x) xs ≡ (list_any p xs || list_any q xs)
any_or p q [] = refl
any_or p q (x ∷ xs) = ap (λ b. (p x || q x) || b) (any_or p q xs) ∙ or_four (p x) (q x) (list_any p xs) (list_any q xs)

-- some value passes with some key where some key does with some value
pub swapped : {X Y : Type 0} (test : X → Y → Bool) (xs : List X) (ys : List Y) → list_any (λ x. list_any (λ y. test x y) ys) xs ≡ list_any (λ y. list_any (λ x. test x y) xs) ys
swapped test [] ys = sym (none_pass ys)
swapped test (x ∷ xs) ys = ap (λ b. list_any (λ y. test x y) ys || b) (swapped test xs ys) ∙ sym (any_or (λ y. test x y) (λ y. list_any (λ z. test z y) xs) ys)

-- the parts that are there
pub any_part : {X : Type 0} (part : X → Option (List ℕ)) (test : List ℕ → Bool) (xs : List X) → list_any (λ x. some_passes test (part x)) xs ≡ list_any test (filter_map part xs)
any_part part test [] = refl
any_part part test (x ∷ xs) = split (part x) (any_part part test xs)
  where
    split : (found : Option (List ℕ)) → list_any (λ x. some_passes test (part x)) xs ≡ list_any test (filter_map part xs)
        → (some_passes test found || list_any (λ x. some_passes test (part x)) xs) ≡ list_any test (cons_option found (filter_map part xs))
    split None rest = rest
    split (Some one) rest = ap (λ b. test one || b) rest

-- a part that is there or not
pub part_passes : (collation : Collation) (matching : Matching) (keys : List (List ℕ)) (part : Option (List ℕ)) → part_matches collation matching keys part ≡ some_passes (matches_some collation matching keys) part
part_passes collation matching keys None = refl
part_passes collation matching keys (Some part) = refl

pub any_mapped : {X Y : Type 0} (test : Y → Bool) (f : X → Y) (xs : List X) → list_any (λ x. test (f x)) xs ≡ list_any test (map f xs)
any_mapped test f [] = refl
any_mapped test f (x ∷ xs) = ap (λ b. test (f x) || b) (any_mapped test f xs)

pub any_same : {X : Type 0} (p q : X → Bool) (xs : List X) → ((x : X) → p x ≡ q x) → list_any p xs ≡ list_any q xs
any_same p q [] each = refl
any_same p q (x ∷ xs) each = ap (λ b. b || list_any p xs) (each x) ∙ ap (λ b. q x || b) (any_same p q xs each)

-- a search by places tells whether the key matches
pub ready_contains : (collation : Collation) (matching : Matching) (key value : List ℕ) (places : Masks) (r : Bool) → IsReady collation matching key places
    → ((image : ℕ → ℕ) (k : List ℕ) → AreMasks (fits_key image (slice_index k)) (length k) places → IsTrue r ↔ ContainsBy image k value)
    → r ≡ matches_key collation matching key value
ready_contains Octet Contains key value places r ready found = same_from_decides _ _ (found (λ octet. octet) key ready) (image_decides (λ octet. octet) Contains key value)
ready_contains AsciiCasemap Contains key value places r ready found = same_from_decides _ _ (found to_ascii_uppercase key ready) (image_decides to_ascii_uppercase Contains key value)
ready_contains AsciiNumeric Contains key value places r ready found = absurd ready
ready_contains Octet Is key value places r ready found = absurd ready
ready_contains AsciiCasemap Is key value places r ready found = absurd ready
ready_contains AsciiNumeric Is key value places r ready found = absurd ready
ready_contains Octet Matches key value places r ready found = absurd ready
ready_contains AsciiCasemap Matches key value places r ready found = absurd ready
ready_contains AsciiNumeric Matches key value places r ready found = absurd ready
ready_contains Octet (Value relation) key value places r ready found = absurd ready
ready_contains AsciiCasemap (Value relation) key value places r ready found = absurd ready
ready_contains AsciiNumeric (Value relation) key value places r ready found = absurd ready
ready_contains Octet (Count relation) key value places r ready found = absurd ready
ready_contains AsciiCasemap (Count relation) key value places r ready found = absurd ready
ready_contains AsciiNumeric (Count relation) key value places r ready found = absurd ready
