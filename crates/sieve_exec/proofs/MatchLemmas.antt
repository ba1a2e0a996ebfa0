-- The tests of specs/Matches decide what a value and a key have to be.
use Rattle.std.proofs.Common.{◌≡◌, ◌≤◌, ℕ, zero, suc, Bool, true, false, ◌⊎◌, inl, inr, List, [], ◌∷◌, ◌++◌, length, drop, map, refl, sym, ap, arith}
use Rattle.std.specs.Bool.{Decides}
use Rattle.std.proofs.lemmas.Bool.Decides.{Decides-and, Decides-or, Decides-eqb}
use Rattle.std.proofs.lemmas.Slice.Eq.{bytes_eq-Decides}
use Rattle.std.specs.Char.{to_ascii_uppercase}
use Rattle.sieve_match.specs.Comparators.{ContainsBy}
use Rattle.sieve_match.specs.Numbers.{number_at}
use Rattle.sieve_match.specs.Glob.{items, Glob}
use Rattle.sieve_match.specs.declared.pattern.GlobItem.{GlobItem}
use Rattle.sieve_match.specs.declared.pattern.GlobItem.TheVariants.{Star, One, Exact}
use Rattle.sieve_syntax.specs.declared.tree.checks.Collation.{Collation}
use Rattle.sieve_syntax.specs.declared.tree.checks.Matching.{Matching}
use Rattle.sieve_syntax.specs.declared.tree.checks.Matching.TheVariants.{Is, Contains, Matches, Value, Count}
use Rattle.sieve_syntax.specs.declared.tree.checks.Collation.TheVariants.{Octet, AsciiCasemap, AsciiNumeric}
use Rattle.sieve_syntax.specs.declared.extension.relational.Relation.TheVariants as R
use Rattle.sieve_exec.specs.Matches.{MatchesByImage, MatchesKey, MatchesSome, begins_with_key, some_end, is_contained, is_globbed, matches_by_image, matches_key, matches_some}
use Rattle.sieve_exec.specs.Extension.Numeric.{MatchesByNumber, number_order, matches_by_number}
use Rattle.sieve_exec.specs.Extension.Relational.{order_by}
use Rattle.sieve_exec.proofs.Decisions.{decides_as, any_decides}
use Rattle.sieve_exec.proofs.OrderLemmas.{image_ranked, image_relates, number_ranked, number_relates}

-- the images of a key stand first in those of a text
abbrev BeginsBy : (ℕ → ℕ) → List ℕ → List ℕ → Type 0
BeginsBy image key value = (after : List ℕ) × (map image value ≡ map image (key ++ after))

first_same : (a b : ℕ) (x y : List ℕ) → a ∷ x ≡ b ∷ y → a ≡ b
first_same a b x y same = cc

rest_same : (a b : ℕ) (x y : List ℕ) → a ∷ x ≡ b ∷ y → x ≡ y
rest_same a b x y same = cc

both_same : (a b : ℕ) (x y : List ℕ) → a ≡ b → x ≡ y → a ∷ x ≡ b ∷ y
both_same a b x y one more = cc

nothing : {P : Type 0} (a : ℕ) (x : List ℕ) → [] ≡ a ∷ x → P
nothing a x same = absurd (let no : ⊥ = cc in no)

never : {P : Type 0} → false ≡ true → P
never same = absurd (let no : ⊥ = cc in no)

begins_decides : (image : ℕ → ℕ) (key value : List ℕ) → Decides (begins_with_key image key value) (BeginsBy image key value)
begins_decides image [] value = (λ h. (value, refl), λ begins. refl)
begins_decides image (one ∷ key) [] = (λ h. never h, λ (after, same). nothing (image one) (map image (key ++ after)) same)
begins_decides image (one ∷ key) (other ∷ value) =
    decides_as _
    (λ (first, (after, same)). (after, both_same _ _ _ _ (sym first) same))
    (λ (after, same). (sym (first_same _ _ _ _ same), (after, rest_same _ _ _ _ same)))
    (Decides-and _ _ (Decides-eqb (image one) (image other)) (begins_decides image key value))

-- the images of a key stand first in a text or in what follows its first octet
contained_later : (image : ℕ → ℕ) (key : List ℕ) (octet : ℕ) (rest : List ℕ) → BeginsBy image key (octet ∷ rest) ⊎ ContainsBy image key rest → ContainsBy image key (octet ∷ rest)
contained_later image key octet rest (inl (after, same)) = ([], (after, same))
contained_later image key octet rest (inr (before, (after, same))) = (octet ∷ before, (after, ap (λ l. image octet ∷ l) same))

contained_first : (image : ℕ → ℕ) (key : List ℕ) (octet : ℕ) (rest before after : List ℕ) → map image (octet ∷ rest) ≡ map image (before ++ key ++ after) → BeginsBy image key (octet ∷ rest) ⊎ ContainsBy image key rest
contained_first image key octet rest [] after same = inl (after, same)
contained_first image key octet rest (first ∷ before) after same = inr (before, (after, rest_same _ _ _ _ same))

contained_nowhere : (image : ℕ → ℕ) (key before after : List ℕ) → [] ≡ map image (before ++ key ++ after) → BeginsBy image key []
contained_nowhere image key [] after same = (after, same)
contained_nowhere image key (first ∷ before) after same = nothing _ _ same

contained_decides : (image : ℕ → ℕ) (key value : List ℕ) → Decides (is_contained image key value) (ContainsBy image key value)
contained_decides image key [] =
    decides_as _ (λ (after, same). ([], (after, same))) (λ (before, (after, same)). contained_nowhere image key before after same) (begins_decides image key [])
contained_decides image key (octet ∷ rest) =
    decides_as _ (contained_later image key octet rest) (λ (before, (after, same)). contained_first image key octet rest before after same)
    (Decides-or _ _ (begins_decides image key (octet ∷ rest)) (contained_decides image key rest))

-- some end of a text is what a test decides
abbrev AtSomeEnd : (List ℕ → Type 0) → List ℕ → Type 0
AtSomeEnd P text = (k : ℕ) × (k ≤ length text) × P (drop k text)

end_of_nothing : (P : List ℕ → Type 0) (k : ℕ) → k ≤ 0 → P (drop k []) → P []
end_of_nothing P zero below holds = holds
end_of_nothing P (suc k) below holds = absurd (omega arith)

end_later : (P : List ℕ → Type 0) (octet : ℕ) (rest : List ℕ) → P (octet ∷ rest) ⊎ AtSomeEnd P rest → AtSomeEnd P (octet ∷ rest)
end_later P octet rest (inl holds) = (0, omega arith, holds)
end_later P octet rest (inr (k, below, holds)) = (suc k, omega arith, holds)

end_first : (P : List ℕ → Type 0) (octet : ℕ) (rest : List ℕ) (k : ℕ) → k ≤ length (octet ∷ rest) → P (drop k (octet ∷ rest)) → P (octet ∷ rest) ⊎ AtSomeEnd P rest
end_first P octet rest zero below holds = inl holds
end_first P octet rest (suc k) below holds = inr (k, omega arith, holds)

some_end_decides : (passes : List ℕ → Bool) (P : List ℕ → Type 0) → ((text : List ℕ) → Decides (passes text) (P text)) → (text : List ℕ) → Decides (some_end passes text) (AtSomeEnd P text)
some_end_decides passes P each [] =
    decides_as _ (λ holds. (0, omega arith, holds)) (λ (k, below, holds). end_of_nothing P k below holds) (each [])
some_end_decides passes P each (octet ∷ rest) =
    decides_as _ (end_later P octet rest) (λ (k, below, holds). end_first P octet rest k below holds)
    (Decides-or _ _ (each (octet ∷ rest)) (some_end_decides passes P each rest))

globbed_decides : (image : ℕ → ℕ) (more : List GlobItem) (text : List ℕ) → Decides (is_globbed image more text) (Glob image more text)
unfolding is_globbed Glob
globbed_decides image [] [] = (λ h. refl, λ same. refl)
globbed_decides image [] (octet ∷ rest) = (λ h. never h, λ same. nothing octet rest (sym same))
globbed_decides image (Star ∷ more) text = some_end_decides (is_globbed image more) (Glob image more) (globbed_decides image more) text
globbed_decides image (One ∷ more) [] = (λ h. never h, λ none. absurd none)
globbed_decides image (One ∷ more) (octet ∷ rest) = globbed_decides image more rest
globbed_decides image (Exact one ∷ more) [] = (λ h. never h, λ none. absurd none)
globbed_decides image (Exact one ∷ more) (other ∷ rest) =
    Decides-and _ _ (Decides-eqb (image one) (image other)) (globbed_decides image more rest)

-- whether a value matches a key
pub image_decides : (image : ℕ → ℕ) (matching : Matching) (key value : List ℕ) → Decides (matches_by_image image matching key value) (MatchesByImage image matching key value)
image_decides image Is key value = bytes_eq-Decides (map image key) (map image value)
image_decides image Contains key value = contained_decides image key value
image_decides image Matches key value = globbed_decides image (items key) value
image_decides image (Value relation) key value = image_relates image relation value key (order_by image value key) (image_ranked image value key)
image_decides image (Count relation) key value = image_relates image relation value key (order_by image value key) (image_ranked image value key)

pub number_decides : (matching : Matching) (key value : List ℕ) → Decides (matches_by_number matching key value) (MatchesByNumber matching key value)
number_decides Is key value = number_relates R.Equal key value (number_order (number_at key) (number_at value)) (number_ranked key value)
number_decides Contains key value = (λ h. never h, λ none. absurd none)
number_decides Matches key value = (λ h. never h, λ none. absurd none)
number_decides (Value relation) key value = number_relates relation value key (number_order (number_at value) (number_at key)) (number_ranked value key)
number_decides (Count relation) key value = number_relates relation value key (number_order (number_at value) (number_at key)) (number_ranked value key)

matches_key_decides : (collation : Collation) (matching : Matching) (key value : List ℕ) → Decides (matches_key collation matching key value) (MatchesKey collation matching key value)
matches_key_decides Octet = image_decides (λ octet. octet)
matches_key_decides AsciiCasemap = image_decides to_ascii_uppercase
matches_key_decides AsciiNumeric = number_decides

-- whether a value matches some key
pub matches_some_decides : (collation : Collation) (matching : Matching) (keys : List (List ℕ)) (value : List ℕ) → Decides (matches_some collation matching keys value) (MatchesSome collation matching keys value)
matches_some_decides collation matching keys value =
    any_decides (λ key. matches_key collation matching key value) (λ key. MatchesKey collation matching key value)
    (λ key. matches_key_decides collation matching key value) keys
