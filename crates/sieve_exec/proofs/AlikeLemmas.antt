-- Keys with the same image match the same values.
use Rattle.std.proofs.Common.{◌≡◌, ◌==◌, ℕ, Bool, true, false, cond, ◌&&◌, ◌||◌, List, [], ◌∷◌, ◌++◌, map, nat_eq, refl, sym, ap, ◌∙◌, arith}
use Rattle.std.specs.List.{list_any}
use Rattle.std.specs.Bool.{Decides}
use Rattle.std.specs.Char.{to_ascii_uppercase}
use Rattle.std.specs.Cmp.Lexicographic.{pointwise, slice_cmp}
use Rattle.std.specs.BTreeSet.{BTreeSet, contains}
use Rattle.std.specs.Ordering.{nat_cmp}
use Rattle.std.proofs.lemmas.Bool.Decides.{same_from_decides, nat_tests}
use Rattle.std.proofs.lemmas.List.{map-id, map-append}
use Rattle.std.proofs.lemmas.Str.Ascii.{uppercase-uppercase}
use Rattle.sieve_match.specs.Comparators.{ContainsBy}
use Rattle.sieve_match.specs.Numbers.{number_at}
use Rattle.sieve_match.specs.Glob.{unquoted_item, items}
use Rattle.sieve_match.specs.declared.pattern.GlobItem.{GlobItem}
use Rattle.sieve_match.specs.declared.pattern.GlobItem.TheVariants.{Star, One, Exact}
use Rattle.sieve_syntax.specs.declared.tree.checks.Collation.{Collation}
use Rattle.sieve_syntax.specs.declared.tree.checks.Collation.TheVariants.{Octet, AsciiCasemap, AsciiNumeric}
use Rattle.sieve_syntax.specs.declared.tree.checks.Matching.{Matching}
use Rattle.sieve_syntax.specs.declared.tree.checks.Matching.TheVariants.{Is, Contains, Matches, Value, Count}
use Rattle.sieve_exec.specs.Images.{text_image, has_image, AreImages}
use Rattle.sieve_exec.specs.Extension.Relational.{relates}
use Rattle.sieve_exec.specs.Matches.{is_contained, is_globbed, some_end, matches_by_image, matches_key, matches_some}
use Rattle.sieve_exec.specs.Extension.Numeric.{matches_by_number}
use Rattle.sieve_exec.specs.Ready.{is_looked_up}
use Rattle.sieve_exec.proofs.Decisions.{decides_as}
use Rattle.sieve_exec.proofs.KeyLemmas.{any_same}
use Rattle.sieve_exec.proofs.MatchLemmas.{image_decides}

-- ---- texts that contain a key

module _ (image : ℕ → ℕ) (one other value : List ℕ) (same : map image one ≡ map image other) where
  around : (before after : List ℕ) → map image (before ++ one ++ after) ≡ map image (before ++ other ++ after)
  around before after =
      map-append image (before ++ one) after ∙ ap (λ l. l ++ map image after) (map-append image before one ∙ ap (λ l. map image before ++ l) same ∙ sym (map-append image before other))
      ∙ sym (map-append image (before ++ other) after)

  contained_alike : is_contained image one value ≡ is_contained image other value
  contained_alike =
      same_from_decides (is_contained image one value) (is_contained image other value) (image_decides image Contains one value)
      (decides_as _ (λ (before, (after, there)). (before, (after, there ∙ sym (around before after)))) (λ (before, (after, there)). (before, (after, there ∙ around before after))) (image_decides image Contains other value))

-- ---- patterns

abbrev item_image : (ℕ → ℕ) → GlobItem → GlobItem
item_image image Star = Star
item_image image One = One
item_image image (Exact octet) = Exact (image octet)

ends_alike : (one other : List ℕ → Bool) → ((text : List ℕ) → one text ≡ other text) → (text : List ℕ) → some_end one text ≡ some_end other text
ends_alike one other each [] = each []
ends_alike one other each (octet ∷ rest) = ap (λ b. b || some_end one rest) (each (octet ∷ rest)) ∙ ap (λ b. other (octet ∷ rest) || b) (ends_alike one other each rest)

-- items match what those of the images match
globbed_alike : (image : ℕ → ℕ) → ((octet : ℕ) → image (image octet) ≡ image octet) → (more : List GlobItem) (text : List ℕ) → is_globbed image more text ≡ is_globbed image (map (item_image image) more) text
unfolding is_globbed
globbed_alike image settled [] [] = refl
globbed_alike image settled [] (octet ∷ rest) = refl
globbed_alike image settled (Star ∷ more) text = ends_alike (is_globbed image more) (is_globbed image (map (item_image image) more)) (globbed_alike image settled more) text
globbed_alike image settled (One ∷ more) [] = refl
globbed_alike image settled (One ∷ more) (octet ∷ rest) = globbed_alike image settled more rest
globbed_alike image settled (Exact one ∷ more) [] = refl
globbed_alike image settled (Exact one ∷ more) (other ∷ rest) =
    ap (λ octet. (octet == image other) && is_globbed image more rest) (sym (settled one)) ∙ ap (λ b. (image (image one) == image other) && b) (globbed_alike image settled more rest)

upper_star : (octet : ℕ) → (to_ascii_uppercase octet == 42) ≡ (octet == 42)
upper_star octet = grind (arith, nat_tests)

upper_question : (octet : ℕ) → (to_ascii_uppercase octet == 63) ≡ (octet == 63)
upper_question octet = grind (arith, nat_tests)

upper_backslash : (octet : ℕ) → (to_ascii_uppercase octet == 92) ≡ (octet == 92)
upper_backslash octet = grind (arith, nat_tests)

unquoted_upper : (octet : ℕ) → unquoted_item (to_ascii_uppercase octet) ≡ item_image to_ascii_uppercase (unquoted_item octet)
unquoted_upper octet =
    ap (λ star. cond star Star (cond (to_ascii_uppercase octet == 63) One (Exact (to_ascii_uppercase octet)))) (upper_star octet)
    ∙ ap (λ question. cond (octet == 42) Star (cond question One (Exact (to_ascii_uppercase octet)))) (upper_question octet)
    ∙ split (octet == 42) (octet == 63)
  where
    split : (star question : Bool) → cond star Star (cond question One (Exact (to_ascii_uppercase octet))) ≡ item_image to_ascii_uppercase (cond star Star (cond question One (Exact octet)))
    split true question = refl
    split false true = refl
    split false false = refl

-- the items of an image are the images of the items
items_upper : (key : List ℕ) → items (map to_ascii_uppercase key) ≡ map (item_image to_ascii_uppercase) (items key)
unfolding items
items_upper [] = refl
items_upper (octet ∷ []) = ap (λ item. item ∷ []) (unquoted_upper octet)
items_upper (octet ∷ next ∷ rest) =
    ap (λ quoted. cond quoted (Exact (to_ascii_uppercase next) ∷ items (map to_ascii_uppercase rest)) (unquoted_item (to_ascii_uppercase octet) ∷ items (map to_ascii_uppercase (next ∷ rest)))) (upper_backslash octet)
    ∙ split (octet == 92) (items_upper rest) (items_upper (next ∷ rest))
  where
    split : (quoted : Bool) → items (map to_ascii_uppercase rest) ≡ map (item_image to_ascii_uppercase) (items rest) → items (map to_ascii_uppercase (next ∷ rest)) ≡ map (item_image to_ascii_uppercase) (items (next ∷ rest))
        → cond quoted (Exact (to_ascii_uppercase next) ∷ items (map to_ascii_uppercase rest)) (unquoted_item (to_ascii_uppercase octet) ∷ items (map to_ascii_uppercase (next ∷ rest)))
        ≡ map (item_image to_ascii_uppercase) (cond quoted (Exact next ∷ items rest) (unquoted_item octet ∷ items (next ∷ rest)))
    split true behind later = ap (λ l. Exact (to_ascii_uppercase next) ∷ l) behind
    split false behind later =
        ap (λ item. item ∷ items (map to_ascii_uppercase (next ∷ rest))) (unquoted_upper octet) ∙ ap (λ l. item_image to_ascii_uppercase (unquoted_item octet) ∷ l) later

patterns_alike : (one other value : List ℕ) → map to_ascii_uppercase one ≡ map to_ascii_uppercase other → is_globbed to_ascii_uppercase (items one) value ≡ is_globbed to_ascii_uppercase (items other) value
patterns_alike one other value same =
    globbed_alike to_ascii_uppercase uppercase-uppercase (items one) value
    ∙ ap (λ more. is_globbed to_ascii_uppercase more value) (sym (items_upper one) ∙ ap items same ∙ items_upper other)
    ∙ sym (globbed_alike to_ascii_uppercase uppercase-uppercase (items other) value)

-- ---- keys

same_text : (one other : List ℕ) → map (λ octet. octet) one ≡ map (λ octet. octet) other → one ≡ other
same_text one other same = sym (map-id one) ∙ same ∙ map-id other

upper_alike : (matching : Matching) (one other value : List ℕ) → map to_ascii_uppercase one ≡ map to_ascii_uppercase other
    → matches_by_image to_ascii_uppercase matching one value ≡ matches_by_image to_ascii_uppercase matching other value
upper_alike Is one other value same = ap (λ key. pointwise nat_eq key (map to_ascii_uppercase value)) same
upper_alike Contains one other value same = contained_alike to_ascii_uppercase one other value same
upper_alike Matches one other value same = patterns_alike one other value same
upper_alike (Value relation) one other value same = ap (λ key. relates relation (slice_cmp nat_cmp (map to_ascii_uppercase value) key)) same
upper_alike (Count relation) one other value same = ap (λ key. relates relation (slice_cmp nat_cmp (map to_ascii_uppercase value) key)) same

pub keys_alike : (collation : Collation) (matching : Matching) (value one other : List ℕ) → text_image collation one ≡ text_image collation other → matches_key collation matching one value ≡ matches_key collation matching other value
keys_alike Octet matching value one other same = ap (λ key. matches_by_image (λ octet. octet) matching key value) (same_text one other same)
keys_alike AsciiCasemap matching value one other same = upper_alike matching one other value same
keys_alike AsciiNumeric matching value one other same = ap (λ key. matches_by_number matching key value) (same_text one other same)

-- a look-up tells whether some key matches
pub looked_up : (collation : Collation) (matching : Matching) (keys : List (List ℕ)) (images : BTreeSet (List ℕ)) → is_looked_up collation matching ≡ true → AreImages collation keys images
    → (value : List ℕ) → contains (slice_cmp nat_cmp) images (text_image collation value) ≡ matches_some collation matching keys value
looked_up Octet Is keys images by_image are value = are (map (λ octet. octet) value)
looked_up AsciiCasemap Is keys images by_image are value = are (map to_ascii_uppercase value)
looked_up AsciiNumeric matching keys images by_image are value = let no : ⊥ = cc in absurd no
looked_up Octet Contains keys images by_image are value = let no : ⊥ = cc in absurd no
looked_up Octet Matches keys images by_image are value = let no : ⊥ = cc in absurd no
looked_up Octet (Value relation) keys images by_image are value = let no : ⊥ = cc in absurd no
looked_up Octet (Count relation) keys images by_image are value = let no : ⊥ = cc in absurd no
looked_up AsciiCasemap Contains keys images by_image are value = let no : ⊥ = cc in absurd no
looked_up AsciiCasemap Matches keys images by_image are value = let no : ⊥ = cc in absurd no
looked_up AsciiCasemap (Value relation) keys images by_image are value = let no : ⊥ = cc in absurd no
looked_up AsciiCasemap (Count relation) keys images by_image are value = let no : ⊥ = cc in absurd no
