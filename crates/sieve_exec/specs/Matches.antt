-- Whether a value matches a key (RFC 5228, 2.7.1; RFC 5231), by a comparator (RFC 4790).
use Rattle.std.specs.Prelude.{◌==◌, ℕ, Bool, true, false, ◌&&◌, ◌||◌, nat_eq, decimal, List, [], ◌∷◌, map, Option, Some, None}
use Rattle.std.specs.List.{list_any, Any}
use Rattle.std.specs.Char.{to_ascii_uppercase}
use Rattle.std.specs.Cmp.Lexicographic.{pointwise}
use Rattle.sieve_match.specs.Comparators.{EqualBy, ContainsBy}
use Rattle.sieve_match.specs.Sorting.{ComesBefore}
use Rattle.sieve_match.specs.Glob.{items, Glob}
use Rattle.sieve_match.specs.declared.pattern.GlobItem.{GlobItem}
use Rattle.sieve_match.specs.declared.pattern.GlobItem.TheVariants.{Star, One, Exact}
use Rattle.sieve_syntax.specs.declared.tree.checks.Collation.{Collation}
use Rattle.sieve_syntax.specs.declared.tree.checks.Collation.TheVariants.{Octet, AsciiCasemap, AsciiNumeric}
use Rattle.sieve_syntax.specs.declared.tree.checks.Matching.{Matching}
use Rattle.sieve_syntax.specs.declared.tree.checks.Matching.TheVariants.{Is, Contains, Matches, Value, Count}
use Rattle.sieve_exec.specs.Extension.Numeric.{MatchesByNumber, matches_by_number}
use Rattle.sieve_exec.specs.Extension.Relational.{Relates, relates, order_by}

-- a value matches a key by the images of octets; if values are counted, the value is their number
abbrev pub MatchesByImage : (ℕ → ℕ) → Matching → List ℕ → List ℕ → Type 0
MatchesByImage image Is key value = EqualBy image key value
MatchesByImage image Contains key value = ContainsBy image key value
MatchesByImage image Matches key value = Glob image (items key) value
MatchesByImage image (Value relation) key value = Relates relation (ComesBefore image) (EqualBy image) value key
MatchesByImage image (Count relation) key value = Relates relation (ComesBefore image) (EqualBy image) value key

-- a value matches a key by a comparator
abbrev pub MatchesKey : Collation → Matching → List ℕ → List ℕ → Type 0
MatchesKey Octet = MatchesByImage (λ octet. octet)
MatchesKey AsciiCasemap = MatchesByImage to_ascii_uppercase
MatchesKey AsciiNumeric = MatchesByNumber

-- a value matches some key
abbrev pub MatchesSome : Collation → Matching → List (List ℕ) → List ℕ → Type 0
MatchesSome collation matching keys value = Any (λ key. MatchesKey collation matching key value) keys

-- whether the images of two texts are the same
abbrev pub is_equal : (ℕ → ℕ) → List ℕ → List ℕ → Bool
is_equal image key value = pointwise nat_eq (map image key) (map image value)

-- whether a text begins with the images of a key
abbrev pub begins_with_key : (ℕ → ℕ) → List ℕ → List ℕ → Bool
begins_with_key image [] value = true
begins_with_key image (octet ∷ rest) [] = false
begins_with_key image (one ∷ key) (other ∷ value) = (image one == image other) && begins_with_key image key value

-- whether some end of a text, from the whole to the empty one, passes
abbrev pub some_end : (List ℕ → Bool) → List ℕ → Bool
some_end passes [] = passes []
some_end passes (octet ∷ rest) = passes (octet ∷ rest) || some_end passes rest

-- whether the images of a key occur in those of a text
abbrev pub is_contained : (ℕ → ℕ) → List ℕ → List ℕ → Bool
is_contained image key value = some_end (begins_with_key image key) value

-- whether items match the whole text
unfoldable pub is_globbed : (ℕ → ℕ) → List GlobItem → List ℕ → Bool
is_globbed image [] [] = true
is_globbed image [] (octet ∷ rest) = false
is_globbed image (Star ∷ more) text = some_end (is_globbed image more) text
is_globbed image (One ∷ more) [] = false
is_globbed image (One ∷ more) (octet ∷ rest) = is_globbed image more rest
is_globbed image (Exact one ∷ more) [] = false
is_globbed image (Exact one ∷ more) (other ∷ rest) = (image one == image other) && is_globbed image more rest

-- whether a value matches a key: by images, and by a comparator
abbrev pub matches_by_image : (ℕ → ℕ) → Matching → List ℕ → List ℕ → Bool
matches_by_image image Is key value = is_equal image key value
matches_by_image image Contains key value = is_contained image key value
matches_by_image image Matches key value = is_globbed image (items key) value
matches_by_image image (Value relation) key value = relates relation (order_by image value key)
matches_by_image image (Count relation) key value = relates relation (order_by image value key)

abbrev pub matches_key : Collation → Matching → List ℕ → List ℕ → Bool
matches_key Octet = matches_by_image (λ octet. octet)
matches_key AsciiCasemap = matches_by_image to_ascii_uppercase
matches_key AsciiNumeric = matches_by_number

-- whether a value matches some key
abbrev pub matches_some : Collation → Matching → List (List ℕ) → List ℕ → Bool
matches_some collation matching keys value = list_any (λ key. matches_key collation matching key value) keys

-- whether a number in decimal matches a key
abbrev pub count_matches : Collation → Matching → List (List ℕ) → ℕ → Bool
count_matches collation matching keys count = matches_some collation matching keys (decimal count)

-- whether there is a part and it matches a key
abbrev pub part_matches : Collation → Matching → List (List ℕ) → Option (List ℕ) → Bool
part_matches collation matching keys None = false
part_matches collation matching keys (Some part) = matches_some collation matching keys part
