-- The keys of a test, and how they are prepared before they are compared with many values.
use Rattle.std.specs.Prelude.{◌≡◌, ℕ, Bool, true, false, List, length, slice_index, Option, Some, None}
use Rattle.std.specs.Char.{to_ascii_uppercase}
use Rattle.std.specs.Ordering.{nat_cmp}
use Rattle.std.specs.Cmp.Lexicographic.{slice_cmp}
use Rattle.std.specs.BTreeSet.{contains}
use Rattle.sieve_match.specs.Places.{AreMasks}
use Rattle.sieve_match.specs.Search.{fits_key}
use Rattle.sieve_match.specs.declared.masks.Masks.{Masks}
use Rattle.sieve_syntax.specs.declared.tree.checks.Collation.{Collation}
use Rattle.sieve_syntax.specs.declared.tree.checks.Collation.TheVariants.{Octet, AsciiCasemap, AsciiNumeric}
use Rattle.sieve_syntax.specs.declared.tree.checks.Matching.{Matching}
use Rattle.sieve_syntax.specs.declared.tree.checks.Matching.TheVariants.{Is, Contains}
use Rattle.sieve_exec.specs.Images.{text_image}
use Rattle.sieve_exec.specs.Matches.{matches_key, matches_some}
use Rattle.sieve_exec.specs.declared.ready_keys.AskedKeys.{AskedKeys}
use Rattle.sieve_exec.specs.declared.ready_keys.AskedKeys.TheVariants.{All, Distinct, Images}

-- a key, and how values are compared with it
pub record KeySpec : Type 0 where
  pub collation : Collation
  pub matching : Matching
  pub key : List ℕ

abbrev pub key_spec_of : Collation → Matching → List ℕ → KeySpec
key_spec_of collation matching key = record { collation = collation; matching = matching; key = key }

-- whether a value matches it
abbrev pub matches_of : KeySpec → List ℕ → Bool
matches_of one value = matches_key one.collation one.matching one.key value

-- the places are those of the key, which is searched for
abbrev pub IsReady : Collation → Matching → List ℕ → Masks → Type 0
IsReady Octet Contains key places = AreMasks (fits_key (λ octet. octet) (slice_index key)) (length key) places
IsReady AsciiCasemap Contains key places = AreMasks (fits_key to_ascii_uppercase (slice_index key)) (length key) places
IsReady AsciiNumeric Contains key places = ⊥
IsReady _ _ key places = ⊥

-- whether there is a text and it passes
abbrev pub some_passes : (List ℕ → Bool) → Option (List ℕ) → Bool
some_passes test None = false
some_passes test (Some text) = test text

-- the keys of a test, and how values are compared with them
pub record KeysSpec : Type 0 where
  pub collation : Collation
  pub matching : Matching
  pub keys : List (List ℕ)

abbrev pub keys_spec_of : Collation → Matching → List (List ℕ) → KeysSpec
keys_spec_of collation matching keys = record { collation = collation; matching = matching; keys = keys }

-- whether a value matches some of them
abbrev pub matches_some_of : KeysSpec → List ℕ → Bool
matches_some_of keys value = matches_some keys.collation keys.matching keys.keys value

-- whether a value matches a key exactly if they have the same image
abbrev pub is_looked_up : Collation → Matching → Bool
is_looked_up Octet Is = true
is_looked_up AsciiCasemap Is = true
is_looked_up _ _ = false

-- what is asked in place of the keys gives their answer for each value
abbrev pub IsAskedFor : KeysSpec → AskedKeys → Type 0
IsAskedFor keys All = Unit {0}
IsAskedFor keys (Distinct these) = (value : List ℕ) → matches_some keys.collation keys.matching these value ≡ matches_some_of keys value
IsAskedFor keys (Images images) = (value : List ℕ) → contains (slice_cmp nat_cmp) images (text_image keys.collation value) ≡ matches_some_of keys value
