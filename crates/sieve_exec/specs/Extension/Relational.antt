-- `relational`: values in a relation to a key, `:value`, and their number, `:count` (RFC 5231, 4).
use Rattle.std.specs.Prelude.{◌⊎◌, ℕ, Bool, true, false, List, map}
use Rattle.std.specs.Cmp.Lexicographic.{slice_cmp}
use Rattle.std.specs.declared.cmp.Ordering.{Ordering}
use Rattle.std.specs.Ordering.{nat_cmp, is_gt, is_ge, is_lt, is_le, is_eq, is_ne}
use Rattle.sieve_syntax.specs.declared.tree.checks.Matching.{Matching}
use Rattle.sieve_syntax.specs.declared.tree.checks.Matching.TheVariants.{Count}
use Rattle.sieve_syntax.specs.declared.extension.relational.Relation.{Relation}
use Rattle.sieve_syntax.specs.declared.extension.relational.Relation.TheVariants as R

-- a value is in a relation to a key, given an order and an equality (RFC 5231, 4)
abbrev pub Relates : Relation → (List ℕ → List ℕ → Type 0) → (List ℕ → List ℕ → Type 0) → List ℕ → List ℕ → Type 0
Relates R.Greater Before Same value key = Before key value
Relates R.GreaterOrEqual Before Same value key = Before key value ⊎ Same value key
Relates R.Less Before Same value key = Before value key
Relates R.LessOrEqual Before Same value key = Before value key ⊎ Same value key
Relates R.Equal Before Same value key = Same value key
Relates R.NotEqual Before Same value key = Same value key → ⊥

-- the order of a value and a key by images
abbrev pub order_by : (ℕ → ℕ) → List ℕ → List ℕ → Ordering
order_by image value key = slice_cmp nat_cmp (map image value) (map image key)

-- whether two values that are ordered like this are in a relation
abbrev pub relates : Relation → Ordering → Bool
relates R.Greater order = is_gt order
relates R.GreaterOrEqual order = is_ge order
relates R.Less order = is_lt order
relates R.LessOrEqual order = is_le order
relates R.Equal order = is_eq order
relates R.NotEqual order = is_ne order

-- whether values are counted
abbrev pub is_count : Matching → Bool
is_count (Count relation) = true
is_count _ = false
