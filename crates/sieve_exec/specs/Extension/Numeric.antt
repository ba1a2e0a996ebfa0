-- `comparator-i;ascii-numeric`: values that are compared by the numbers that they begin with (RFC 4790, 9.1).
use Rattle.std.specs.Prelude.{ℕ, Bool, false, List, Option, Some, None}
use Rattle.std.specs.declared.cmp.Ordering.{Ordering}
use Rattle.std.specs.declared.cmp.Ordering.TheVariants.{Less, Equal, Greater}
use Rattle.std.specs.Ordering.{nat_cmp, is_eq}
use Rattle.sieve_match.specs.Numbers.{IsBelow, EqualNumbers, number_at}
use Rattle.sieve_syntax.specs.declared.tree.checks.Matching.{Matching}
use Rattle.sieve_syntax.specs.declared.tree.checks.Matching.TheVariants.{Is, Contains, Matches, Value, Count}
use Rattle.sieve_exec.specs.Extension.Relational.{Relates, relates}

-- a value matches a key by the numbers that they begin with, which have no parts; if values are counted, the value is their number
abbrev pub MatchesByNumber : Matching → List ℕ → List ℕ → Type 0
MatchesByNumber Is key value = EqualNumbers key value
MatchesByNumber Contains key value = ⊥
MatchesByNumber Matches key value = ⊥
MatchesByNumber (Value relation) key value = Relates relation IsBelow EqualNumbers value key
MatchesByNumber (Count relation) key value = Relates relation IsBelow EqualNumbers value key

-- the order of two numbers, where None is infinity
abbrev pub number_order : Option ℕ → Option ℕ → Ordering
number_order (Some one) (Some other) = nat_cmp one other
number_order (Some one) None = Less
number_order None (Some other) = Greater
number_order None None = Equal

-- whether a value matches a key by these numbers
abbrev pub matches_by_number : Matching → List ℕ → List ℕ → Bool
matches_by_number Is key value = is_eq (number_order (number_at key) (number_at value))
matches_by_number Contains key value = false
matches_by_number Matches key value = false
matches_by_number (Value relation) key value = relates relation (number_order (number_at value) (number_at key))
matches_by_number (Count relation) key value = relates relation (number_order (number_at value) (number_at key))
