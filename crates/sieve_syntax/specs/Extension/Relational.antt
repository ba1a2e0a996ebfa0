-- `relational`: the match types `:value` and `:count` (RFC 5231).
use Rattle.std.specs.Prelude.{ℕ, Bool, true, false, List, codes}
use Rattle.sieve_syntax.specs.declared.extension.relational.Relation.{Relation}
use Rattle.sieve_syntax.specs.declared.extension.relational.Relation.TheVariants as R
use Rattle.sieve_syntax.specs.declared.tree.checks.Matching.{Matching}
use Rattle.sieve_syntax.specs.declared.tree.checks.Matching.TheVariants.{Value, Count}

-- the name of a relation, by octets (RFC 5231, 4)
abbrev pub relation_name : Relation → List ℕ
relation_name R.Greater = codes "gt"
relation_name R.GreaterOrEqual = codes "ge"
relation_name R.Less = codes "lt"
relation_name R.LessOrEqual = codes "le"
relation_name R.Equal = codes "eq"
relation_name R.NotEqual = codes "ne"

-- a match type that only `relational` has (RFC 5231)
abbrev pub is_relational : Matching → Bool
is_relational (Value _) = true
is_relational (Count _) = true
is_relational _ = false
