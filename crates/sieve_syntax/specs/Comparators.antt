-- How values may be matched: by which comparator, and with which match type (RFC 5228, 2.7).
use Rattle.std.specs.Prelude.{Bool, true, false, not}
use Rattle.sieve_syntax.specs.declared.tree.checks.Collation.{Collation}
use Rattle.sieve_syntax.specs.declared.tree.checks.Matching.{Matching}
use Rattle.sieve_syntax.specs.declared.tree.checks.Matching.TheVariants.{Contains, Matches}
use Rattle.sieve_syntax.specs.declared.capability.Capability.TheVariants as C
use Rattle.sieve_syntax.specs.Capabilities.{Capabilities, Permits}
use Rattle.sieve_syntax.specs.Extension.Numeric.{is_numeric}
use Rattle.sieve_syntax.specs.Extension.Relational.{is_relational}

-- a match type that looks for a part of the value
abbrev pub seeks_part : Matching → Bool
seeks_part Contains = true
seeks_part Matches = true
seeks_part _ = false

-- how values may be matched if this is granted: a number has no parts (RFC 4790, 9.1)
abbrev pub MayMatch : Capabilities → Collation → Matching → Type 0
MayMatch granted comparator matching =
    Permits (granted C.Relational) (is_relational matching) × Permits (granted C.AsciiNumeric) (is_numeric comparator)
    × Permits (not (is_numeric comparator)) (seeks_part matching)
