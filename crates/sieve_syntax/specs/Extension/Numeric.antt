-- `comparator-i;ascii-numeric`: texts as numbers (RFC 4790, 9.1).
use Rattle.std.specs.Prelude.{Bool, true, false}
use Rattle.sieve_syntax.specs.declared.tree.checks.Collation.{Collation}
use Rattle.sieve_syntax.specs.declared.tree.checks.Collation.TheVariants.{AsciiNumeric}

-- the comparator that has to be required (RFC 5228, 2.7.3)
abbrev pub is_numeric : Collation → Bool
is_numeric AsciiNumeric = true
is_numeric _ = false
