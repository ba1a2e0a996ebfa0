-- What the tags of the base language say: the value that is given, or its default.
use Rattle.std.specs.Prelude.{List, [], ◌∷◌, Option, Some, None}
use Rattle.sieve_syntax.specs.declared.tree.checks.Bound.{Bound}
use Rattle.sieve_syntax.specs.declared.tree.checks.Matching.{Matching}
use Rattle.sieve_syntax.specs.declared.tree.checks.Matching.TheVariants as M
use Rattle.sieve_syntax.specs.declared.tree.checks.AddressPart.{AddressPart}
use Rattle.sieve_syntax.specs.declared.tree.checks.AddressPart.TheVariants as H
use Rattle.sieve_syntax.specs.declared.tree.checks.Collation.{Collation}
use Rattle.sieve_syntax.specs.declared.tree.checks.Collation.TheVariants as C
use Rattle.sieve_syntax.specs.declared.table.tag_group.TagValue.{TagValue}
use Rattle.sieve_syntax.specs.declared.table.tag_group.TagValue.TheVariants as S

-- the side of a limit, if one is given
abbrev pub bound_in : List TagValue → Option Bound
bound_in [] = None
bound_in (S.Bound bound ∷ _) = Some bound
bound_in (_ ∷ more) = bound_in more

-- the comparator: `i;ascii-casemap` unless another is given (RFC 5228, 2.7.3)
abbrev pub comparator_in : List TagValue → Collation
comparator_in [] = C.AsciiCasemap
comparator_in (S.Comparator collation ∷ _) = collation
comparator_in (_ ∷ more) = comparator_in more

-- the match type: `:is` unless another is given (RFC 5228, 2.7.1)
abbrev pub matching_in : List TagValue → Matching
matching_in [] = M.Is
matching_in (S.Matching matching ∷ _) = matching
matching_in (_ ∷ more) = matching_in more

-- the part of an address: `:all` unless another is given (RFC 5228, 2.7.4)
abbrev pub part_in : List TagValue → AddressPart
part_in [] = H.All
part_in (S.Part part ∷ _) = part
part_in (_ ∷ more) = part_in more
