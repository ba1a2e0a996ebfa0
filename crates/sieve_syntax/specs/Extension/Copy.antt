-- `copy`: the tag `:copy` of `fileinto` and `redirect` (RFC 3894).
use Rattle.std.specs.Prelude.{Bool, true, false, List, [], ◌∷◌}
use Rattle.sieve_syntax.specs.declared.table.tag_group.TagValue.{TagValue}
use Rattle.sieve_syntax.specs.declared.table.tag_group.TagValue.TheVariants as S

-- whether the implicit keep isn't cancelled (RFC 3894)
abbrev pub copy_in : List TagValue → Bool
copy_in [] = false
copy_in (S.Copy ∷ _) = true
copy_in (_ ∷ more) = copy_in more
