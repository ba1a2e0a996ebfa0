-- `vacation-seconds`: the tag `:seconds` of `vacation` (RFC 6131).
use Rattle.std.specs.Prelude.{◌||◌, ℕ, Bool, List, [], ◌∷◌, Option, Some, None}
use Rattle.sieve_syntax.specs.declared.table.tag_group.TagValue.{TagValue}
use Rattle.sieve_syntax.specs.declared.table.tag_group.TagValue.TheVariants as S
use Rattle.sieve_syntax.specs.declared.capability.Capability.TheVariants as C
use Rattle.sieve_syntax.specs.Capabilities.{Capabilities}

-- its seconds, if they are given
abbrev pub seconds_in : List TagValue → Option ℕ
seconds_in [] = None
seconds_in (S.Seconds seconds ∷ _) = Some seconds
seconds_in (_ ∷ more) = seconds_in more

-- `vacation` may be used: `vacation-seconds` implies it (RFC 6131, 2)
abbrev pub may_use_vacation : Capabilities → Bool
may_use_vacation granted = granted C.Vacation || granted C.VacationSeconds
