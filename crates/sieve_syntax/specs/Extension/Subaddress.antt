-- `subaddress`: the parts of a local part (RFC 5233).
use Rattle.std.specs.Prelude.{Bool, true, false}
use Rattle.sieve_syntax.specs.declared.tree.checks.AddressPart.{AddressPart}
use Rattle.sieve_syntax.specs.declared.tree.checks.AddressPart.TheVariants.{User, Detail}
use Rattle.sieve_syntax.specs.declared.capability.Capability.TheVariants as C
use Rattle.sieve_syntax.specs.Capabilities.{Capabilities, Permits}

-- a part of a local part, which only `subaddress` names (RFC 5233, 4)
abbrev pub is_subaddress : AddressPart → Bool
is_subaddress User = true
is_subaddress Detail = true
is_subaddress _ = false

-- a part of an address that may be named if this is granted
abbrev pub MayNamePart : Capabilities → AddressPart → Type 0
MayNamePart granted part = Permits (granted C.Subaddress) (is_subaddress part)
