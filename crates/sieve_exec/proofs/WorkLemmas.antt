-- What is left behind one piece of work and another.
use Rattle.std.proofs.Common.{◌≡◌, ℕ, ◌+◌, ◌<◌, Option, Some, None, arith}
use Rattle.sieve_exec.specs.Sizes.{IsLeft}

pub left_then : (before rest one other : ℕ) (last : Option ℕ) → rest + one ≡ before → IsLeft rest other last → IsLeft before (one + other) last
left_then before rest one other None paid more = omega (arith, paid, more)
left_then before rest one other (Some last) paid left = omega (arith, paid, left)

-- where values alone take too much
pub too_large : (before rest one octets keys : ℕ) → rest + one ≡ before → rest < octets → before < one + (octets + keys)
too_large before rest one octets keys paid more = omega (arith, paid, more)
