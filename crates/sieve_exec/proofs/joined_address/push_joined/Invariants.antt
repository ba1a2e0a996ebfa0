-- The addresses so far stand after those that were there.
use Rattle.std.proofs.Common.{◌≡◌, ◌++◌, take}
use Rattle.sieve_exec.proofs.joined_address.push_joined.Given as goal

abbrev pub invariant-loop-address : goal.invariant-loop-address
invariant-loop-address l = l.joined ≡ l.initial.joined ++ take l.address-index l.addresses
