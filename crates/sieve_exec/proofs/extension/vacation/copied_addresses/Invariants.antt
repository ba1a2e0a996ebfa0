-- The addresses so far are copied.
use Rattle.std.proofs.Common.{◌≡◌, take}
use Rattle.sieve_exec.proofs.extension.vacation.copied_addresses.Given as goal

abbrev pub invariant-loop-address : goal.invariant-loop-address
invariant-loop-address l = l.copies ≡ take l.address-index l.addresses
