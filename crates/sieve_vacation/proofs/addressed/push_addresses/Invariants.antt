use Rattle.std.proofs.Common.{◌≡◌, ◌++◌, map, take}
use Rattle.mail_address.specs.Spelling.{unquoted_address}
use Rattle.sieve_vacation.proofs.addressed.push_addresses.Given as goal

abbrev pub invariant-loop-address : goal.invariant-loop-address
invariant-loop-address l = l.found ≡ l.initial.found ++ map unquoted_address (take l.address-index l.more)
