-- The fields of the names so far are there.
use Rattle.std.proofs.Common.{◌≡◌, true, take}
use Rattle.sieve_exec.specs.Truth.{all_exist}
use Rattle.sieve_exec.proofs.mail.Mail.all_exist.Given as goal

abbrev pub invariant-loop-name : goal.invariant-loop-name
invariant-loop-name l = all_exist l.self (take l.name-index l.names) ≡ true
