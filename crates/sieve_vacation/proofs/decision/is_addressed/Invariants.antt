use Rattle.std.proofs.Common.{◌≡◌, false, take}
use Rattle.std.specs.List.{list_any}
use Rattle.sieve_vacation.specs.Cases.{is_users, recipients_of}
use Rattle.sieve_vacation.proofs.decision.is_addressed.Given as goal

abbrev pub invariant-loop-one : goal.invariant-loop-one
invariant-loop-one l = list_any (is_users l.args l.mail l.own) (take l.one-index (recipients_of l.mail)) ≡ false
