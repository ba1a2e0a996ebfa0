use Rattle.std.proofs.Common.{◌≡◌, take, map, filter}
use Rattle.mail_flags.specs.Flags.{has}
use Rattle.mail_flags.specs.System.{all_system, flag_letter_of, flag_name_of}
use Rattle.mail_flags.proofs.flags.Flags.letters.Given as goal

abbrev pub invariant-loop-system : goal.invariant-loop-system
invariant-loop-system l = l.letters ≡ map flag_letter_of (filter (λ system. has l.self (flag_name_of system)) (take l.system-index all_system))
