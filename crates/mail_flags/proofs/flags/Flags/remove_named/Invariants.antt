use Rattle.std.proofs.Common.{◌≡◌, fold, length}
use Rattle.mail_flags.specs.Flags.{without_one, between_blanks}
use Rattle.mail_flags.proofs.flags.Flags.remove_named.Given as goal

abbrev pub invariant-loop-name : goal.invariant-loop-name
invariant-loop-name l = fold without_one l.self (between_blanks l.rest) ≡ fold without_one l.initial.self (between_blanks l.initial.rest)

abbrev pub decreases-loop-name : goal.decreases-loop-name
decreases-loop-name l = length l.rest
