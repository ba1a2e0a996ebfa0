use Rattle.std.proofs.Common.{◌≡◌, take}
use Rattle.mail_flags.specs.Flags.{with_all_named}
use Rattle.mail_flags.proofs.flags.Flags.add.Given as goal

abbrev pub invariant-loop-text : goal.invariant-loop-text
invariant-loop-text l = l.self ≡ with_all_named l.initial.self (take l.text-index l.texts)
