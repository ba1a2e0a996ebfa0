use Rattle.std.proofs.Common.{◌≡◌, take}
use Rattle.mail_flags.proofs.TextLemmas.{behind}
use Rattle.mail_flags.proofs.flags.Flags.write.Given as goal

abbrev pub invariant-loop-name : goal.invariant-loop-name
invariant-loop-name l = l.text ≡ behind l.initial.text (take l.name-index l.more)
