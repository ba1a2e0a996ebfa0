use Rattle.std.proofs.Common.{◌≡◌, drop}
use Rattle.maildir_moves.proofs.batch.mails_behind.Given as goal

abbrev pub invariant-loop-gone : goal.invariant-loop-gone
invariant-loop-gone l = l.left.items ≡ drop l._gone l.initial.left.items
