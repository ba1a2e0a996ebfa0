use Rattle.std.proofs.Common.{◌≡◌, take}
use Rattle.maildir_moves.proofs.batch.copy_mails.Given as goal

abbrev pub invariant-loop-mail : goal.invariant-loop-mail
invariant-loop-mail l = l.copies ≡ take l.mail-index l.mails
