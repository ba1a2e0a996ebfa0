-- The lines so far and those that are left are all the lines.
use Rattle.std.proofs.Common.{◌≡◌, ◌++◌, drop}
use Rattle.std.specs.List.{flat_map}
use Rattle.daemon_host.specs.Log.{moved_line}
use Rattle.daemon_host.proofs.log.of_mails.Given as goal

abbrev pub invariant-loop-mail : goal.invariant-loop-mail
invariant-loop-mail l = l.lines ++ flat_map (moved_line l.user l.folder) (drop l.mail-index l.mails) ≡ flat_map (moved_line l.user l.folder) l.mails
