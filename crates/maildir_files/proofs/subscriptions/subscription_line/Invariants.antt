-- The octets so far are written.
use Rattle.std.proofs.Common.{◌≡◌, map, take}
use Rattle.maildir_files.specs.Subscriptions.{level_octet}
use Rattle.maildir_files.proofs.subscriptions.subscription_line.Given as goal

abbrev pub invariant-loop-octet : goal.invariant-loop-octet
invariant-loop-octet l = l.line ≡ map (level_octet l.tabs) (take l.octet-index l.directory)
