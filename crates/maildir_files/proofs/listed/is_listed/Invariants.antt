use Rattle.std.proofs.Common.{◌≡◌, length}
use Rattle.maildir_files.specs.Listed.{is_listed}
use Rattle.maildir_files.proofs.listed.is_listed.Given as goal

abbrev pub invariant-loop-octet : goal.invariant-loop-octet
invariant-loop-octet l = is_listed l.name ≡ is_listed l.rest

abbrev pub decreases-loop-octet : goal.decreases-loop-octet
decreases-loop-octet l = length l.rest
