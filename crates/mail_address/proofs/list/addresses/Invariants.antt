use Rattle.std.proofs.Common.{◌≡◌, ◌++◌, length}
use Rattle.mail_address.specs.Drafts.{empty_draft}
use Rattle.mail_address.specs.Reading.{collected, pieces}
use Rattle.mail_address.proofs.list.addresses.Given as goal

abbrev pub invariant-loop-token : goal.invariant-loop-token
invariant-loop-token l = l.found.items ++ collected l.draft (pieces l.rest) ≡ collected empty_draft (pieces l.value)

abbrev pub decreases-loop-token : goal.decreases-loop-token
decreases-loop-token l = length l.rest
