use Rattle.std.proofs.Common.{◌≡◌, length}
use Rattle.mail_address.specs.Drafts.{empty_draft_at}
use Rattle.mail_address.specs.Reading.{addr_spec_only, pieces}
use Rattle.mail_address.proofs.outbound.addr_spec_only.Given as goal

abbrev pub invariant-loop-token : goal.invariant-loop-token
invariant-loop-token l = addr_spec_only l.draft (pieces l.rest) ≡ addr_spec_only (empty_draft_at l.fn.place) (pieces l.text)

abbrev pub decreases-loop-token : goal.decreases-loop-token
decreases-loop-token l = length l.rest
