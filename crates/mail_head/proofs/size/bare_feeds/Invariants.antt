use Rattle.std.proofs.Common.{◌≡◌, ◌+◌, length}
use Rattle.mail_head.specs.Sizes.{bare_after, bare_in}
use Rattle.mail_head.proofs.size.bare_feeds.Given as goal

abbrev pub invariant-loop-rest : goal.invariant-loop-rest
invariant-loop-rest l = l.bare + bare_in l.rest ≡ bare_after 0 l.message

abbrev pub decreases-loop-rest : goal.decreases-loop-rest
decreases-loop-rest l = length l.rest
