use Rattle.std.proofs.Common.{◌≡◌, length}
use Rattle.mail_head.specs.Heads.{body_of}
use Rattle.mail_parts.proofs.entity.entity_body.Given as goal

abbrev pub invariant-loop-rest : goal.invariant-loop-rest
invariant-loop-rest l = body_of l.rest ≡ body_of l.text

abbrev pub decreases-loop-rest : goal.decreases-loop-rest
decreases-loop-rest l = length l.rest
