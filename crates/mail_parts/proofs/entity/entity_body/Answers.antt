use Rattle.std.proofs.Common.{◌∙◌}
use Rattle.mail_parts.proofs.HeaderFields.{body_later}
use Rattle.mail_parts.proofs.entity.entity_body.Goals as goal

pub loop-rest-preserved : goal.loop-rest-preserved
loop-rest-preserved c =
    body_later c.loop-rest.rest.now c.logical_line.result.0.now c.logical_line.result.1.now c.logical_line.ensures c.in_default.ensures ∙ c.loop-rest.invariant
