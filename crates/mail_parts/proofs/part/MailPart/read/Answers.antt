use Rattle.std.proofs.Common.{ap, ◌∙◌}
use Rattle.mail_parts.specs.MediaTypes.{type_by}
use Rattle.mail_parts.specs.Encodings.{encoding_by}
use Rattle.mail_parts.specs.Entities.{entity_type, entity_encoding}
use Rattle.mail_parts.proofs.part.MailPart.read.Goals as goal

pub invariant_of-result : goal.invariant_of-result
unfolding entity_type entity_encoding
invariant_of-result c = record {
  body_read = c.entity_head-head.ensures.body;
  media_read = c.in_ok-media_type.ensures ∙ ap (type_by c.args.digest) c.entity_head-head.ensures.media_type;
  encoding_read = c.in_ok-encoding.ensures ∙ ap encoding_by c.entity_head-head.ensures.encoding;
}
