use Rattle.std.proofs.Common.{◌≡◌, length}
use Rattle.std.specs.Prelude.{codes, option_copied}
use Rattle.mail_head.specs.Heads.{fields_of, body_of}
use Rattle.mail_parts.specs.Entities.{first_named}
use Rattle.mail_parts.specs.MediaTypes.{value_or}
use Rattle.mail_parts.proofs.entity.entity_head.Given as goal

abbrev pub invariant-fields : goal.invariant-fields
invariant-fields l = record {
  media_type : value_or (option_copied l.media_type) (first_named (codes "content-type") (fields_of l.rest)) ≡ first_named (codes "content-type") (fields_of l.text);
  encoding : value_or (option_copied l.encoding) (first_named (codes "content-transfer-encoding") (fields_of l.rest))
      ≡ first_named (codes "content-transfer-encoding") (fields_of l.text);
  body : body_of l.rest ≡ body_of l.text;
}

abbrev pub decreases-fields : goal.decreases-fields
decreases-fields l = length l.rest
