use Rattle.std.proofs.Common.{ℕ, Option, List, ◌∙◌}
use Rattle.std.specs.Prelude.{codes, option_copied, option_map}
use Rattle.mail_head.specs.Fields.{FieldText, field_text_of}
use Rattle.mail_head.specs.Heads.{fields_of}
use Rattle.mail_parts.specs.Entities.{first_named}
use Rattle.mail_parts.proofs.HeaderFields.{found_more, body_later}
use Rattle.mail_parts.proofs.entity.entity_head.Goals as goal

pub fields-preserved : goal.fields-preserved
fields-preserved c =
    let rest : List ℕ = c.fields.rest.now in
    let line : List ℕ = c.logical_line.result.0.now in
    let after : List ℕ = c.logical_line.result.1.now in
    let field : Option FieldText = option_map field_text_of c.read_field-field.result in
    let type_name : List ℕ = codes "content-type" in
    let encoding_name : List ℕ = codes "content-transfer-encoding" in
    record {
      media_type =
          found_more type_name rest line after field (option_copied c.fields.media_type) (option_copied c.raw_if_named.result)
          (option_copied c.value_or-media_type.result) (first_named type_name (fields_of c.args.text.now)) c.logical_line.ensures c.in_default.ensures
          c.read_field-field.ensures c.raw_if_named.ensures c.value_or-media_type.ensures c.fields.invariant.media_type;
      encoding =
          found_more encoding_name rest line after field (option_copied c.fields.encoding) (option_copied c.raw_if_named-in-fields.result)
          (option_copied c.value_or-encoding.result) (first_named encoding_name (fields_of c.args.text.now)) c.logical_line.ensures c.in_default.ensures
          c.read_field-field.ensures c.raw_if_named-in-fields.ensures c.value_or-encoding.ensures c.fields.invariant.encoding;
      body = body_later rest line after c.logical_line.ensures c.in_default.ensures ∙ c.fields.invariant.body;
    }
