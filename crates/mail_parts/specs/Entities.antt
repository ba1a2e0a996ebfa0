-- The header and the body of an entity: of the message or of a part (RFC 2045, section 2.4; RFC 2046, section 5.1).
use Rattle.std.specs.Prelude.{ℕ, Bool, cond, Option, None, Some, List, [], ◌∷◌, codes}
use Rattle.std.specs.Str.{str_eq_ignore_ascii_case}
use Rattle.mail_head.specs.Fields.{FieldText}
use Rattle.mail_head.specs.Heads.{fields_of}
use Rattle.mail_parts.specs.MediaTypes.{type_by}
use Rattle.mail_parts.specs.Encodings.{encoding_by}
use Rattle.mail_parts.specs.declared.media_type.MediaType.{MediaType}
use Rattle.mail_parts.specs.declared.transfer_encoding.TransferEncoding.{TransferEncoding}

-- the raw value of a field, if it has this name, in any case
abbrev pub raw_if_named : List ℕ → Option FieldText → Option (List ℕ)
raw_if_named name None = None
raw_if_named name (Some field) = cond (str_eq_ignore_ascii_case field.name name) (Some field.raw) None

-- the raw value of the first field with a name, in any case
abbrev pub first_named : List ℕ → List FieldText → Option (List ℕ)
first_named name [] = None
first_named name (field ∷ more) = cond (str_eq_ignore_ascii_case field.name name) (Some field.raw) (first_named name more)

-- what an entity is, by its first Content-Type
unfoldable pub entity_type : Bool → List ℕ → MediaType
entity_type digest text = type_by digest (first_named (codes "content-type") (fields_of text))

-- how an entity is encoded, by its first Content-Transfer-Encoding
unfoldable pub entity_encoding : List ℕ → TransferEncoding
entity_encoding text = encoding_by (first_named (codes "content-transfer-encoding") (fields_of text))
