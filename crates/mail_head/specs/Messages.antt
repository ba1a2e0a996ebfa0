-- What a head holds.
use Rattle.std.specs.Prelude.{◌≡◌, ℕ, List}
use Rattle.mail_head.specs.Fields.{field_texts_of}
use Rattle.mail_head.specs.Heads.{fields_of, body_of}
use Rattle.mail_head.specs.declared.header.Field.{Field}

-- the fields of a message and its body
pub record ReadsMessage (message : List ℕ) (fields : List Field) (body : List ℕ) : Type 0 where
  pub fields_read : field_texts_of fields ≡ fields_of message
  pub body_read : body ≡ body_of message
