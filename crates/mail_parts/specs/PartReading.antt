-- What is held of a part.
use Rattle.std.specs.Prelude.{◌≡◌, ℕ, ◌==◌, Bool, cond, Option, None, Some, List, [], ◌∷◌}
use Rattle.mail_head.specs.Heads.{body_of}
use Rattle.mail_parts.specs.Cutting.{sections_after}
use Rattle.mail_parts.specs.Entities.{entity_type, entity_encoding}
use Rattle.mail_parts.specs.Parts.{PartText, inner_texts}
use Rattle.mail_parts.specs.declared.media_type.MediaType.{MediaType}
use Rattle.mail_parts.specs.declared.transfer_encoding.TransferEncoding.{TransferEncoding}
use Rattle.mail_parts.specs.declared.sections.Sections.{Sections}

-- a body, a type and an encoding are those of an entity
pub record ReadsEntity (digest : Bool) (text body : List ℕ) (media : MediaType) (encoding : TransferEncoding) : Type 0 where
  pub body_read : body ≡ body_of text
  pub media_read : media ≡ entity_type digest text
  pub encoding_read : encoding ≡ entity_encoding text

-- the texts right below a part; none at the last level
abbrev pub texts_below : PartText → List (List ℕ)
texts_below part = cond (part.left == 0) [] (inner_texts part.digest part.text)

-- the section that a text begins with and those behind it, or without a boundary the text itself
abbrev pub texts_by : Option (List ℕ) → List ℕ → List (List ℕ)
texts_by None text = text ∷ []
texts_by (Some boundary) text = sections_after boundary text

-- the texts still to be read
abbrev pub texts_left : Sections → List (List ℕ)
texts_left sections = texts_by sections.boundary sections.text.now

abbrev pub maybe_texts : Option Sections → List (List ℕ)
maybe_texts None = []
maybe_texts (Some sections) = texts_left sections
