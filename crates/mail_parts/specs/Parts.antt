-- The parts of a message (RFC 2046, sections 5.1 and 5.2.1).
use Rattle.std.specs.Prelude.{ℕ, zero, suc, ◌==◌, nat_le, nat_lt, Bool, true, false, cond, ◌&&◌, Option, None, Some, List, [], ◌∷◌, length, codes, bytes_eq}
use Rattle.std.specs.List.{flat_map}
use Rattle.octets.specs.Ascii.{trim_back}
use Rattle.mail_head.specs.Lines.{lines_of}
use Rattle.mail_head.specs.Heads.{body_of}
use Rattle.mail_parts.specs.Sections.{sections_of}
use Rattle.mail_parts.specs.Entities.{entity_type, entity_encoding}
use Rattle.mail_parts.specs.declared.limits.TheConstants.{MAX_BOUNDARY, MAX_NESTING}
use Rattle.mail_parts.specs.declared.media_type.MediaType.{MediaType}
use Rattle.mail_parts.specs.declared.transfer_encoding.TransferEncoding.{TransferEncoding}
use Rattle.mail_parts.specs.declared.transfer_encoding.TransferEncoding.TheVariants.{Identity, Base64, QuotedPrintable, Unknown}

-- a part: its text, header and body; whether it stands in a multipart/digest; how many levels of parts may lie below it
pub record PartText : Type 0 where
  pub text : List ℕ
  pub digest : Bool
  pub left : ℕ

abbrev pub is_multipart : MediaType → Bool
is_multipart media = bytes_eq media.kind (codes "multipart")

abbrev pub is_multipart_digest : MediaType → Bool
is_multipart_digest media = is_multipart media && bytes_eq media.subtype (codes "digest")

abbrev pub is_message : MediaType → Bool
is_message media = bytes_eq media.kind (codes "message") && bytes_eq media.subtype (codes "rfc822")

-- a boundary that may divide a multipart: neither empty nor too long
abbrev pub boundary_if_fit : List ℕ → Option (List ℕ)
boundary_if_fit boundary = cond (nat_lt 0 (length boundary) && nat_le (length boundary) MAX_BOUNDARY) (Some boundary) None

-- the boundary that divides a multipart: blanks at its end aren't part of it, since a boundary ends with another character, and blanks at
-- the end of a boundary line have to be deleted (RFC 2046, section 5.1.1)
abbrev pub usable_boundary : Option (List ℕ) → Option (List ℕ)
usable_boundary None = None
usable_boundary (Some boundary) = boundary_if_fit (trim_back boundary)

-- the sections of a multipart; none without a boundary
abbrev pub texts_between : Option (List ℕ) → List ℕ → List (List ℕ)
texts_between None body = []
texts_between (Some boundary) body = sections_of boundary (lines_of body)

abbrev pub is_identity : TransferEncoding → Bool
is_identity Identity = true
is_identity Base64 = false
is_identity QuotedPrintable = false
is_identity Unknown = false

-- the message in a message/rfc822, which may not be encoded (RFC 2046, section 5.2.1)
abbrev pub nested_message : TransferEncoding → List ℕ → List (List ℕ)
nested_message Identity body = body ∷ []
nested_message Base64 body = []
nested_message QuotedPrintable body = []
nested_message Unknown body = []

-- the texts of the parts that lie right below an entity; the encoding of a multipart counts for nothing (RFC 2045, section 6.4)
abbrev pub entity_texts : MediaType → TransferEncoding → List ℕ → List (List ℕ)
entity_texts media encoding body =
    cond (is_multipart media) (texts_between (usable_boundary media.boundary) body)
    (cond (is_message media) (nested_message encoding body) [])

unfoldable pub inner_texts : Bool → List ℕ → List (List ℕ)
inner_texts digest text = entity_texts (entity_type digest text) (entity_encoding text) (body_of text)

-- whether these are any
abbrev pub has_texts : List (List ℕ) → Bool
has_texts [] = false
has_texts (text ∷ more) = true

-- a part on the last level that has parts below, which aren't looked into
abbrev pub is_cut : PartText → Bool
is_cut part = part.left == 0 && has_texts (inner_texts part.digest part.text)

abbrev pub part_of : List ℕ → Bool → ℕ → PartText
part_of text digest left = record { text = text; digest = digest; left = left }

-- an entity and the parts below it, as they follow each other in the message, down to so many levels
unfoldable pub entity_parts : ℕ → Bool → List ℕ → List PartText
entity_parts zero digest text = part_of text digest zero ∷ []
entity_parts (suc left) digest text =
    part_of text digest (suc left) ∷ flat_map (λ inner. entity_parts left (is_multipart_digest (entity_type digest text)) inner) (inner_texts digest text)

-- the parts of a message, itself first
abbrev pub parts_of : List ℕ → List PartText
parts_of message = entity_parts MAX_NESTING false message
