-- Which texts of a part `:content` looks at (RFC 5173, section 5.2).
use Rattle.std.specs.Prelude.{ℕ, ◌==◌, Bool, true, false, not, cond, ◌&&◌, ◌||◌, Option, None, Some, List, [], ◌∷◌, ◌++◌, length, take}
use Rattle.std.specs.Str.{str_eq_ignore_ascii_case}
use Rattle.mail_head.specs.Lines.{lines_of}
use Rattle.mail_head.specs.Heads.{body_start}
use Rattle.mail_parts.specs.Sections.{section_of, epilogue_of}
use Rattle.mail_parts.specs.Parts.{is_multipart, is_message, is_identity, usable_boundary}
use Rattle.mail_parts.specs.declared.media_type.MediaType.{MediaType}
use Rattle.mail_parts.specs.declared.transfer_encoding.TransferEncoding.{TransferEncoding}
use Rattle.mail_parts.specs.declared.selection.ContentTexts.{ContentTexts}
use Rattle.mail_parts.specs.declared.selection.ContentTexts.TheVariants.{Around, Header, Body}

-- a type with its subtype
abbrev pub media_name : MediaType → List ℕ
media_name media = (media.kind ++ 47 ∷ []) ++ media.subtype

-- a content type selects every type if it is empty, and else one type with all of its subtypes, or one with its subtype. Neither is
-- empty or has a slash, so one that begins or ends with a slash, or has two, selects none
abbrev pub selects : MediaType → List ℕ → Bool
selects media wanted =
    length wanted == 0 || (str_eq_ignore_ascii_case wanted media.kind || str_eq_ignore_ascii_case wanted (media_name media))

-- what stands before the first boundary line of a multipart; all of it without a boundary
abbrev pub prologue_by : Option (List ℕ) → List ℕ → List ℕ
prologue_by None body = body
prologue_by (Some boundary) body = section_of boundary (lines_of body)

-- what stands behind its closing line
abbrev pub epilogue_in : Option (List ℕ) → List ℕ → List ℕ
epilogue_in None body = []
epilogue_in (Some boundary) body = epilogue_of boundary (lines_of body)

-- the header of a message, with the empty line that ends it
abbrev pub header_text : List ℕ → List ℕ
header_text message = take (body_start message) message

-- its prologue and its epilogue
abbrev pub texts_around : MediaType → List ℕ → List (List ℕ)
texts_around media body = prologue_by (usable_boundary media.boundary) body ∷ epilogue_in (usable_boundary media.boundary) body ∷ []

-- a message/rfc822 whose message can be read: the one that isn't encoded, as RFC 2046, section 5.2.1, wants it
abbrev pub is_open_message : MediaType → TransferEncoding → Bool
is_open_message media encoding = is_message media && is_identity encoding

-- the texts that are looked at: of a multipart its prologue and its epilogue, of a message/rfc822 that isn't encoded the header of the
-- message in it, of any other part its body, which is still encoded
abbrev pub texts_looked_at : MediaType → TransferEncoding → List ℕ → List (List ℕ)
texts_looked_at media encoding body =
    cond (is_multipart media) (texts_around media body) (cond (is_open_message media encoding) (header_text body ∷ []) (body ∷ []))

-- whether these texts have to be decoded first
abbrev pub are_encoded : MediaType → TransferEncoding → Bool
are_encoded media encoding = not (is_multipart media || is_open_message media encoding)

abbrev pub content_texts : ContentTexts → List (List ℕ)
content_texts (Around prologue epilogue) = prologue.now ∷ epilogue.now ∷ []
content_texts (Header text) = text.now ∷ []
content_texts (Body text) = text.now ∷ []

abbrev pub is_body : ContentTexts → Bool
is_body (Around prologue epilogue) = false
is_body (Header text) = false
is_body (Body text) = true
