-- A message's fields and their places, its body, its size, and unfolding (RFC 5322, section 2.2).
use Rattle.std.specs.Prelude.{ℕ, ◌+◌, ◌-◌, ◌==◌, cond, ◌&&◌, not, List, [], ◌∷◌, ◌++◌, length, Option, None, Some, filter_map, slice_range}
use Rattle.std.specs.List.{concat}
use Rattle.mail_head.specs.Lines.{is_feed, lines_of, first_is_folded, logical_lines, header_lines, body_lines, end_len, without_end}
use Rattle.mail_head.specs.Fields.{FieldText, field_of}

-- the logical lines of a message's header
abbrev pub header_of : List ℕ → List (List ℕ)
header_of message = logical_lines (header_lines (lines_of message))

-- the fields of a message, in order
abbrev pub fields_of : List ℕ → List FieldText
fields_of message = filter_map field_of (header_of message)

-- what follows the first empty line
abbrev pub body_of : List ℕ → List ℕ
body_of message = concat (body_lines (lines_of message))

-- how many octets follow this one, each LF without CR right before it counted twice
abbrev pub size_after : ℕ → List ℕ → ℕ
size_after before [] = 0
size_after before (octet ∷ rest) = cond (is_feed octet && not (before == 13)) 2 1 + size_after octet rest

-- the octets of a message, and one more for each LF without CR right before it
abbrev pub size_of : List ℕ → ℕ
size_of message = size_after 0 message

-- the text of these lines without each line end that a blank follows
abbrev pub unfolded_lines : List (List ℕ) → List ℕ
unfolded_lines [] = []
unfolded_lines (line ∷ more) = cond (first_is_folded more) (without_end line) line ++ unfolded_lines more

-- a raw value without each line end that a blank follows
abbrev pub unfold_of : List ℕ → List ℕ
unfold_of raw = unfolded_lines (lines_of raw)

-- the ranges of the two parts of a field, in octets counted from the first one of the message
pub record FieldPlace : Type 0 where
  pub name_start : ℕ
  pub name_end : ℕ
  pub raw_start : ℕ
  pub raw_end : ℕ

-- the name is first in its line, and the raw value is right before the last line end
abbrev pub place_in : ℕ → List ℕ → FieldText → FieldPlace
place_in start line field =
    let end = start + (length line - end_len line) in
    record {
      name_start = start;
      name_end = start + length field.name;
      raw_start = end - length field.raw;
      raw_end = end;
    }

-- the place of the field that this line is, if it is one, before the others
abbrev pub with_place : ℕ → List ℕ → Option FieldText → List FieldPlace → List FieldPlace
with_place start line None others = others
with_place start line (Some field) others = place_in start line field ∷ others

-- the places of the fields among logical lines, the first of which starts here
abbrev pub places_from : ℕ → List (List ℕ) → List FieldPlace
places_from start [] = []
places_from start (line ∷ more) = with_place start line (field_of line) (places_from (start + length line) more)

-- the places of a message's fields, in order
abbrev pub places_of : List ℕ → List FieldPlace
places_of message = places_from 0 (header_of message)

-- the texts of a message at the places of a field
abbrev pub text_at : List ℕ → FieldPlace → FieldText
text_at message place =
    record {
      name = slice_range message place.name_start place.name_end;
      raw = slice_range message place.raw_start place.raw_end;
    }

-- the octet of a message at which the body starts
abbrev pub body_start : List ℕ → ℕ
body_start message = length message - length (body_of message)
