-- A message's own name (RFC 5322, section 3.6.4).
use Rattle.std.specs.Prelude.{ℕ, Bool, nat_eq, List, Option, codes, option_map, take}
use Rattle.std.specs.Cmp.Lexicographic.{pointwise}
use Rattle.std.specs.List.{find}
use Rattle.octets.specs.Ascii.{lowered, trimmed}
use Rattle.mail_head.specs.Fields.{FieldText}
use Rattle.mail_head.specs.Heads.{fields_of, unfold_of}

-- a field of that name, in upper or lower case
abbrev pub is_id_field : FieldText → Bool
is_id_field field = pointwise nat_eq (lowered field.name) (codes "message-id")

-- its value on one line, without the blanks around it, and at most 250 octets of it
abbrev pub id_text : FieldText → List ℕ
id_text field = take 250 (trimmed (unfold_of field.raw))

-- what the first such field says, of those within the message's first 16,384 octets
abbrev pub logged_id : List ℕ → Option (List ℕ)
logged_id message = option_map id_text (find is_id_field (fields_of (take 16384 message)))
