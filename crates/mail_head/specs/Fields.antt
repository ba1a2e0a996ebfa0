-- Header fields (RFC 5322, section 2.2).
use Rattle.std.specs.Prelude.{◌≡◌, ◌≢◌, ℕ, ◌==◌, nat_le, Bool, true, cond, ◌&&◌, not, List, [], ◌∷◌, ◌++◌, drop, Option, None, Some, option_map, map}
use Rattle.std.specs.List.{list_all, prefix_len, take_while}
use Rattle.octets.specs.Ascii.{is_blank}
use Rattle.mail_head.specs.Lines.{without_end}
use Rattle.mail_head.specs.declared.header.Field.{Field}

-- 33 to 126 other than the colon
abbrev pub is_name : ℕ → Bool
is_name octet = nat_le 33 octet && (nat_le octet 126 && not (octet == 58))

-- the texts of a field
pub record FieldText : Type 0 where
  pub name : List ℕ
  pub raw : List ℕ

-- a logical line that is a field: a name, blanks, a colon, the raw value, the last line end
pub record IsField (line : List ℕ) (field : FieldText) : Type 0 where
  pub blanks : List ℕ
  pub after : List ℕ
  pub spelled : line ≡ field.name ++ (blanks ++ 58 ∷ after)
  pub present : field.name ≢ []
  pub name_octets : list_all is_name field.name ≡ true
  pub blank_octets : list_all is_blank blanks ≡ true
  pub value : field.raw ≡ without_end after

-- what follows a colon, if there is one
abbrev pub after_colon : List ℕ → Option (List ℕ)
after_colon [] = None
after_colon (octet ∷ rest) = cond (octet == 58) (Some rest) None

-- what follows the blanks
abbrev pub after_blanks : List ℕ → List ℕ
after_blanks text = drop (prefix_len is_blank text) text

-- what follows the name
abbrev pub after_field_name : List ℕ → List ℕ
after_field_name line = drop (prefix_len is_name line) line

-- the field that a logical line is, if it is one: the one that is in IsField with it
abbrev pub field_of : List ℕ → Option FieldText
field_of line =
    cond (prefix_len is_name line == 0) None
    (option_map (λ after. record { name = take_while is_name line; raw = without_end after })
    (after_colon (after_blanks (after_field_name line))))

-- the texts of a field that was read
abbrev pub field_text_of : Field → FieldText
field_text_of field = record { name = field.name.now; raw = field.raw.now }

-- the texts of the fields that were read
abbrev pub field_texts_of : List Field → List FieldText
field_texts_of fields = map field_text_of fields
