-- The reason of a `vacation` (RFC 5230, 4.4).
use Rattle.std.specs.Prelude.{◌≡◌, ℕ, ◌==◌, ◌&&◌, ◌||◌, nat_le, Bool, true, false, not, List, [], ◌∷◌, ◌++◌, take, codes, Option, Some, None, length, All}
use Rattle.std.specs.List.{list_all, list_any}
use Rattle.std.specs.Str.{IsUtf8}
use Rattle.mail_head.specs.Lines.{lines_of, is_empty_line, without_end, logical_lines, header_lines}
use Rattle.mail_head.specs.Fields.{FieldText, IsField, field_of}
use Rattle.sieve_syntax.specs.Lexemes.{same_name}
use Rattle.sieve_syntax.specs.declared.extension.vacation.VacationArgs.{VacationArgs}

-- at most 998 octets without its line end (RFC 5322, 2.1.1)
abbrev pub is_narrow : List ℕ → Bool
is_narrow line = nat_le (length (without_end line)) 998

-- no line of the text is longer
abbrev pub is_narrow_text : List ℕ → Bool
is_narrow_text text = list_all is_narrow (lines_of text)

-- the name of a MIME field, ignoring ASCII case (RFC 2045, 3): it begins with `Content-` or is `MIME-Version`
abbrev pub is_mime_name : List ℕ → Bool
is_mime_name name = (nat_le 8 (length name) && same_name (take 8 name) (codes "content-")) || same_name name (codes "mime-version")

-- there is a field and it has such a name
abbrev pub has_mime_name : Option FieldText → Bool
has_mime_name None = false
has_mime_name (Some field) = is_mime_name field.name

-- TAB, 32 to 126, and the octets of a line end
abbrev pub is_header_octet : ℕ → Bool
is_header_octet octet = octet == 9 || (octet == 10 || (octet == 13 || (nat_le 32 octet && nat_le octet 126)))

-- a logical line that has such a name and only such octets
abbrev pub is_mime_line : List ℕ → Bool
is_mime_line line = list_all is_header_octet line && has_mime_name (field_of line)

-- a MIME entity: a header of only such logical lines, an empty line, and anything
abbrev pub is_entity : List ℕ → Bool
is_entity text = list_any is_empty_line (lines_of text) && list_all is_mime_line (logical_lines (header_lines (lines_of text)))

-- a line of a header is that of a MIME field: a field with such a name, and only such octets
pub record IsMimeLine (line : List ℕ) : Type 0 where
  pub octets : All (λ octet. is_header_octet octet ≡ true) line
  pub field : FieldText
  pub form : IsField line field
  pub named : is_mime_name field.name ≡ true

-- the same as a relation: the lines of a text are those of a header, the first empty one and those of a body, and
-- each logical line of the header is that of a MIME field (RFC 2045, 3; RFC 5322, 2.1)
pub record IsEntity (text : List ℕ) : Type 0 where
  pub header : List (List ℕ)
  pub empty : List ℕ
  pub body : List (List ℕ)
  pub lines : lines_of text ≡ header ++ empty ∷ body
  pub full : All (λ line. is_empty_line line ≡ false) header
  pub ends : is_empty_line empty ≡ true
  pub fields : All IsMimeLine (logical_lines header)

-- CR and LF occur only as line ends, and no octet is NUL (RFC 5322, 2.3). A CR may precede the text
abbrev pub has_whole_lines : (after_cr : Bool) → List ℕ → Bool
has_whole_lines after_cr [] = not after_cr
has_whole_lines true (octet ∷ rest) = octet == 10 && has_whole_lines false rest
has_whole_lines false (octet ∷ rest) = not (octet == 0) && (not (octet == 10) && has_whole_lines (octet == 13) rest)

-- a reason that is permitted: it is UTF-8 in whole lines, none of them too long, and with `:mime` it is a MIME entity (RFC 5230, 4.4)
pub record IsReason (args : VacationArgs) : Type 0 where
  pub utf8 : IsUtf8 args.reason
  pub whole : has_whole_lines false args.reason ≡ true
  pub narrow : is_narrow_text args.reason ≡ true
  pub entity : args.mime ≡ true → is_entity args.reason ≡ true
