-- Character sets: their names, and what octets in them are as UTF-8.
use Rattle.std.specs.Prelude.{ℕ, ◌==◌, nat_le, nat_lt, Bool, cond, ◌&&◌, Option, None, Some, List, [], ◌∷◌, take, drop, codes, encode_utf8_all}
use Rattle.std.specs.List.{list_all}
use Rattle.std.specs.Str.{is_utf8, str_eq_ignore_ascii_case}
use Rattle.mail_words.specs.declared.charset.Charset.{Charset}
use Rattle.mail_words.specs.declared.charset.Charset.TheVariants.{Ascii, Latin1, Utf8}

-- the part of ISO-8859 with this number, 1 to 16: of parts 2 to 16 only the octets below 128
abbrev pub iso_part_of : List ℕ → Option Charset
iso_part_of [] = None
iso_part_of (one ∷ []) = cond (one == 49) (Some Latin1) (cond (nat_le 50 one && nat_le one 57) (Some Ascii) None)
iso_part_of (ten ∷ one ∷ []) = cond (ten == 49 && (nat_le 48 one && nat_le one 54)) (Some Ascii) None
iso_part_of (ten ∷ one ∷ other ∷ more) = None

-- the character set with this name, ignoring ASCII case
abbrev pub charset_of : List ℕ → Option Charset
charset_of name =
    cond (str_eq_ignore_ascii_case name (codes "utf-8")) (Some Utf8)
    (cond (str_eq_ignore_ascii_case name (codes "us-ascii")) (Some Ascii)
    (cond (str_eq_ignore_ascii_case (take 9 name) (codes "iso-8859-")) (iso_part_of (drop 9 name)) None))

-- below 128
abbrev pub is_ascii : ℕ → Bool
is_ascii octet = nat_lt octet 128

-- octets of a character set as UTF-8, if they are valid in it
abbrev pub converted : Charset → List ℕ → Option (List ℕ)
converted Ascii octets = cond (list_all is_ascii octets) (Some octets) None
converted Latin1 octets = Some (encode_utf8_all octets)
converted Utf8 octets = cond (is_utf8 octets) (Some octets) None
