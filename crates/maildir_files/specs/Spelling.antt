-- How the characters of a name are written in a directory's name.
use Rattle.std.specs.Prelude.{◌≡◌, ℕ, Bool, true, false, ◌==◌, ◌&&◌, cond, List, [], ◌∷◌, ◌++◌, codes}
use Rattle.std.specs.Int.{w16, to_be_bytes}
use Rattle.std.specs.Char.Escape.{encode_utf16}
use Rattle.std.specs.Str.{chars}
use Rattle.base64.specs.Rfc4648.{encode}
use Rattle.base64.specs.GeneralPurpose.{engine_symbols, engine_config, config_padding}
use Rattle.base64.specs.declared.engine.general_purpose.GeneralPurpose.{GeneralPurpose}
use Rattle.octets.specs.Ascii.{is_printable}
use Rattle.maildir_files.specs.declared.separator.Separator.{Separator}
use Rattle.maildir_files.specs.declared.separator.Separator.TheVariants.{Dot, Slash}

-- the separator as an octet
abbrev pub separator_octet : Separator → ℕ
separator_octet Dot = 46
separator_octet Slash = 47

-- the 64 symbols of modified base64 (RFC 3501, section 5.1.3)
abbrev pub modified_symbols : List ℕ
modified_symbols = codes "ABCDEFGHIJKLMNOPQRSTUVWXYZabcdefghijklmnopqrstuvwxyz0123456789+,"

-- an engine with these symbols that writes no padding
pub record IsModified (engine : GeneralPurpose) : Type 0 where
  pub symbols : engine_symbols engine ≡ modified_symbols
  pub unpadded : config_padding (engine_config engine) ≡ false

-- octets in modified base64
abbrev pub modified_base64 : List ℕ → List ℕ
modified_base64 octets = encode modified_symbols 61 false octets

-- units of UTF-16 as octets, the high one of each first
abbrev pub high_first : List ℕ → List ℕ
high_first [] = []
high_first (unit ∷ more) = to_be_bytes w16 unit ++ high_first more

-- a character in UTF-16
abbrev pub utf16_of : ℕ → List ℕ
utf16_of character = high_first (encode_utf16 character)

-- what a text is written by: a character from 32 to 126, or the UTF-16 of a longest run of others
pub data NamePiece : Type 0 where
  Printable : ℕ → NamePiece
  Run : List ℕ → NamePiece

-- the UTF-16 of a character that isn't printable, before the pieces after it: part of the run there
abbrev pub before_pieces : List ℕ → List NamePiece → List NamePiece
before_pieces units [] = Run units ∷ []
before_pieces units (Printable character ∷ more) = Run units ∷ Printable character ∷ more
before_pieces units (Run others ∷ more) = Run (units ++ others) ∷ more

-- the pieces of a text's characters
abbrev pub pieces_of : List ℕ → List NamePiece
pieces_of [] = []
pieces_of (character ∷ more) =
    cond (is_printable character) (Printable character ∷ pieces_of more) (before_pieces (utf16_of character) (pieces_of more))

-- a character from 32 to 126, told whether it begins a level: the separator is `.`; the other one of `.` and `/`, `\`, and a `~`
-- that begins a level are escaped
abbrev pub character_spelling : Separator → Bool → ℕ → List ℕ
character_spelling separator begins character =
    cond (character == separator_octet separator) (codes ".")
    (cond (character == 46) (codes "\\2e")
    (cond (character == 47) (codes "\\2f")
    (cond (character == 92) (codes "\\5c")
    (cond (character == 38) (codes "&-")
    (cond (begins && character == 126) (codes "\\7e") (character ∷ []))))))

-- a run in modified base64, between `&` and `-`
abbrev pub shifted : List ℕ → List ℕ
shifted octets = codes "&" ++ (modified_base64 octets ++ codes "-")

-- a run as it is written, if there is one
abbrev pub run_spelled : List ℕ → List ℕ
run_spelled [] = []
run_spelled (octet ∷ more) = shifted (octet ∷ more)

-- a piece as it is written, told whether it begins a level
abbrev pub piece_spelling : Separator → Bool → NamePiece → List ℕ
piece_spelling separator begins (Printable character) = character_spelling separator begins character
piece_spelling separator begins (Run octets) = shifted octets

-- whether a piece is the separator, so that what follows begins a level
abbrev pub cuts : Separator → NamePiece → Bool
cuts separator (Printable character) = character == separator_octet separator
cuts separator (Run octets) = false

-- pieces as they are written, told whether the first one begins a level
abbrev pub piece_spellings : Separator → Bool → List NamePiece → List ℕ
piece_spellings separator begins [] = []
piece_spellings separator begins (piece ∷ more) = piece_spelling separator begins piece ++ piece_spellings separator (cuts separator piece) more

-- a text of whole levels as it is written
abbrev pub spelled_name : Separator → List ℕ → List ℕ
spelled_name separator text = piece_spellings separator true (pieces_of (chars text))

-- the directory that spells a name
abbrev pub spelled_directory : Separator → List ℕ → List ℕ
spelled_directory separator name = codes "." ++ spelled_name separator name
