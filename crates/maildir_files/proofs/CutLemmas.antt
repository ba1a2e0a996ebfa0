-- A separator in what is written.
use Rattle.std.proofs.Common.{◌≡◌, ◌<◌, ℕ, Bool, true, false, cond, List, [], ◌∷◌, ◌++◌, codes, refl, sym, ◌∙◌, ap, append_assoc, arith}
use Rattle.std.proofs.lemmas.Str.{IsUtf8-append, chars-append, chars_past_char, encode_ascii}
use Rattle.std.specs.Prelude.{IsUtf8}
use Rattle.std.specs.Str.{chars}
use lib.Utf8.{encode}
use Rattle.octets.specs.Ascii.{is_printable}
use Rattle.maildir_files.specs.declared.separator.Separator.{Separator}
use Rattle.maildir_files.specs.declared.separator.Separator.TheVariants.{Dot, Slash}
use Rattle.maildir_files.specs.Spelling.{NamePiece, Printable, Run, before_pieces, cuts, separator_octet, piece_spelling, pieces_of, spelled_name, piece_spellings, utf16_of}

before_cut : (units : List ℕ) (pieces : List NamePiece) (character : ℕ) (more : List NamePiece)
    → before_pieces units (pieces ++ Printable character ∷ more) ≡ before_pieces units pieces ++ Printable character ∷ more
before_cut units [] character more = refl
before_cut units (Printable other ∷ pieces) character more = refl
before_cut units (Run others ∷ pieces) character more = refl

front_cut : (printable : Bool) (first : ℕ) (pieces : List NamePiece) (character : ℕ) (more : List NamePiece)
    → cond printable (Printable first ∷ (pieces ++ Printable character ∷ more)) (before_pieces (utf16_of first) (pieces ++ Printable character ∷ more))
    ≡ cond printable (Printable first ∷ pieces) (before_pieces (utf16_of first) pieces) ++ Printable character ∷ more
front_cut true first pieces character more = refl
front_cut false first pieces character more = before_cut (utf16_of first) pieces character more

cut_front : (separator : Separator) (rest : List ℕ) → pieces_of (separator_octet separator ∷ rest) ≡ Printable (separator_octet separator) ∷ pieces_of rest
cut_front Dot rest = refl
cut_front Slash rest = refl

cut_pieces : (separator : Separator) (front rest : List ℕ)
    → pieces_of (front ++ separator_octet separator ∷ rest) ≡ pieces_of front ++ Printable (separator_octet separator) ∷ pieces_of rest
cut_pieces separator [] rest = cut_front separator rest
cut_pieces separator (first ∷ front) rest =
    ap (λ pieces. cond (is_printable first) (Printable first ∷ pieces) (before_pieces (utf16_of first) pieces)) (cut_pieces separator front rest)
    ∙ front_cut (is_printable first) first (pieces_of front) (separator_octet separator) (pieces_of rest)

dot_between : (separator : Separator) (begins : Bool) (pieces : List NamePiece)
    → piece_spellings separator begins (Printable (separator_octet separator) ∷ pieces) ≡ codes "." ++ piece_spellings separator true pieces
dot_between Dot begins pieces = refl
dot_between Slash begins pieces = refl

spellings-cut : (separator : Separator) (begins : Bool) (xs ys : List NamePiece)
    → piece_spellings separator begins (xs ++ Printable (separator_octet separator) ∷ ys) ≡ piece_spellings separator begins xs ++ 46 ∷ piece_spellings separator true ys
spellings-cut separator begins [] ys = dot_between separator begins ys
spellings-cut separator begins (x ∷ xs) ys =
    let front = piece_spelling separator begins x in
    ap (λ text. front ++ text) (spellings-cut separator (cuts separator x) xs ys)
    ∙ sym (append_assoc front (piece_spellings separator (cuts separator x) xs) (46 ∷ piece_spellings separator true ys))

separator_scalar : (separator : Separator) → separator_octet separator < 128
separator_scalar Dot = omega arith
separator_scalar Slash = omega arith

separator_text : (separator : Separator) → IsUtf8 (separator_octet separator ∷ [])
unfolding encode
separator_text Dot = (46 ∷ [], (refl, refl))
separator_text Slash = (47 ∷ [], (refl, refl))

cut_chars : (separator : Separator) (front rest : List ℕ) → IsUtf8 front → IsUtf8 rest → chars (front ++ separator_octet separator ∷ rest) ≡ chars front ++ separator_octet separator ∷ chars rest
cut_chars separator front rest one two =
    let mark = separator_octet separator in
    let after : IsUtf8 (mark ∷ rest) = IsUtf8-append (mark ∷ []) rest (separator_text separator) two in
    chars-append front (mark ∷ rest) one
    ∙ ap (λ l. chars front ++ l) (chars_past_char (mark ∷ rest) rest mark after (ap (λ l. l ++ rest) (sym (encode_ascii mark (separator_scalar separator)))))

pub cut_spelled : (separator : Separator) (front rest : List ℕ) → IsUtf8 front → IsUtf8 rest
    → spelled_name separator (front ++ separator_octet separator ∷ rest) ≡ spelled_name separator front ++ 46 ∷ spelled_name separator rest
cut_spelled separator front rest one two =
    let before = pieces_of (chars front) in
    let after = pieces_of (chars rest) in
    ap (λ text. piece_spellings separator true (pieces_of text)) (cut_chars separator front rest one two)
    ∙ ap (piece_spellings separator true) (cut_pieces separator (chars front) (chars rest))
    ∙ spellings-cut separator true before after
