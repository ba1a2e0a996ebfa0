-- What is written tells the name: the characters come back from it, piece by piece.
use Rattle.std.proofs.Common.{◌≡◌, ◌≤◌, ◌<◌, ◌+◌, ◌-◌, ◌*◌, ◌/◌, ◌%◌, ℕ, zero, suc, ◌==◌, nat_lt, nat_le, Bool, true, false, cond, ◌&&◌, not, List, [], ◌∷◌, ◌++◌, drop, codes, Option, Some, None, Ok, ◌⊎◌, inl, inr, refl, sym, ◌∙◌, ap, append_assoc, arith}
use Rattle.std.proofs.Math.Utf8.{encodes, scalar, scalars, scalar_cases}
use Rattle.std.proofs.lemmas.Bool.{and_parts, eqb-true, false≢true, lt-leb, le-leb, le-ltb, lt-ltb, ltb-true, ltb-false}
use Rattle.std.proofs.lemmas.Str.{encodes-chars, scalars-chars, IsUtf8-from_is_utf8}
use Rattle.std.specs.Str.{chars, IsUtf8}
use Rattle.std.specs.List.{list_all, AllByRecursion}
use Rattle.std.specs.Prelude.{slice_index}
use Rattle.base64.specs.Rfc4648.{encode_symbols}
use Rattle.base64.specs.Decode.{decoded_bytes}
use Rattle.base64.specs.Tables.{are_tables}
use Rattle.base64.specs.declared.engine.DecodePaddingMode.TheVariants.{Indifferent}
use Rattle.base64.proofs.RoundTrip.{decode-encode}
use Rattle.hex.specs.Hex.{decode_of, encode_lower}
use Rattle.hex.proofs.HexLemmas.{decode_of-encode_lower}
use Rattle.sha2.specs.Sha256.{sha256}
use Rattle.octets.specs.Ascii.{is_printable}
use Rattle.maildir_files.specs.declared.separator.Separator.{Separator}
use Rattle.maildir_files.specs.Directory.{MayShare, digest_form, directory, with_inbox_folded, has_form, is_digest, is_inbox}
use Rattle.maildir_files.specs.Levels.{has_levels}
use Rattle.maildir_files.specs.Spelling.{NamePiece, Printable, Run, before_pieces, cuts, high_first, modified_base64, modified_symbols, separator_octet, piece_spelling, pieces_of, spelled_name, piece_spellings, utf16_of, spelled_directory}
use Rattle.maildir_files.proofs.KeptLemmas.{AreSmall, IsSound, AreSound, digest_is, digest_small, modified_passes, pieces_sound}
use Rattle.maildir_files.proofs.NameLemmas.{form_levels, form_own, form_text, own_no_digest}

-- ---- base64 comes back

-- at which place a symbol stands, counted on from k; 255 where it is none
place_of : ℕ → ℕ → List ℕ → ℕ
place_of octet k [] = 255
place_of octet k (symbol ∷ more) = cond (octet == symbol) k (place_of octet (suc k) more)

places : ℕ → ℕ → List ℕ
places zero octet = []
places (suc n) octet = place_of octet 0 modified_symbols ∷ places n (suc octet)

-- the value of each octet as a symbol
values : List ℕ
values = places 256 0

values_inverse : are_tables modified_symbols values 61 ≡ true
unfolding values places place_of
values_inverse = refl

small_at : (octets : List ℕ) → AreSmall octets → (i : ℕ) → slice_index octets i < 256
small_at [] are i = omega arith
small_at (octet ∷ rest) are zero = are.0
small_at (octet ∷ rest) are (suc i) = small_at rest are.1 i

abbrev decoded : List ℕ → List ℕ
decoded text = decoded_bytes values 61 text

base64_back : (octets : List ℕ) → AreSmall octets → decoded (modified_base64 octets) ≡ octets
base64_back octets are = (decode-encode modified_symbols values octets 61 false Indifferent false values_inverse (small_at octets are) tt).1

nothing_back : decoded [] ≡ []
unfolding encode_symbols
nothing_back = base64_back [] tt

-- ---- one of many is read from the front

-- where each one that is written is read back from the front, with what stands behind it, two lists that are written alike are the same
module _ {X : Type 0} (Sound : X → Type 0) (written_one : X → List ℕ) (written_all : List X → List ℕ) (read_one : List ℕ → Option (X × List ℕ))
    (nothing : read_one (written_all []) ≡ None) (first : (x : X) (more : List X) → written_all (x ∷ more) ≡ written_one x ++ written_all more)
    (back : (x : X) (rest : List ℕ) → Sound x → read_one (written_one x ++ rest) ≡ Some (x, rest)) where
  front_read : (x : X) (more : List X) → Sound x → read_one (written_all (x ∷ more)) ≡ Some (x, written_all more)
  front_read x more sound = ap read_one (first x more) ∙ back x (written_all more) sound

  alike : (xs ys : List X) → AllByRecursion Sound xs → AllByRecursion Sound ys → written_all xs ≡ written_all ys → xs ≡ ys
  alike [] [] one two same = refl
  alike [] (y ∷ ys) one two same = absurd (let e : ◌≡◌ {A = Option (X × List ℕ)} None (Some (y, written_all ys)) = sym nothing ∙ ap read_one same ∙ front_read y ys two.0 in cc)
  alike (x ∷ xs) [] one two same = absurd (let e : ◌≡◌ {A = Option (X × List ℕ)} None (Some (x, written_all xs)) = sym nothing ∙ ap read_one (sym same) ∙ front_read x xs one.0 in cc)
  alike (x ∷ xs) (y ∷ ys) one two same =
      let e : ◌≡◌ {A = Option (X × List ℕ)} (Some (x, written_all xs)) (Some (y, written_all ys)) = sym (front_read x xs one.0) ∙ ap read_one same ∙ front_read y ys two.0 in
      let pair : ◌≡◌ {A = X × List ℕ} (x, written_all xs) (y, written_all ys) = cc in
      let heads : x ≡ y = ap (λ (p : X × List ℕ). p.0) pair in
      let tails : written_all xs ≡ written_all ys = ap (λ (p : X × List ℕ). p.1) pair in
      ap (λ z. z ∷ xs) heads ∙ ap (λ l. y ∷ l) (alike xs ys one.1 two.1 tails)

-- ---- one piece is read

-- what stands before the first `-`, and what behind it
abbrev until : List ℕ → List ℕ × List ℕ
until [] = ([], [])
until (octet ∷ rest) = cond (octet == 45) ([], rest) (octet ∷ (until rest).0, (until rest).1)

-- the piece between `&` and `-`
abbrev coded : List ℕ → NamePiece
coded [] = Printable 38
coded (symbol ∷ more) = Run (decoded (symbol ∷ more))

-- what stands behind `\`
abbrev read_escaped : List ℕ → NamePiece × List ℕ
read_escaped [] = (Run [], [])
read_escaped (octet ∷ rest) = (Printable (cond (octet == 55) 126 (cond (octet == 53) 92 (cond (slice_index rest 0 == 101) 46 47))), drop 1 rest)

-- the first piece of what is written, and the rest
abbrev read : Separator → List ℕ → Option (NamePiece × List ℕ)
read separator [] = None
read separator (octet ∷ rest) =
    Some (cond (octet == 46) (Printable (separator_octet separator), rest)
    (cond (octet == 92) (read_escaped rest)
    (cond (octet == 38) (coded (until rest).0, (until rest).1) (Printable octet, rest))))

until_front : (dash : Bool) (octet : ℕ) (text rest : List ℕ) → (not dash && list_all (λ o. not (o == 45)) text) ≡ true
    → (list_all (λ o. not (o == 45)) text ≡ true → ◌≡◌ {A = List ℕ × List ℕ} (until (text ++ 45 ∷ rest)) (text, rest))
    → ◌≡◌ {A = List ℕ × List ℕ} (cond dash ([], text ++ 45 ∷ rest) (octet ∷ (until (text ++ 45 ∷ rest)).0, (until (text ++ 45 ∷ rest)).1)) (octet ∷ text, rest)
until_front true octet text rest none more = absurd cc
until_front false octet text rest none more = ap (λ (p : List ℕ × List ℕ). (octet ∷ p.0, p.1)) (more none)

until_end : (text rest : List ℕ) → list_all (λ octet. not (octet == 45)) text ≡ true → until (text ++ 45 ∷ rest) ≡ (text, rest)
until_end [] rest none = refl
until_end (octet ∷ text) rest none = until_front (octet == 45) octet text rest none (until_end text rest)

character_read : (separator : Separator) (begins : Bool) (character : ℕ) (rest : List ℕ) (cut dot slash back ampersand tilde : Bool)
    → (character == separator_octet separator) ≡ cut → (character == 46) ≡ dot → (character == 47) ≡ slash → (character == 92) ≡ back → (character == 38) ≡ ampersand
    → (begins && character == 126) ≡ tilde
    → read separator (cond cut (codes ".") (cond dot (codes "\\2e") (cond slash (codes "\\2f") (cond back (codes "\\5c") (cond ampersand (codes "&-") (cond tilde (codes "\\7e") (character ∷ [])))))) ++ rest)
    ≡ Some (Printable character, rest)
character_read separator begins character rest true dot slash back ampersand tilde is one two three four five = ap (λ c. Some (Printable c, rest)) (sym (eqb-true character (separator_octet separator) is))
character_read separator begins character rest false true slash back ampersand tilde is one two three four five = ap (λ c. Some (Printable c, rest)) (sym (eqb-true character 46 one))
character_read separator begins character rest false false true back ampersand tilde is one two three four five = ap (λ c. Some (Printable c, rest)) (sym (eqb-true character 47 two))
character_read separator begins character rest false false false true ampersand tilde is one two three four five = ap (λ c. Some (Printable c, rest)) (sym (eqb-true character 92 three))
character_read separator begins character rest false false false false true tilde is one two three four five = ap (λ c. Some (Printable c, rest)) (sym (eqb-true character 38 four))
character_read separator begins character rest false false false false false true is one two three four five =
    ap (λ c. Some (Printable c, rest)) (sym (eqb-true character 126 (and_parts begins (character == 126) five).1))
character_read separator begins character rest false false false false false false is one two three four five = rw (one, three, four) refl

coded_back : (octets text : List ℕ) → IsSound (Run octets) → decoded text ≡ octets → coded text ≡ Run octets
coded_back [] text sound is = absurd sound.1
coded_back (octet ∷ more) [] sound is = absurd (let e : [] ≡ octet ∷ more = sym nothing_back ∙ is in cc)
coded_back (octet ∷ more) (symbol ∷ others) sound is = ap Run is

piece_read : (separator : Separator) (begins : Bool) (piece : NamePiece) (rest : List ℕ) → IsSound piece → read separator (piece_spelling separator begins piece ++ rest) ≡ Some (piece, rest)
piece_read separator begins (Printable character) rest sound =
    character_read separator begins character rest (character == separator_octet separator) (character == 46) (character == 47) (character == 92) (character == 38) (begins && character == 126) refl refl refl refl refl refl
piece_read separator begins (Run octets) rest sound =
    let text = modified_base64 octets in
    let ends : until ((text ++ codes "-") ++ rest) ≡ (text, rest) = ap until (append_assoc text (codes "-") rest) ∙ until_end text rest (modified_passes (λ octet. not (octet == 45)) refl octets sound.0) in
    ap (λ (p : List ℕ × List ℕ). Some (coded p.0, p.1)) ends ∙ ap (λ piece. Some (piece, rest)) (coded_back octets text sound (base64_back octets sound.0))

pieces_alike : (separator : Separator) (begins : Bool) (one two : List NamePiece) → AreSound one → AreSound two
    → piece_spellings separator begins one ≡ piece_spellings separator begins two → one ≡ two
pieces_alike separator begins [] [] first second same = refl
pieces_alike separator begins [] (piece ∷ more) first second same =
    let e : ◌≡◌ {A = Option (NamePiece × List ℕ)} None (Some (piece, piece_spellings separator (cuts separator piece) more)) =
    ap (read separator) same ∙ piece_read separator begins piece (piece_spellings separator (cuts separator piece) more) second.0 in
    absurd cc
pieces_alike separator begins (piece ∷ more) [] first second same =
    let e : ◌≡◌ {A = Option (NamePiece × List ℕ)} None (Some (piece, piece_spellings separator (cuts separator piece) more)) =
    ap (read separator) (sym same) ∙ piece_read separator begins piece (piece_spellings separator (cuts separator piece) more) first.0 in
    absurd cc
pieces_alike separator begins (piece ∷ more) (other ∷ others) first second same =
    let behind = piece_spellings separator (cuts separator piece) more in
    let its = piece_spellings separator (cuts separator other) others in
    let e : ◌≡◌ {A = Option (NamePiece × List ℕ)} (Some (piece, behind)) (Some (other, its)) =
    sym (piece_read separator begins piece behind first.0) ∙ ap (read separator) same ∙ piece_read separator begins other its second.0 in
    let pair : ◌≡◌ {A = NamePiece × List ℕ} (piece, behind) (other, its) = cc in
    let heads : piece ≡ other = ap (λ (p : NamePiece × List ℕ). p.0) pair in
    let tails : piece_spellings separator (cuts separator other) more ≡ its =
    ap (λ one. piece_spellings separator (cuts separator one) more) (sym heads) ∙ ap (λ (p : NamePiece × List ℕ). p.1) pair in
    ap (λ one. one ∷ more) heads ∙ ap (λ l. other ∷ l) (pieces_alike separator (cuts separator other) more others first.1 second.1 tails)

-- ---- one character is read

-- the octets of UTF-16 that pieces stand for
abbrev octets_of : List NamePiece → List ℕ
octets_of [] = []
octets_of (Printable character ∷ more) = utf16_of character ++ octets_of more
octets_of (Run octets ∷ more) = octets ++ octets_of more

abbrev all_utf16 : List ℕ → List ℕ
all_utf16 [] = []
all_utf16 (character ∷ more) = utf16_of character ++ all_utf16 more

octets_before : (units : List ℕ) (pieces : List NamePiece) → octets_of (before_pieces units pieces) ≡ units ++ octets_of pieces
octets_before units [] = refl
octets_before units (Printable character ∷ more) = refl
octets_before units (Run others ∷ more) = append_assoc units others (octets_of more)

octets_front : (printable : Bool) (character : ℕ) (pieces : List NamePiece) → octets_of (cond printable (Printable character ∷ pieces) (before_pieces (utf16_of character) pieces)) ≡ utf16_of character ++ octets_of pieces
octets_front true character pieces = refl
octets_front false character pieces = octets_before (utf16_of character) pieces

octets_all : (text : List ℕ) → octets_of (pieces_of text) ≡ all_utf16 text
octets_all [] = refl
octets_all (character ∷ more) = octets_front (is_printable character) character (pieces_of more) ∙ ap (λ l. utf16_of character ++ l) (octets_all more)

-- the character of a pair, by its first unit
abbrev read_pair : ℕ → List ℕ → Option (ℕ × List ℕ)
read_pair high [] = None
read_pair high (a ∷ []) = None
read_pair high (a ∷ b ∷ rest) = Some (0x1_0000 + ((high - 0xD800) * 0x400 + (a * 256 + b - 0xDC00)), rest)

-- the first character of octets in UTF-16
abbrev read_utf16 : List ℕ → Option (ℕ × List ℕ)
read_utf16 [] = None
read_utf16 (a ∷ []) = None
read_utf16 (a ∷ b ∷ rest) = cond (nat_le 216 a && nat_lt a 220) (read_pair (a * 256 + b) rest) (Some (a * 256 + b, rest))

unit_read : (unit : ℕ) (rest : List ℕ) → unit < 0x1_0000 → (unit < 0xD800) ⊎ (0xE000 ≤ unit) → read_utf16 (high_first (unit ∷ []) ++ rest) ≡ Some (unit, rest)
unit_read unit rest small (inl below) =
    let apart : unit / 256 % 256 < 216 = omega (arith, below) in
    let same : unit / 256 % 256 * 256 + unit % 256 ≡ unit = omega (arith, small) in
    rw (lt-leb 216 (unit / 256 % 256) apart) (ap (λ c. Some (c, rest)) same)
unit_read unit rest small (inr above) =
    let apart : 220 ≤ unit / 256 % 256 = omega (arith, above, small) in
    let low : 216 ≤ unit / 256 % 256 = omega (arith, apart) in
    let same : unit / 256 % 256 * 256 + unit % 256 ≡ unit = omega (arith, small) in
    rw (le-leb 216 (unit / 256 % 256) low, le-ltb (unit / 256 % 256) 220 apart) (ap (λ c. Some (c, rest)) same)

pair_read : (character high low : ℕ) (rest : List ℕ) → 0x1_0000 ≤ character → character < 0x11_0000 → high ≡ 0xD800 + (character - 0x1_0000) / 0x400 → low ≡ 0xDC00 + (character - 0x1_0000) % 0x400
    → read_utf16 (high_first (high ∷ low ∷ []) ++ rest) ≡ Some (character, rest)
pair_read character high low rest from below one two =
    let first : 216 ≤ high / 256 % 256 = omega (arith, one, below) in
    let second : high / 256 % 256 < 220 = omega (arith, one, below) in
    let same : 0x1_0000 + ((high / 256 % 256 * 256 + high % 256 - 0xD800) * 0x400 + (low / 256 % 256 * 256 + low % 256 - 0xDC00)) ≡ character = omega (arith, one, two, from, below) in
    rw (le-leb 216 (high / 256 % 256) first, lt-ltb (high / 256 % 256) 220 second) (ap (λ c. Some (c, rest)) same)

utf16_by : (one : Bool) (character : ℕ) (rest : List ℕ) → nat_lt character 0x1_0000 ≡ one → (character < 0xD800) ⊎ ((0xE000 ≤ character) × (character < 0x11_0000))
    → read_utf16 (high_first (cond one (character ∷ []) ((0xD800 + (character - 0x1_0000) / 0x400) ∷ (0xDC00 + (character - 0x1_0000) % 0x400) ∷ [])) ++ rest) ≡ Some (character, rest)
utf16_by true character rest is (inl below) = unit_read character rest (omega (arith, below)) (inl below)
utf16_by true character rest is (inr (above, fits)) = unit_read character rest (ltb-true character 0x1_0000 is) (inr above)
utf16_by false character rest is (inl below) = absurd (let e = lt-ltb character 0x1_0000 (omega (arith, below)) in cc)
utf16_by false character rest is (inr (above, fits)) = pair_read character _ _ rest (ltb-false character 0x1_0000 is) fits refl refl

utf16_read : (character : ℕ) (rest : List ℕ) → scalar character ≡ true → read_utf16 (utf16_of character ++ rest) ≡ Some (character, rest)
utf16_read character rest sound = utf16_by (nat_lt character 0x1_0000) character rest refl (scalar_cases character sound)

scalars_all : (text : List ℕ) → scalars text ≡ true → AllByRecursion (λ c. scalar c ≡ true) text
scalars_all [] are = tt
scalars_all (character ∷ more) are = let parts = and_parts (scalar character) (scalars more) are in (parts.0, scalars_all more parts.1)

characters_alike : (one two : List ℕ) → scalars one ≡ true → scalars two ≡ true → all_utf16 one ≡ all_utf16 two → one ≡ two
characters_alike one two first second =
    alike (λ c. scalar c ≡ true) utf16_of all_utf16 read_utf16 refl (λ x more. refl) utf16_read one two (scalars_all one first) (scalars_all two second)

-- ---- a name is read

texts_alike : (one two : List ℕ) → IsUtf8 one → IsUtf8 two → pieces_of (chars one) ≡ pieces_of (chars two) → one ≡ two
texts_alike one two first second same =
    let octets = sym (octets_all (chars one)) ∙ ap octets_of same ∙ octets_all (chars two) in
    sym (encodes-chars one first) ∙ ap encodes (characters_alike (chars one) (chars two) (scalars-chars one first) (scalars-chars two second) octets) ∙ encodes-chars two second

names_alike : (separator : Separator) (one two : List ℕ) → IsUtf8 one → IsUtf8 two → spelled_name separator one ≡ spelled_name separator two → one ≡ two
names_alike separator one two first second same =
    texts_alike one two first second
    (pieces_alike separator true (pieces_of (chars one)) (pieces_of (chars two)) (pieces_sound (chars one)) (pieces_sound (chars two)) same)

-- ---- directories

no_text_utf8 : IsUtf8 []
no_text_utf8 = ([], (refl, refl))

-- no name that has a form is written as INBOX is
form_no_inbox : (separator : Separator) (name : List ℕ) → has_form separator name ≡ true → codes "." ≡ spelled_directory separator name → ⊥
unfolding chars
form_no_inbox separator name form same =
    let none : [] ≡ spelled_name separator name = cc in
    let empty : [] ≡ name = names_alike separator [] name no_text_utf8 (IsUtf8-from_is_utf8 name (form_text separator name form)) none in
    let levels : has_levels (separator_octet separator) [] ≡ true = ap (has_levels (separator_octet separator)) empty ∙ form_levels separator name form in
    cc

-- nor as a digest is
form_no_digest : (separator : Separator) (name other : List ℕ) → has_form separator name ≡ true → digest_form other ≡ spelled_directory separator name → ⊥
form_no_digest separator name other form same =
    let own = own_no_digest (spelled_directory separator name) (form_own separator name form) in
    false≢true (ap not (sym (digest_is other)) ∙ ap (λ directory. not (is_digest directory)) same ∙ own)

digests_alike : (one two : List ℕ) → digest_form one ≡ digest_form two → sha256 one ≡ sha256 two
digests_alike one two same =
    let digits : encode_lower (sha256 one) ≡ encode_lower (sha256 two) = cc in
    let back : Ok (sha256 one) ≡ Ok (sha256 two) = sym (decode_of-encode_lower (sha256 one) (small_at (sha256 one) (digest_small one))) ∙ ap decode_of digits ∙ decode_of-encode_lower (sha256 two) (small_at (sha256 two) (digest_small two)) in
    cc

shared_by : (separator : Separator) (one two : List ℕ) (inbox other form its : Bool) → is_inbox one ≡ inbox → is_inbox two ≡ other
    → has_form separator (with_inbox_folded separator one) ≡ form → has_form separator (with_inbox_folded separator two) ≡ its
    → cond inbox (codes ".") (cond form (spelled_directory separator (with_inbox_folded separator one)) (digest_form (with_inbox_folded separator one)))
    ≡ cond other (codes ".") (cond its (spelled_directory separator (with_inbox_folded separator two)) (digest_form (with_inbox_folded separator two))) → MayShare separator one two
shared_by separator one two true true form its a b c d same = inr (inl (a, b))
shared_by separator one two true false form true a b c d same = absurd (form_no_inbox separator (with_inbox_folded separator two) d same)
shared_by separator one two true false form false a b c d same = absurd cc
shared_by separator one two false true true its a b c d same = absurd (form_no_inbox separator (with_inbox_folded separator one) c (sym same))
shared_by separator one two false true false its a b c d same = absurd cc
shared_by separator one two false false true true a b c d same =
    let names : spelled_name separator (with_inbox_folded separator one) ≡ spelled_name separator (with_inbox_folded separator two) = cc in
    inl (names_alike separator (with_inbox_folded separator one) (with_inbox_folded separator two) (IsUtf8-from_is_utf8 _ (form_text separator (with_inbox_folded separator one) c)) (IsUtf8-from_is_utf8 _ (form_text separator (with_inbox_folded separator two) d)) names)
shared_by separator one two false false true false a b c d same = absurd (form_no_digest separator (with_inbox_folded separator one) (with_inbox_folded separator two) c (sym same))
shared_by separator one two false false false true a b c d same = absurd (form_no_digest separator (with_inbox_folded separator two) (with_inbox_folded separator one) d same)
shared_by separator one two false false false false a b c d same = inr (inr (c, d, digests_alike (with_inbox_folded separator one) (with_inbox_folded separator two) same))

pub shared : (separator : Separator) (one two : List ℕ) → directory separator one ≡ directory separator two → MayShare separator one two
shared separator one two same =
    shared_by separator one two (is_inbox one) (is_inbox two) (has_form separator (with_inbox_folded separator one)) (has_form separator (with_inbox_folded separator two)) refl refl refl refl same
