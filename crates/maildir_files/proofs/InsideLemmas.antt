-- A directory lies within the Maildir.
use Rattle.std.proofs.Common.{◌≡◌, ◌≢◌, ◌≤◌, ◌<◌, ℕ, ◌==◌, Bool, true, false, cond, ◌&&◌, not, List, [], ◌∷◌, ◌++◌, length, get_or, drop, codes, refl, sym, ◌∙◌, ap, arith}
use Rattle.std.proofs.lemmas.Bool.{eqb-true, leb-true, eq-eqb, false≢true}
use Rattle.std.proofs.lemmas.Str.{IsUtf8-from_is_utf8, byte_from_char, encodes-chars}
use lib.Utf8.{encodes}
use Rattle.std.specs.Str.{chars, is_utf8}
use Rattle.hex.proofs.HexLemmas.{length-encode_with}
use Rattle.hex.specs.Hex.{lower_digits}
use Rattle.sha2.proofs.Facts256.{length-sha256}
use Rattle.sha2.specs.Sha256.{sha256}
use Rattle.octets.specs.Ascii.{is_printable}
use Rattle.maildir_files.specs.declared.separator.Separator.{Separator}
use Rattle.maildir_files.specs.declared.separator.Separator.TheVariants.{Dot, Slash}
use Rattle.maildir_files.specs.Directory.{digest_form, directory, with_inbox_folded, has_form, is_inbox, directory_named}
use Rattle.maildir_files.specs.Inside.{IsInsideMaildir}
use Rattle.maildir_files.specs.Levels.{levels_go_on}
use Rattle.maildir_files.specs.Spelling.{NamePiece, Printable, Run, before_pieces, separator_octet, pieces_of, spelled_name, piece_spellings, utf16_of, spelled_directory}
use Rattle.maildir_files.proofs.KeptLemmas.{digest_kept, spelled_kept}
use Rattle.maildir_files.proofs.NameLemmas.{form_levels, form_own, form_text, own_short}

and_left : (a b : Bool) → (a && b) ≡ true → a ≡ true
and_left true b both = refl
and_left false b both = both

pub length-digest : (name : List ℕ) → length (digest_form name) ≡ 72
length-digest name =
    let digits = length-encode_with lower_digits (sha256 name) in
    let octets = length-sha256 name in
    omega (arith, digits, octets)

-- what isn't a dot alone
run_first : (units : List ℕ) (pieces : List NamePiece) → (octets : List ℕ) × ((more : List NamePiece) × (before_pieces units pieces ≡ Run octets ∷ more))
run_first units [] = (units, ([], refl))
run_first units (Printable character ∷ more) = (units, (Printable character ∷ more, refl))
run_first units (Run others ∷ more) = (units ++ others, (more, refl))

begins_run : (separator : Separator) (octets : List ℕ) (more : List NamePiece) → get_or (piece_spellings separator true (Run octets ∷ more)) 0 0 ≡ 38
begins_run separator octets more = refl

run_no_dot : (separator : Separator) (units : List ℕ) (pieces : List NamePiece) → piece_spellings separator true (before_pieces units pieces) ≢ codes "."
run_no_dot separator units pieces same =
    let first = run_first units pieces in
    let head : 46 ≡ 38 = ap (λ l. get_or l 0 0) (sym same) ∙ ap (λ all. get_or (piece_spellings separator true all) 0 0) first.1.1 ∙ begins_run separator first.0 first.1.0 in
    absurd (omega (arith, head))

spelling_no_dot : (cut dot slash back ampersand tilde : Bool) (character : ℕ) (more : List ℕ) → cut ≡ false → (character == 46) ≡ dot
    → cond cut (codes ".") (cond dot (codes "\\2e") (cond slash (codes "\\2f") (cond back (codes "\\5c") (cond ampersand (codes "&-") (cond tilde (codes "\\7e") (character ∷ [])))))) ++ more ≢ codes "."
spelling_no_dot true dot slash back ampersand tilde character more other told same = absurd (false≢true (sym other))
spelling_no_dot false true slash back ampersand tilde character more other told same = cc
spelling_no_dot false false true back ampersand tilde character more other told same = cc
spelling_no_dot false false false true ampersand tilde character more other told same = cc
spelling_no_dot false false false false true tilde character more other told same = cc
spelling_no_dot false false false false false true character more other told same = cc
spelling_no_dot false false false false false false character more other told same =
    let dot : character ≡ 46 = ap (λ l. get_or l 0 0) same in
    false≢true (sym told ∙ eq-eqb character 46 dot)

piece_no_dot : (printable : Bool) (separator : Separator) (character : ℕ) (pieces : List NamePiece) → (character == separator_octet separator) ≡ false
    → piece_spellings separator true (cond printable (Printable character ∷ pieces) (before_pieces (utf16_of character) pieces)) ≢ codes "."
piece_no_dot true separator character pieces other =
    spelling_no_dot (character == separator_octet separator) (character == 46) (character == 47) (character == 92) (character == 38) (character == 126) character
    (piece_spellings separator (character == separator_octet separator) pieces) other refl
piece_no_dot false separator character pieces other = run_no_dot separator (utf16_of character) pieces

separator_small : (separator : Separator) → separator_octet separator < 128
separator_small Dot = omega arith
separator_small Slash = omega arith

other_test : (test : Bool) (a b : ℕ) → (a == b) ≡ test → (a ≡ b → ⊥) → (a == b) ≡ false
other_test true a b told other = absurd (other (eqb-true a b told))
other_test false a b told other = told

characters_no_dot : (separator : Separator) (name characters : List ℕ) → encodes characters ≡ name → get_or name 0 0 ≢ separator_octet separator → piece_spellings separator true (pieces_of characters) ≢ codes "."
characters_no_dot separator name [] whole other same = cc
characters_no_dot separator name (character ∷ more) whole other same =
    piece_no_dot (is_printable character) separator character (pieces_of more)
    (other_test (character == separator_octet separator) character (separator_octet separator) refl (λ cuts.
    let small : character < 128 = omega (arith, separator_small separator) in
    other (byte_from_char name (encodes more) character (sym whole) small ∙ cuts))) same

name_no_dot : (separator : Separator) (octet : ℕ) (rest : List ℕ) → is_utf8 (octet ∷ rest) ≡ true → (octet ≢ separator_octet separator)
    → spelled_name separator (octet ∷ rest) ≢ codes "."
name_no_dot separator octet rest valid other same =
    characters_no_dot separator (octet ∷ rest) (chars (octet ∷ rest)) (encodes-chars (octet ∷ rest) (IsUtf8-from_is_utf8 (octet ∷ rest) valid)) other same

begins_other : (octet separator : ℕ) (more : Bool) → (not (octet == separator) && more) ≡ true → octet ≢ separator
begins_other octet separator more both same =
    let no = and_left (not (octet == separator)) more both in
    false≢true (ap not (sym (eq-eqb octet separator same)) ∙ no)

pub written_not_above : (separator : Separator) (name : List ℕ) → has_form separator name ≡ true → spelled_directory separator name ≢ codes ".."
unfolding chars
written_not_above separator [] form same = cc
written_not_above separator (octet ∷ rest) form same =
    let name = octet ∷ rest in
    let valid = form_text separator name form in
    let levels = form_levels separator name form in
    let end : spelled_name separator name ≡ codes "." = ap (drop 1) same in
    name_no_dot separator octet rest valid (begins_other octet (separator_octet separator) (levels_go_on (separator_octet separator) name) levels) end

pub written_short : (separator : Separator) (name : List ℕ) → has_form separator name ≡ true → length (spelled_directory separator name) ≤ 250
written_short separator name form =
    leb-true (length (spelled_directory separator name)) 250 (own_short (spelled_directory separator name) (form_own separator name form))

digest_not_above : (name : List ℕ) → digest_form name ≢ codes ".."
digest_not_above name same = cc

form_inside : (form : Bool) (separator : Separator) (name : List ℕ) → has_form separator name ≡ form → IsInsideMaildir (cond form (spelled_directory separator name) (digest_form name))
form_inside true separator name told = record {
  dotted = (spelled_name separator name, refl);
  kept = spelled_kept separator name;
  not_above = written_not_above separator name told;
  short = written_short separator name told;
}
form_inside false separator name told = record {
  dotted = (drop 1 (digest_form name), refl);
  kept = digest_kept name;
  not_above = digest_not_above name;
  short = (let long = length-digest name in omega (arith, long));
}

by_name : (inbox : Bool) (separator : Separator) (name : List ℕ) → IsInsideMaildir (cond inbox (codes ".") (directory_named separator name))
by_name true separator name = record { dotted = ([], refl); kept = refl; not_above = (λ same. cc); short = omega arith }
by_name false separator name = form_inside (has_form separator name) separator name refl

pub directory_inside : (separator : Separator) (name : List ℕ) → IsInsideMaildir (directory separator name)
directory_inside separator name = by_name (is_inbox name) separator (with_inbox_folded separator name)
