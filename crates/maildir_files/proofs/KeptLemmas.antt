-- What is written are octets that a directory keeps.
use Rattle.std.proofs.Common.{◌≡◌, ℕ, zero, suc, ◌+◌, ◌*◌, ◌/◌, ◌%◌, ◌<◌, ◌==◌, Bool, true, false, cond, ◌&&◌, not, nat_lt, List, [], ◌∷◌, ◌++◌, length, get_or, codes, refl, ◌∙◌, ap, arith}
use Rattle.std.proofs.lemmas.Bool.{eq-eqb}
use Rattle.std.proofs.lemmas.List.Folds.{list_all-append}
use Rattle.std.proofs.lemmas.List.Sums.{AllPass-from_list_all}
use Rattle.std.specs.List.{list_all}
use Rattle.std.specs.Int.{w32, to_be_bytes}
use Rattle.std.specs.Str.{chars}
use Rattle.base64.specs.Rfc4648.{encode_symbols}
use Rattle.hex.proofs.HexLemmas.{length-encode_with}
use Rattle.hex.specs.Hex.{encode_lower, encode_with, lower_digits}
use Rattle.octets.specs.Ascii.{is_printable}
use Rattle.sha2.proofs.Facts256.{length-sha256}
use Rattle.sha2.specs.Sha256.{digest_bytes, sha256}
use Rattle.maildir_files.specs.declared.separator.Separator.{Separator}
use Rattle.maildir_files.specs.Directory.{digest_form, is_digest, is_lower_digit}
use Rattle.maildir_files.specs.Inside.{is_directory_octet}
use Rattle.maildir_files.specs.Spelling.{NamePiece, Printable, Run, before_pieces, cuts, high_first, modified_base64, modified_symbols, separator_octet, piece_spelling, pieces_of, shifted, spelled_name, piece_spellings, utf16_of}

pub and_true : (a b : Bool) → a ≡ true → b ≡ true → (a && b) ≡ true
and_true a b one two = rw (one, two) refl

kept-append : (xs ys : List ℕ) → list_all is_directory_octet xs ≡ true → list_all is_directory_octet ys ≡ true → list_all is_directory_octet (xs ++ ys) ≡ true
kept-append xs ys one two = list_all-append is_directory_octet xs ys ∙ and_true _ _ one two

-- each of these numbers is below 256
abbrev pub AreSmall : List ℕ → Type 0
AreSmall [] = Unit {0}
AreSmall (octet ∷ rest) = (octet < 256) × AreSmall rest

small-append : (xs ys : List ℕ) → AreSmall xs → AreSmall ys → AreSmall (xs ++ ys)
small-append [] ys one two = two
small-append (x ∷ xs) ys one two = (one.0, small-append xs ys one.1 two)

-- what holds of each of the 64 symbols holds of each octet of modified base64
module _ (Passes : ℕ → Bool) (each : list_all Passes modified_symbols ≡ true) where
  symbol_passes : (k : ℕ) → k < 64 → Passes (get_or modified_symbols k 0) ≡ true
  symbol_passes k small = AllPass-from_list_all Passes modified_symbols each k 0 small

  symbols_pass : (octets : List ℕ) → AreSmall octets → list_all Passes (encode_symbols modified_symbols octets) ≡ true
  unfolding encode_symbols
  symbols_pass [] are = refl
  symbols_pass (a ∷ []) are = and_true _ _ (symbol_passes (a / 4) (omega (arith, are.0))) (and_true _ _ (symbol_passes (a % 4 * 16) (omega arith)) refl)
  symbols_pass (a ∷ b ∷ []) are =
      and_true _ _ (symbol_passes (a / 4) (omega (arith, are.0))) (and_true _ _ (symbol_passes (a % 4 * 16 + b / 16) (omega (arith, are.1.0))) (and_true _ _ (symbol_passes (b % 16 * 4) (omega arith)) refl))
  symbols_pass (a ∷ b ∷ c ∷ rest) are =
      and_true _ _ (symbol_passes (a / 4) (omega (arith, are.0))) (and_true _ _ (symbol_passes (a % 4 * 16 + b / 16) (omega (arith, are.1.0)))
      (and_true _ _ (symbol_passes (b % 16 * 4 + c / 64) (omega (arith, are.1.1.0))) (and_true _ _ (symbol_passes (c % 64) (omega arith)) (symbols_pass rest are.1.1.1))))

  pub modified_passes : (octets : List ℕ) → AreSmall octets → list_all Passes (modified_base64 octets) ≡ true
  modified_passes octets are = list_all-append Passes (encode_symbols modified_symbols octets) [] ∙ and_true _ _ (symbols_pass octets are) refl

shifted_kept : (octets : List ℕ) → AreSmall octets → list_all is_directory_octet (shifted octets) ≡ true
shifted_kept octets are = kept-append (modified_base64 octets) (codes "-") (modified_passes is_directory_octet refl octets are) refl

-- one octet or more
abbrev IsBegun : List ℕ → Type 0
IsBegun [] = ⊥
IsBegun (octet ∷ rest) = Unit {0}

-- a printable character, or some octets
abbrev pub IsSound : NamePiece → Type 0
IsSound (Printable character) = is_printable character ≡ true
IsSound (Run octets) = AreSmall octets × IsBegun octets

abbrev pub AreSound : List NamePiece → Type 0
AreSound [] = Unit {0}
AreSound (piece ∷ more) = IsSound piece × AreSound more

units_sound : (one : Bool) (a b c : ℕ) → IsSound (Run (high_first (cond one (a ∷ []) (b ∷ c ∷ []))))
units_sound true a b c = ((omega arith, (omega arith, tt)), tt)
units_sound false a b c = ((omega arith, (omega arith, (omega arith, (omega arith, tt)))), tt)

utf16_sound : (character : ℕ) → IsSound (Run (utf16_of character))
utf16_sound character = units_sound (nat_lt character 0x1_0000) _ _ _

begun-append : (xs ys : List ℕ) → IsBegun xs → IsBegun (xs ++ ys)
begun-append [] ys begun = absurd begun
begun-append (x ∷ xs) ys begun = tt

before_sound : (units : List ℕ) (pieces : List NamePiece) → IsSound (Run units) → AreSound pieces → AreSound (before_pieces units pieces)
before_sound units [] sound are = (sound, tt)
before_sound units (Printable character ∷ more) sound are = (sound, are)
before_sound units (Run others ∷ more) sound are = ((small-append units others sound.0 are.0.0, begun-append units others sound.1), are.1)

front_sound : (printable : Bool) (character : ℕ) (pieces : List NamePiece) → is_printable character ≡ printable → AreSound pieces
    → AreSound (cond printable (Printable character ∷ pieces) (before_pieces (utf16_of character) pieces))
front_sound true character pieces told are = (told, are)
front_sound false character pieces told are = before_sound (utf16_of character) pieces (utf16_sound character) are

pub pieces_sound : (text : List ℕ) → AreSound (pieces_of text)
pieces_sound [] = tt
pieces_sound (character ∷ more) = front_sound (is_printable character) character (pieces_of more) refl (pieces_sound more)

spelling_by : (cut dot slash back ampersand tilde : Bool) (character : ℕ) → is_printable character ≡ true → (character == 47) ≡ slash
    → list_all is_directory_octet (cond cut (codes ".") (cond dot (codes "\\2e") (cond slash (codes "\\2f") (cond back (codes "\\5c") (cond ampersand (codes "&-") (cond tilde (codes "\\7e") (character ∷ []))))))) ≡ true
spelling_by true dot slash back ampersand tilde character seen told = refl
spelling_by false true slash back ampersand tilde character seen told = refl
spelling_by false false true back ampersand tilde character seen told = refl
spelling_by false false false true ampersand tilde character seen told = refl
spelling_by false false false false true tilde character seen told = refl
spelling_by false false false false false true character seen told = refl
spelling_by false false false false false false character seen told = and_true _ _ (and_true _ _ seen (ap not told)) refl

piece_kept : (separator : Separator) (begins : Bool) (piece : NamePiece) → IsSound piece → list_all is_directory_octet (piece_spelling separator begins piece) ≡ true
piece_kept separator begins (Printable character) seen =
    spelling_by (character == separator_octet separator) (character == 46) (character == 47) (character == 92) (character == 38) (begins && character == 126) character seen refl
piece_kept separator begins (Run octets) sound = shifted_kept octets sound.0

pieces_kept : (separator : Separator) (begins : Bool) (pieces : List NamePiece) → AreSound pieces → list_all is_directory_octet (piece_spellings separator begins pieces) ≡ true
pieces_kept separator begins [] are = refl
pieces_kept separator begins (piece ∷ more) are =
    kept-append (piece_spelling separator begins piece) (piece_spellings separator (cuts separator piece) more)
    (piece_kept separator begins piece are.0) (pieces_kept separator (cuts separator piece) more are.1)

pub spelled_kept : (separator : Separator) (text : List ℕ) → list_all is_directory_octet (spelled_name separator text) ≡ true
spelled_kept separator text = pieces_kept separator true (pieces_of (chars text)) (pieces_sound (chars text))

-- what holds of each of the 16 digits holds of each octet in hexadecimal digits
module _ (Passes : ℕ → Bool) (each : list_all Passes lower_digits ≡ true) where
  digit_passes : (k : ℕ) → k < 16 → Passes (get_or lower_digits k 0) ≡ true
  digit_passes k small = AllPass-from_list_all Passes lower_digits each k 0 small

  pub digits_pass : (octets : List ℕ) → AreSmall octets → list_all Passes (encode_with lower_digits octets) ≡ true
  unfolding encode_with
  digits_pass [] are = refl
  digits_pass (octet ∷ rest) are = and_true _ _ (digit_passes (octet / 16) (omega (arith, are.0))) (and_true _ _ (digit_passes (octet % 16) (omega arith)) (digits_pass rest are.1))

word_small : (n : ℕ) → AreSmall (to_be_bytes w32 n)
word_small n = (omega arith, (omega arith, (omega arith, (omega arith, tt))))

words_small : (words : List ℕ) (n : ℕ) → AreSmall (digest_bytes words n)
unfolding digest_bytes
words_small words zero = tt
words_small words (suc n) = small-append (digest_bytes words n) _ (words_small words n) (word_small (get_or words n 0))

pub digest_small : (name : List ℕ) → AreSmall (sha256 name)
unfolding sha256
digest_small name = words_small _ 8

pub digest_kept : (name : List ℕ) → list_all is_directory_octet (digest_form name) ≡ true
digest_kept name = digits_pass is_directory_octet refl (sha256 name) (digest_small name)

-- a digest's directory is one
pub digest_is : (name : List ℕ) → is_digest (digest_form name) ≡ true
digest_is name =
    let text = encode_lower (sha256 name) in
    let long : length text ≡ 64 = let digits = length-encode_with lower_digits (sha256 name) in let octets = length-sha256 name in omega (arith, digits, octets) in
    and_true _ _ (eq-eqb (length text) 64 long) (digits_pass is_lower_digit refl (sha256 name) (digest_small name))
