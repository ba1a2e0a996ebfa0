-- The numbers of an encoded sequence as the grammar has them (RFC 5228, 2.4.2.4).
use Rattle.std.specs.Prelude.{◌≡◌, ◌≢◌, ℕ, List, [], ◌∷◌, ◌++◌, length, map, codes, IsTrue}
use Rattle.std.specs.List.{list_all, flat_map}
use Rattle.octets.specs.Ascii.{lowered}
use Rattle.sieve_lex.specs.declared.encoded.Coding.{Coding}
use Rattle.sieve_lex.specs.declared.encoded.Coding.TheVariants.{Hex, Unicode}
use Rattle.sieve_lex.specs.Class.{is_white}
use Rattle.sieve_lex.specs.Encoded.{is_hex, words_value, sequence_with, sequence_at}

-- a number as it is written, and the blanks after it
pub record Numeral : Type 0 where
  pub word : List ℕ
  pub blanks : List ℕ

-- 1*HEXDIG, of which a hex-pair has no more than two (`number_value`), and white octets
pub record IsNumeral (n : Numeral) : Type 0 where
  pub some : n.word ≢ []
  pub digits : IsTrue (list_all is_hex n.word)
  pub white : IsTrue (list_all is_white n.blanks)

-- 1*blank before another number
abbrev pub AreNumerals : List Numeral → Type 0
AreNumerals [] = Unit {0}
AreNumerals (n ∷ []) = IsNumeral n
AreNumerals (n ∷ (next ∷ more)) = IsNumeral n × ((n.blanks ≢ []) × AreNumerals (next ∷ more))

abbrev pub numeral_spelling : Numeral → List ℕ
numeral_spelling n = n.word ++ n.blanks

-- *blank, and then numbers, which are these words: *blank hex-pair *(1*blank hex-pair) *blank, or only blanks
pub record AreNumeralWords (s : List ℕ) (words : List (List ℕ)) : Type 0 where
  pub lead : List ℕ
  pub numerals : List Numeral
  pub blank : IsTrue (list_all is_white lead)
  pub each : AreNumerals numerals
  pub spelled : s ≡ lead ++ flat_map numeral_spelling numerals
  pub named : words ≡ map (λ n. n.word) numerals

-- how a sequence opens, in any ASCII case
abbrev pub sequence_opening : Coding → List ℕ
sequence_opening Hex = codes "${hex:"
sequence_opening Unicode = codes "${unicode:"

-- a sequence with these words: "${hex:" hex-pair-seq "}", or "${unicode:" unicode-hex-seq "}", but for how many digits a hex-pair has
pub record IsSequence (coding : Coding) (s : List ℕ) (words : List (List ℕ)) : Type 0 where
  pub front : List ℕ
  pub row : List ℕ
  pub opens : lowered front ≡ sequence_opening coding
  pub numbers : AreNumeralWords row words
  pub some : words ≢ []
  pub spelled : s ≡ front ++ (row ++ 125 ∷ [])

-- it is read as these words and to its end, whatever follows it
abbrev pub IsRead : Coding → List ℕ → List (List ℕ) → List ℕ → Type 0
IsRead coding s words rest = sequence_at (s ++ rest) ≡ sequence_with coding (length s) (words_value coding words)

-- the text begins with a sequence
pub record BeginsWithSequence (text : List ℕ) : Type 0 where
  pub coding : Coding
  pub sequence : List ℕ
  pub rest : List ℕ
  pub words : List (List ℕ)
  pub parts : text ≡ sequence ++ rest
  pub is : IsSequence coding sequence words
