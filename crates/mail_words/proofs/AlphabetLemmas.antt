-- Base64 in the standard alphabet is octets 33 to 126 without question mark.
use Rattle.std.proofs.Common.{◌≡◌, ◌≢◌, ℕ, zero, suc, ◌+◌, ◌*◌, ◌/◌, ◌%◌, ◌<◌, Bool, true, false, ◌==◌, ◌&&◌, not, Some, List, [], ◌∷◌, ◌++◌, length, get_or, replicate, refl, ap, ◌∙◌, arith}
use Rattle.std.proofs.lemmas.Bool.{false_from_ne_true, eqb-true}
use Rattle.std.proofs.lemmas.List.Folds.{list_all-append}
use Rattle.std.proofs.lemmas.List.Sums.{AllPass-from_list_all}
use Rattle.std.specs.List.{list_all}
use Rattle.std.specs.Result.{result_ok}
use Rattle.base64.specs.Rfc4648.{encode_symbols, padding_len}
use Rattle.base64.specs.Engines.{standard}
use Rattle.base64.specs.GeneralPurpose.{IsBytes, encode_of, decoded_of, engine_symbols}
use Rattle.base64.proofs.EngineFacts.{decode_of-encode_of}
use Rattle.mail_head.proofs.FoldLemmas.{and_true}
use Rattle.mail_words.specs.Words.{is_visible}
use Rattle.mail_words.specs.Laws.{HasStandardAlphabet}

-- the symbols of the engine
abbrev symbols : List ℕ
symbols = engine_symbols standard

-- 33 to 126 without question mark
abbrev pub is_safe : ℕ → Bool
is_safe octet = is_visible octet && not (octet == 63)

pub standard_alphabet : HasStandardAlphabet standard
standard_alphabet = record { symbols = refl; padding = refl }

all_safe : list_all is_safe symbols ≡ true
all_safe = refl

safe_at : (k : ℕ) → k < 64 → is_safe (get_or symbols k 0) ≡ true
safe_at k small = AllPass-from_list_all is_safe symbols all_safe k 0 small

-- each of these numbers is below 256
abbrev pub AreSmall : List ℕ → Type 0
AreSmall [] = Unit {0}
AreSmall (octet ∷ rest) = (octet < 256) × AreSmall rest

pub small_from : (octets : List ℕ) → IsBytes octets → AreSmall octets
small_from [] are = tt
small_from (octet ∷ rest) are = (are 0, small_from rest (λ i. are (suc i)))

three : (a b c d : ℕ) (rest : List ℕ) → a < 64 → b < 64 → c < 64 → d < 64 → list_all is_safe rest ≡ true
    → list_all is_safe (get_or symbols a 0 ∷ get_or symbols b 0 ∷ get_or symbols c 0 ∷ get_or symbols d 0 ∷ rest) ≡ true
three a b c d rest p q r s all = and_true _ _ (safe_at a p) (and_true _ _ (safe_at b q) (and_true _ _ (safe_at c r) (and_true _ _ (safe_at d s) all)))

safe_symbols : (octets : List ℕ) → AreSmall octets → list_all is_safe (encode_symbols symbols octets) ≡ true
unfolding encode_symbols
safe_symbols [] are = refl
safe_symbols (a ∷ []) are = and_true _ _ (safe_at (a / 4) (omega (arith, are.0))) (and_true _ _ (safe_at (a % 4 * 16) (omega arith)) refl)
safe_symbols (a ∷ b ∷ []) are =
    and_true _ _ (safe_at (a / 4) (omega (arith, are.0))) (and_true _ _ (safe_at (a % 4 * 16 + b / 16) (omega (arith, are.1.0))) (and_true _ _ (safe_at (b % 16 * 4) (omega arith)) refl))
safe_symbols (a ∷ b ∷ c ∷ rest) are =
    three (a / 4) (a % 4 * 16 + b / 16) (b % 16 * 4 + c / 64) (c % 64) (encode_symbols symbols rest)
    (omega (arith, are.0)) (omega (arith, are.1.0)) (omega (arith, are.1.1.0)) (omega arith) (safe_symbols rest are.1.1.1)

safe_padding : (n : ℕ) → list_all is_safe (replicate n 61) ≡ true
safe_padding zero = refl
safe_padding (suc n) = safe_padding n

-- an encoding is safe
pub safe_encoding : (octets : List ℕ) → IsBytes octets → list_all is_safe (encode_of standard octets) ≡ true
safe_encoding octets are =
    list_all-append is_safe (encode_symbols symbols octets) (replicate (padding_len (length octets)) 61)
    ∙ and_true _ _ (safe_symbols octets (small_from octets are)) (safe_padding (padding_len (length octets)))

some_length : (octets : List ℕ) → 0 < length octets → (length octets == 0) ≡ false
some_length octets some = false_from_ne_true (length octets == 0) (λ zero. let none : length octets ≡ 0 = eqb-true (length octets) 0 zero in absurd (omega arith))

-- and has octets where there are any
pub encoding_present : (octets : List ℕ) → octets ≢ [] → (length (encode_of standard octets) == 0) ≡ false
unfolding encode_symbols
encoding_present [] some = absurd (some refl)
encoding_present (a ∷ []) some = refl
encoding_present (a ∷ b ∷ []) some = refl
encoding_present (a ∷ b ∷ c ∷ rest) some = some_length (encode_of standard (a ∷ b ∷ c ∷ rest)) (omega arith)

-- and decodes to them
pub encoding_decodes : (octets : List ℕ) → IsBytes octets → decoded_of standard (encode_of standard octets) ≡ Some octets
unfolding decoded_of
encoding_decodes octets are = ap result_ok (decode_of-encode_of standard octets refl are)

-- the octets of a first part
pub bytes_front : (front rest : List ℕ) → IsBytes (front ++ rest) → IsBytes front
bytes_front [] rest are i = omega arith
bytes_front (octet ∷ front) rest are zero = are zero
bytes_front (octet ∷ front) rest are (suc i) = bytes_front front rest (λ k. are (suc k)) i

-- and of what follows it
pub bytes_back : (front rest : List ℕ) → IsBytes (front ++ rest) → IsBytes rest
bytes_back [] rest are = are
bytes_back (octet ∷ front) rest are = bytes_back front rest (λ k. are (suc k))
