-- What the name of nobody is.
use Rattle.std.proofs.Common.{◌≡◌, ℕ, suc, ◌+◌, ◌*◌, ◌/◌, ◌%◌, ◌<◌, ◌≤◌, List, [], ◌∷◌, length, refl, arith}
use Rattle.std.specs.List.{All}
use Rattle.std.proofs.lemmas.List.Elements.{All-nil, All-cons}
use Rattle.dovecot_userdb.specs.Probes.{probe_letter, probe_letters, ProbesStand}

abbrev IsProbeLetter : ℕ → Type 0
IsProbeLetter letter = (97 ≤ letter) × (letter < 113)

all_rest : (octet : ℕ) (octets : List ℕ) → All (λ x. x < 256) (octet ∷ octets) → All (λ x. x < 256) octets
all_rest octet octets all = λ k d h. all (suc k) d (omega (arith, h))

are_letters : (octets : List ℕ) → All (λ x. x < 256) octets → All IsProbeLetter (probe_letters octets)
are_letters [] all = All-nil IsProbeLetter
are_letters (octet ∷ octets) all =
    let small : octet < 256 = all 0 0 (omega arith) in
    let high : IsProbeLetter (probe_letter (octet / 16)) = (omega arith, omega (arith, small)) in
    let low : IsProbeLetter (probe_letter (octet % 16)) = (omega arith, omega (arith, small)) in
    All-cons IsProbeLetter (probe_letter (octet / 16)) (probe_letter (octet % 16) ∷ probe_letters octets) high
    (All-cons IsProbeLetter (probe_letter (octet % 16)) (probe_letters octets) low (are_letters octets (all_rest octet octets all)))

two_each : (octets : List ℕ) → length (probe_letters octets) ≡ 2 * length octets
two_each [] = refl
two_each (octet ∷ octets) = omega (arith, two_each octets)

octet_same : (a b : ℕ) → 97 + a / 16 ≡ 97 + b / 16 → 97 + a % 16 ≡ 97 + b % 16 → a ≡ b
octet_same a b high low = omega (arith, high, low)

heads : (x y z w : ℕ) (xs ys : List ℕ) → x ∷ y ∷ xs ≡ z ∷ w ∷ ys → (x ≡ z) × (y ≡ w) × (xs ≡ ys)
heads x y z w xs ys is = (cc, cc, cc)

octets_same : (a b : List ℕ) → probe_letters a ≡ probe_letters b → a ≡ b
octets_same [] [] is = refl
octets_same [] (y ∷ b) is = absurd (cc is)
octets_same (x ∷ a) [] is = absurd (cc is)
octets_same (x ∷ a) (y ∷ b) is =
    let it = heads (probe_letter (x / 16)) (probe_letter (x % 16)) (probe_letter (y / 16)) (probe_letter (y % 16)) (probe_letters a) (probe_letters b) is in
    let head : x ≡ y = octet_same x y it.0 it.1 in
    let tail : a ≡ b = octets_same a b it.2 in
    cc (head, tail)

pub probes_stand : ProbesStand
probes_stand = record {
  letters = are_letters;
  length_of = two_each;
  one_to_one = octets_same;
}
