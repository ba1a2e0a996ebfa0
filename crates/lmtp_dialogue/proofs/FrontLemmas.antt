-- The front of a text whose octets pass a test.
use Rattle.std.proofs.Common.{◌≡◌, ℕ, suc, ◌+◌, ◌&&◌, Bool, true, false, List, [], ◌∷◌, ◌++◌, length, take, drop, refl, ap, ◌∙◌, arith}
use Rattle.std.proofs.Math.Seq.{take-append_seam, drop-append_seam}
use Rattle.std.specs.List.{list_all, prefix_len}

pub and_first : (a b : Bool) → (a && b) ≡ true → a ≡ true
and_first true b both = refl
and_first false b both = both

pub and_second : (a b : Bool) → (a && b) ≡ true → b ≡ true
and_second true b both = both
and_second false b both = absurd (cc both)

up : (n : ℕ) → 1 + n ≡ suc n
up n = omega arith

prefix_by : (p : ℕ → Bool) (octet : ℕ) (text : List ℕ) → p octet ≡ true → prefix_len p (octet ∷ text) ≡ suc (prefix_len p text)
prefix_by p octet text is = rw is (up (prefix_len p text))

prefix_none : (p : ℕ → Bool) (octet : ℕ) (text : List ℕ) → p octet ≡ false → prefix_len p (octet ∷ text) ≡ 0
prefix_none p octet text is = rw is refl

all_by : (p : ℕ → Bool) (octet : ℕ) (text : List ℕ) (test : Bool) → p octet ≡ test → list_all p (take (prefix_len p text) text) ≡ true
    → list_all p (take (prefix_len p (octet ∷ text)) (octet ∷ text)) ≡ true
all_by p octet text true is later =
    ap (λ n. list_all p (take n (octet ∷ text))) (prefix_by p octet text is)
    ∙ (ap (λ b. b && list_all p (take (prefix_len p text) text)) is ∙ later)
all_by p octet text false is later = ap (λ n. list_all p (take n (octet ∷ text))) (prefix_none p octet text is)

-- its octets do
pub all_front : (p : ℕ → Bool) (text : List ℕ) → list_all p (take (prefix_len p text) text) ≡ true
all_front p [] = refl
all_front p (octet ∷ text) = all_by p octet text (p octet) refl (all_front p text)

-- nothing stands there, or an octet that doesn't pass
abbrev pub Stops : (ℕ → Bool) → List ℕ → Type 0
Stops p [] = Unit {0}
Stops p (octet ∷ rest) = p octet ≡ false

stops_by : (p : ℕ → Bool) (octet : ℕ) (text : List ℕ) (test : Bool) → p octet ≡ test → Stops p (drop (prefix_len p text) text)
    → Stops p (drop (prefix_len p (octet ∷ text)) (octet ∷ text))
stops_by p octet text true is later = rw (prefix_by p octet text is) later
stops_by p octet text false is later = rw (prefix_none p octet text is) is

-- the one behind it doesn't
pub stops_behind : (p : ℕ → Bool) (text : List ℕ) → Stops p (drop (prefix_len p text) text)
stops_behind p [] = tt
stops_behind p (octet ∷ text) = stops_by p octet text (p octet) refl (stops_behind p text)

-- so it is the front of which both are true
pub front_length : (p : ℕ → Bool) (front rest : List ℕ) → list_all p front ≡ true → Stops p rest → prefix_len p (front ++ rest) ≡ length front
front_length p [] [] each stops = refl
front_length p [] (octet ∷ rest) each stops = prefix_none p octet rest stops
front_length p (octet ∷ front) rest each stops =
    prefix_by p octet (front ++ rest) (and_first (p octet) (list_all p front) each)
    ∙ ap suc (front_length p front rest (and_second (p octet) (list_all p front) each) stops)

pub front_is : (p : ℕ → Bool) (front rest : List ℕ) → list_all p front ≡ true → Stops p rest → take (prefix_len p (front ++ rest)) (front ++ rest) ≡ front
front_is p front rest each stops = ap (λ n. take n (front ++ rest)) (front_length p front rest each stops) ∙ take-append_seam front rest

pub behind_is : (p : ℕ → Bool) (front rest : List ℕ) → list_all p front ≡ true → Stops p rest → drop (prefix_len p (front ++ rest)) (front ++ rest) ≡ rest
behind_is p front rest each stops = ap (λ n. drop n (front ++ rest)) (front_length p front rest each stops) ∙ drop-append_seam front rest
