-- The longest spelling at a front, and the token that it is.
use Rattle.std.proofs.Common.{◌≡◌, ◌⊎◌, ℕ, ◌<◌, ◌≤◌, List, length, take, drop, subst, inl, inr, arith}
use Rattle.sieve_lex.specs.declared.token.Content.{Content}
use Rattle.sieve_lex.specs.declared.front.Front.{Front}
use Rattle.sieve_lex.specs.Shape.{IsTokenShape}
use Rattle.sieve_lex.specs.Spelling.{IsToken, IsNumberInRange, OpensText}
use Rattle.sieve_lex.specs.Front.{IsFront}

-- the first n octets spell this, and whatever else a front spells is shorter
pub record IsBest (octets : List ℕ) (v : Content) (n : ℕ) : Type 0 where
  pub within : n ≤ length octets
  pub shape : IsTokenShape v (take n octets) (drop n octets)
  pub best : (v' : Content) (m : ℕ) → m ≤ length octets → IsTokenShape v' (take m octets) (drop m octets) → (m < n) ⊎ ((m ≡ n) × (v' ≡ v))

-- any token at that front is this one
pub best_only : (octets : List ℕ) (v : Content) (n : ℕ) → IsBest octets v n → (v' : Content) (m : ℕ) → IsToken octets v' m → (m ≡ n) × (v' ≡ v)
best_only octets v n b v' m t =
    elim (b.best v' m t.within t.shape) [ inl less ↦ absurd (t.longest v n less b.within b.shape) | inr same ↦ same ]

pub best_front : (octets : List ℕ) (f g : Front) → IsBest octets f.content f.len → IsFront octets g → g ≡ f
best_front octets f g b t =
    let same : (g.len ≡ f.len) × (g.content ≡ f.content) = best_only octets _ _ b _ _ t in
    λ i. record { content = same.1 i; len = same.0 i }

-- it is a token where its number is in range and no text of several lines is meant
pub best_found : (octets : List ℕ) (f : Front) → IsBest octets f.content f.len → IsNumberInRange f.content → (OpensText f.content (drop f.len octets) → ⊥) → IsFront octets f × ((g : Front) → IsFront octets g → g ≡ f)
best_found octets f b range bare = (
  record {
    within = b.within;
    shape = b.shape;
    longest = λ v m less within shape. elim (b.best v m within shape) [ inl l ↦ omega arith | inr same ↦ (let e : m ≡ f.len = same.0 in omega arith) ];
    in_range = range;
    bare = bare;
  },
  λ g t. best_front octets f g b t,
)

-- where its number is too large there is no token
pub best_too_large : (octets : List ℕ) (v : Content) (n : ℕ) → IsBest octets v n → (IsNumberInRange v → ⊥) → (g : Front) → IsFront octets g → ⊥
best_too_large octets v n b out g t =
    let same : (g.len ≡ n) × (g.content ≡ v) = best_only octets v n b _ _ t in
    out (subst IsNumberInRange same.1 t.in_range)

-- the one token at the front
abbrev pub IsFound : List ℕ → Front → Type 0
IsFound octets f = IsFront octets f × ((g : Front) → IsFront octets g → g ≡ f)

-- the same one, told by other words
pub found_at : (octets : List ℕ) (v w : Content) (n m : ℕ) → v ≡ w → n ≡ m → IsFound octets (record { content = v; len = n }) → IsFound octets (record { content = w; len = m })
found_at octets v w n m ve ne found =
    let P : Content → Type 0 = λ x. IsFound octets (record { content = x; len = n }) in
    let Q : ℕ → Type 0 = λ x. IsFound octets (record { content = w; len = x }) in
    subst Q ne (subst P ve found)
