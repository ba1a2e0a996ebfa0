-- How a match goes on from segment to segment.
use Rattle.std.proofs.Common.{refl, true, ◌≡◌, ℕ, zero, suc, ◌+◌, ◌-◌, ◌<◌, ◌≤◌, ◌↔◌, List, [], ◌∷◌, length, drop, get_or, sym, ap, subst, ◌∙◌, ⊎_elim, arith}
use Rattle.std.proofs.lemmas.List.{drop_more, drop_all, drop-drop, length-drop}
use Rattle.std.proofs.lemmas.Bool.{cases_lt, false≢true, eqb-true, eq-eqb}
use Rattle.memchr.specs.Find.{Nowhere}
use Rattle.sieve_match.specs.Glob.{Glob}
use Rattle.sieve_match.specs.Segments.{segment_len, TakesOctet, takes, ItemsStandAt}
use Rattle.sieve_match.specs.declared.pattern.GlobItem.{GlobItem}
use Rattle.sieve_match.specs.declared.pattern.GlobItem.TheVariants.{Star, One, Exact}

pub segment_len-nil : segment_len [] ≡ 0
unfolding segment_len
segment_len-nil = refl

pub segment_len-star : (rest : List GlobItem) → segment_len (Star ∷ rest) ≡ 0
unfolding segment_len
segment_len-star rest = refl

pub segment_len-one : (rest : List GlobItem) → segment_len (One ∷ rest) ≡ segment_len rest + 1
unfolding segment_len
segment_len-one rest = omega arith

pub segment_len-exact : (octet : ℕ) (rest : List GlobItem) → segment_len (Exact octet ∷ rest) ≡ segment_len rest + 1
unfolding segment_len
segment_len-exact octet rest = omega arith

-- a segment is part of the items
pub segment_len-within : (is : List GlobItem) → segment_len is ≤ length is
unfolding segment_len
segment_len-within [] = omega arith
segment_len-within (Star ∷ rest) = omega arith
segment_len-within (One ∷ rest) = omega (arith, segment_len-within rest)
segment_len-within (Exact octet ∷ rest) = omega (arith, segment_len-within rest)

-- what an item that is one octet takes
pub Takes-exact : (f : ℕ → ℕ) (item : GlobItem) (octet x : ℕ) → item ≡ Exact octet → f octet ≡ f x → TakesOctet f item x
unfolding TakesOctet
Takes-exact f item octet x is same = subst (λ i. TakesOctet f i x) (sym is) same

pub Exact-takes : (f : ℕ → ℕ) (item : GlobItem) (octet x : ℕ) → item ≡ Exact octet → TakesOctet f item x → f octet ≡ f x
unfolding TakesOctet
Exact-takes f item octet x is takes = subst (λ i. TakesOctet f i x) is takes

pub Takes-one : (f : ℕ → ℕ) (item : GlobItem) (x : ℕ) → item ≡ One → TakesOctet f item x
unfolding TakesOctet
Takes-one f item x is = subst (λ i. TakesOctet f i x) (sym is) tt

pub Star-takes : (f : ℕ → ℕ) (item : GlobItem) (x : ℕ) → item ≡ Star → TakesOctet f item x → ⊥
unfolding TakesOctet
Star-takes f item x is takes = subst (λ i. TakesOctet f i x) is takes

-- no item before the first star is one
pub no_star : (is : List GlobItem) (j : ℕ) → j < segment_len is → get_or is j Star ≡ Star → ⊥
unfolding segment_len TakesOctet
no_star [] j low e = absurd (omega (arith, low))
no_star (Star ∷ rest) j low e = absurd (omega (arith, low))
no_star (One ∷ rest) zero low e = subst (λ i. TakesOctet (λ x. x) i 0) e tt
no_star (One ∷ rest) (suc j) low e = no_star rest j (omega (arith, low)) e
no_star (Exact octet ∷ rest) zero low e = subst (λ i. TakesOctet (λ x. x) i octet) e refl
no_star (Exact octet ∷ rest) (suc j) low e = no_star rest j (omega (arith, low)) e

-- the two ways to say what an item takes
pub takes-Takes : (f : ℕ → ℕ) (item : GlobItem) (x : ℕ) → takes f item x ≡ true → TakesOctet f item x
unfolding TakesOctet
takes-Takes f Star x is = absurd (false≢true is)
takes-Takes f One x is = tt
takes-Takes f (Exact octet) x is = eqb-true (f octet) (f x) is

pub Takes-takes : (f : ℕ → ℕ) (item : GlobItem) (x : ℕ) → TakesOctet f item x → takes f item x ≡ true
unfolding TakesOctet
Takes-takes f Star x h = absurd h
Takes-takes f One x h = refl
Takes-takes f (Exact octet) x h = eq-eqb (f octet) (f x) h

module _ (f : ℕ → ℕ) (v : List ℕ) where
  module _ (item : GlobItem) (rest : List GlobItem) (m k : ℕ) where
    first_takes : TakesOctet f item (get_or v k 0) → ItemsStandAt f rest m v (k + 1) → (j : ℕ) → j < suc m → TakesOctet f (get_or (item ∷ rest) j Star) (get_or v (k + j) 0)
    first_takes here after zero l = subst (λ q. TakesOctet f item (get_or v q 0)) (omega arith) here
    first_takes here after (suc j) l = subst (λ q. TakesOctet f (get_or rest j Star) (get_or v q 0)) (omega arith) (after.takes j (omega arith))

    -- the first item takes an octet and the others stand after it
    StandAt-cons : TakesOctet f item (get_or v k 0) → ItemsStandAt f rest m v (k + 1) → ItemsStandAt f (item ∷ rest) (suc m) v k
    StandAt-cons here after = record { fits = omega (arith, after.fits); takes = first_takes here after }

    pub StandAt-head : ItemsStandAt f (item ∷ rest) (suc m) v k → TakesOctet f item (get_or v k 0)
    StandAt-head h = subst (λ q. TakesOctet f item (get_or v q 0)) (omega arith) (h.takes 0 (omega arith))

    pub StandAt-tail : ItemsStandAt f (item ∷ rest) (suc m) v k → ItemsStandAt f rest m v (k + 1)
    StandAt-tail h = record {
      fits = omega (arith, h.fits);
      takes = λ j l. subst (λ q. TakesOctet f (get_or rest j Star) (get_or v q 0)) (omega arith) (h.takes (suc j) (omega arith));
    }

  none_stand : (is : List GlobItem) (k : ℕ) → k ≤ length v → ItemsStandAt f is 0 v k
  none_stand is k within = record { fits = omega arith; takes = λ j l. absurd (omega arith) }

  -- what an item that is no star takes, in the definition's words
  Glob-one : (rest : List GlobItem) (k : ℕ) → Glob f (One ∷ rest) (drop k v) → (k < length v) × Glob f rest (drop (k + 1) v)
  unfolding Glob
  Glob-one rest k h = ⊎_elim
      (λ inside. (inside, subst (Glob f (One ∷ rest)) (drop_more v k 0 inside) h))
      (λ past. absurd (subst (Glob f (One ∷ rest)) (drop_all k v past) h))
      (cases_lt k (length v))

  one-Glob : (rest : List GlobItem) (k : ℕ) → k < length v → Glob f rest (drop (k + 1) v) → Glob f (One ∷ rest) (drop k v)
  unfolding Glob
  one-Glob rest k inside h = subst (Glob f (One ∷ rest)) (sym (drop_more v k 0 inside)) h

  Glob-exact : (octet : ℕ) (rest : List GlobItem) (k : ℕ) → Glob f (Exact octet ∷ rest) (drop k v)
      → (k < length v) × (f octet ≡ f (get_or v k 0)) × Glob f rest (drop (k + 1) v)
  unfolding Glob
  Glob-exact octet rest k h = ⊎_elim
      (λ inside. let both = subst (Glob f (Exact octet ∷ rest)) (drop_more v k 0 inside) h in (inside, both.0, both.1))
      (λ past. absurd (subst (Glob f (Exact octet ∷ rest)) (drop_all k v past) h))
      (cases_lt k (length v))

  exact-Glob : (octet : ℕ) (rest : List GlobItem) (k : ℕ) → k < length v → f octet ≡ f (get_or v k 0) → Glob f rest (drop (k + 1) v)
      → Glob f (Exact octet ∷ rest) (drop k v)
  unfolding Glob
  exact-Glob octet rest k inside same h = subst (Glob f (Exact octet ∷ rest)) (sym (drop_more v k 0 inside)) (same, h)

  -- a match from a place on: the segment stands there, and the items after it match from its end on
  pub Glob-stands : (is : List GlobItem) (k : ℕ) → k ≤ length v → Glob f is (drop k v)
      → ItemsStandAt f is (segment_len is) v k × Glob f (drop (segment_len is) is) (drop (k + segment_len is) v)
  unfolding segment_len TakesOctet
  Glob-stands [] k within h = (none_stand [] k within, subst (λ q. Glob f [] (drop q v)) (omega arith) h)
  Glob-stands (Star ∷ rest) k within h = (none_stand (Star ∷ rest) k within, subst (λ q. Glob f (Star ∷ rest) (drop q v)) (omega arith) h)
  Glob-stands (One ∷ rest) k within h =
      let first = Glob-one rest k h in
      let inside = first.0 in
      let others = Glob-stands rest (k + 1) (omega arith) first.1 in (
        StandAt-cons One rest (segment_len rest) k tt others.0,
        subst (λ q. Glob f (drop (segment_len rest) rest) (drop q v)) (omega arith) others.1,
      )
  Glob-stands (Exact octet ∷ rest) k within h =
      let first = Glob-exact octet rest k h in
      let inside = first.0 in
      let others = Glob-stands rest (k + 1) (omega arith) first.2 in (
        StandAt-cons (Exact octet) rest (segment_len rest) k first.1 others.0,
        subst (λ q. Glob f (drop (segment_len rest) rest) (drop q v)) (omega arith) others.1,
      )

  pub stands-Glob : (is : List GlobItem) (k : ℕ) → ItemsStandAt f is (segment_len is) v k → Glob f (drop (segment_len is) is) (drop (k + segment_len is) v)
      → Glob f is (drop k v)
  unfolding segment_len TakesOctet
  stands-Glob [] k stands h = subst (λ q. Glob f [] (drop q v)) (omega arith) h
  stands-Glob (Star ∷ rest) k stands h = subst (λ q. Glob f (Star ∷ rest) (drop q v)) (omega arith) h
  stands-Glob (One ∷ rest) k stands h =
      let fits = stands.fits in
      one-Glob rest k (omega arith)
      (stands-Glob rest (k + 1) (StandAt-tail One rest (segment_len rest) k stands)
      (subst (λ q. Glob f (drop (segment_len rest) rest) (drop q v)) (omega arith) h))
  stands-Glob (Exact octet ∷ rest) k stands h =
      let fits = stands.fits in
      exact-Glob octet rest k (omega arith) (StandAt-head (Exact octet) rest (segment_len rest) k stands)
      (stands-Glob rest (k + 1) (StandAt-tail (Exact octet) rest (segment_len rest) k stands)
      (subst (λ q. Glob f (drop (segment_len rest) rest) (drop q v)) (omega arith) h))

  -- a star takes the octets up to some place
  pub Glob-star : (is : List GlobItem) (k : ℕ) → k ≤ length v → Glob f (Star ∷ is) (drop k v) → (q : ℕ) × (k ≤ q) × (q ≤ length v) × Glob f is (drop q v)
  unfolding Glob
  Glob-star is k within h =
      let short = h.1 in
      (k + h.0, omega arith, omega (arith, length-drop k v), subst (Glob f is) (drop-drop h.0 k v) h.2)

  pub star-Glob : (is : List GlobItem) (k q : ℕ) → k ≤ q → q ≤ length v → Glob f is (drop q v) → Glob f (Star ∷ is) (drop k v)
  unfolding Glob
  star-Glob is k q from to h =
      let place : k + (q - k) ≡ q = omega arith in
      (q - k, omega (arith, length-drop k v), subst (Glob f is) (ap (λ n. drop n v) (sym place) ∙ sym (drop-drop (q - k) k v)) h)

  pub Glob-nil : (k : ℕ) → k ≤ length v → Glob f [] (drop k v) ↔ (k ≡ length v)
  unfolding Glob
  Glob-nil k within = (λ e. omega (arith, length-drop k v, ap length e), λ e. drop_all k v (omega arith))

  -- the same of a segment whose length is known
  module _ (is : List GlobItem) (m : ℕ) (counted : m ≡ segment_len is) where
    pub Glob-parts : (k : ℕ) → k ≤ length v → Glob f is (drop k v) → ItemsStandAt f is m v k × Glob f (drop m is) (drop (k + m) v)
    Glob-parts k within h = subst (λ n. ItemsStandAt f is n v k × Glob f (drop n is) (drop (k + n) v)) (sym counted) (Glob-stands is k within h)

    pub parts-Glob : (k : ℕ) → ItemsStandAt f is m v k → Glob f (drop m is) (drop (k + m) v) → Glob f is (drop k v)
    parts-Glob k stands h =
        stands-Glob is k (subst (λ n. ItemsStandAt f is n v k) counted stands) (subst (λ n. Glob f (drop n is) (drop (k + n) v)) counted h)

    -- the items before the first star stand at the value's front
    pub head_serves : ItemsStandAt f is m v 0 → Glob f is v ↔ Glob f (drop m is) (drop m v)
    head_serves stands = (
      λ h. subst (λ q. Glob f (drop m is) (drop q v)) (omega arith) (Glob-parts 0 (omega arith) h).1,
      λ h. parts-Glob 0 stands (subst (λ q. Glob f (drop m is) (drop q v)) (omega arith) h),
    )

    module _ (i : ℕ) (start : i ≤ length v) where
      -- before another star, the first place where a segment stands serves as well as any
      pub first_serves : (rest : List GlobItem) → drop m is ≡ Star ∷ rest → (k : ℕ) → i ≤ k → ItemsStandAt f is m v k → Nowhere (ItemsStandAt f is m v) i k
          → Glob f (Star ∷ is) (drop i v) ↔ Glob f (drop m is) (drop (k + m) v)
      first_serves rest more k low stands before =
          let fits = stands.fits in (
            λ h.
                let some = Glob-star is i start h in
                let q : ℕ = some.0 in
                let from = some.1 in
                let parts = Glob-parts q some.2 some.3 in
                let room = parts.0.fits in
                let not_before : k ≤ q = ⊎_elim (λ early. absurd (before q from early parts.0)) (λ late. late) (cases_lt q k) in
                let later = Glob-star rest (q + m) room (subst (λ l. Glob f l (drop (q + m) v)) more parts.1) in
                subst (λ l. Glob f l (drop (k + m) v)) (sym more) (star-Glob rest (k + m) later.0 (omega (arith, later.1)) later.2 later.3),
            λ h. star-Glob is i k low (omega arith) (parts-Glob k stands h),
          )

      -- where it stands nowhere there is no match
      pub none_serves : Nowhere (ItemsStandAt f is m v) i (length v + 1) → Glob f (Star ∷ is) (drop i v) → ⊥
      none_serves nowhere h =
          let some = Glob-star is i start h in
          let within = some.2 in
          let parts = Glob-parts some.0 some.2 some.3 in
          nowhere some.0 some.1 (omega arith) parts.0

      -- the last segment stands at the value's end
      pub last_serves : drop m is ≡ [] → i + m ≤ length v → Glob f (Star ∷ is) (drop i v) ↔ ItemsStandAt f is m v (length v - m)
      last_serves last room = (
        λ h.
            let some = Glob-star is i start h in
            let parts = Glob-parts some.0 some.2 some.3 in
            let fits = parts.0.fits in
            let ended = (Glob-nil (some.0 + m) fits).0 (subst (λ l. Glob f l (drop (some.0 + m) v)) last parts.1) in
            subst (ItemsStandAt f is m v) (omega arith) parts.0,
        λ stands.
            let end : ℕ = length v - m + m in
            star-Glob is i (length v - m) (omega arith) (omega arith)
            (parts-Glob (length v - m) stands (subst (λ l. Glob f l (drop end v)) (sym last) ((Glob-nil end (omega arith)).1 (omega arith)))),
      )

      -- and needs room
      pub last_fits : Glob f (Star ∷ is) (drop i v) → i + m ≤ length v
      last_fits h =
          let some = Glob-star is i start h in
          let from = some.1 in
          let parts = Glob-parts some.0 some.2 some.3 in
          omega (arith, parts.0.fits)
