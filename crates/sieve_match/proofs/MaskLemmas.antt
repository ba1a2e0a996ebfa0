-- The bits of masks, place by place, and those of a search by them.
use Rattle.std.proofs.Common.{◌≡◌, ◌≢◌, ◌==◌, ◌↔◌, ◌⊎◌, ℕ, List, length, slice_index, suc, ◌+◌, ◌-◌, ◌*◌, ◌/◌, ◌%◌, ◌^◌, ◌<◌, ◌≤◌, Bool, true, inl, inr, bit_or, bit_and, w64, arith, ap, sym, subst, ◌∙◌, ⊎_elim, div-add-mod'}
use Rattle.std.specs.Int.{bit_at}
use Rattle.std.proofs.lemmas.Bool.{cases_lt, cases_eq, eqb-true, eq-eqb}
use Rattle.std.proofs.lemmas.Nat.Bits.{bit_at_and, bit_at_or, bit_at_cat_low, bit_at-suc, bit_at_mask_inside, bit_at_mask_below, bit_at_set_same, bit_at_set_other}
use Rattle.sieve_match.specs.Places.{AreMasks, FitsAt}
use Rattle.sieve_match.specs.Unasked.{AreUnasked}
use Rattle.sieve_match.specs.declared.masks.Masks.{Masks}

-- a term of the type given
abbrev by : (A : Type 0) → A → A
by A a = a

-- ---- a place more

-- what clearing a bit of an octet's number does
pub record IsCleared (octet bit : ℕ) (after before : List ℕ) : Type 0 where
  pub others : (b : ℕ) → b ≢ octet → slice_index after b ≡ slice_index before b
  pub cleared : bit_at (slice_index after octet) bit ≡ 0
  pub kept : (j : ℕ) → j < 64 → j ≢ bit → bit_at (slice_index after octet) j ≡ bit_at (slice_index before octet) j

module _ (one bit : ℕ) (after before : List ℕ) (h : IsCleared one bit after before) where
  -- the other bits of each octet stay
  pub kept_of : (b j : ℕ) → j < 64 → j ≢ bit → bit_at (slice_index after b) j ≡ bit_at (slice_index before b) j
  kept_of b j low apart = ⊎_elim
      (λ same. subst (λ o. bit_at (slice_index after o) j ≡ bit_at (slice_index before o) j) (sym same) (h.kept j low apart))
      (λ differs. ap (λ v. bit_at v j) (h.others b differs))
      (cases_eq b one)

  -- a bit that was clear stays so
  pub clear_of : (b : ℕ) → bit_at (slice_index before b) bit ≡ 0 → bit_at (slice_index after b) bit ≡ 0
  clear_of b clear = ⊎_elim
      (λ same. subst (λ o. bit_at (slice_index after o) bit ≡ 0) (sym same) h.cleared)
      (λ differs. ap (λ v. bit_at v bit) (h.others b differs) ∙ clear)
      (cases_eq b one)

  pub clear_here : (b : ℕ) → b ≡ one → bit_at (slice_index after b) bit ≡ 0
  clear_here b same = subst (λ o. bit_at (slice_index after o) bit ≡ 0) (sym same) h.cleared

  pub set_of : (b : ℕ) → b ≢ one → bit_at (slice_index before b) bit ≡ 1 → bit_at (slice_index after b) bit ≡ 1
  set_of b differs set = ap (λ v. bit_at v bit) (h.others b differs) ∙ set

module _ (old middle last : List ℕ) (choosy len octet other : ℕ) (short : len < 63) (unasked : AreUnasked old choosy len)
    (first : IsCleared octet len middle old) (second : IsCleared other len last middle) where
  -- the number of the choosy places with one more
  abbrev more_choosy : ℕ
  more_choosy = bit_or choosy (1 * 2 ^ len % 2 ^ 64)

  two_kept : (b j : ℕ) → j < 64 → j ≢ len → bit_at (slice_index last b) j ≡ bit_at (slice_index old b) j
  two_kept b j low apart = kept_of other len last middle second b j low apart ∙ kept_of octet len middle old first b j low apart

  -- places that nobody asked for stay so
  pub unasked_after : AreUnasked last more_choosy (len + 1)
  unasked_after j from low =
      let apart : j ≢ len = λ e. absurd (omega (arith, e, from)) in
      let before = unasked j (omega (arith, from)) low in (
        bit_at_set_other w64 choosy len (omega (arith, short)) j apart ∙ before.0,
        λ b within. two_kept b j low apart ∙ before.1 b within,
      )

  -- the new place takes the two octets
  module _ (fits : ℕ → ℕ → Bool) (image : ℕ → ℕ) (takes : (b : ℕ) → b < 256 → fits len b ≡ (image octet == image b))
      (alike : (b : ℕ) → b < 256 → (image octet ≡ image b) ↔ ((b ≡ octet) ⊎ (b ≡ other))) where
    pub new_place : (b : ℕ) → b < 256 → (bit_at (bit_and (slice_index last b) more_choosy) len ≡ 0) ↔ (fits len b ≡ true)
    new_place b within =
        let asked : bit_at more_choosy len ≡ 1 = bit_at_set_same w64 choosy len (omega (arith, short)) in
        let both = bit_at_and (slice_index last b) more_choosy len in
        let before = (unasked len (omega arith) (omega (arith, short))).1 b within in (
          λ clear.
              let zero : bit_at (slice_index last b) len ≡ 0 = omega (arith, clear, both, asked) in
              ⊎_elim
              (λ is_other. takes b within ∙ eq-eqb (image octet) (image b) ((alike b within).1 (inr is_other)))
              (λ not_other. ⊎_elim
              (λ is_one. takes b within ∙ eq-eqb (image octet) (image b) ((alike b within).1 (inl is_one)))
              (λ not_one. absurd (omega (arith, zero, set_of other len last middle second b not_other (set_of octet len middle old first b not_one before))))
              (cases_eq b octet))
              (cases_eq b other),
          λ fit.
              let same : image octet ≡ image b = eqb-true (image octet) (image b) (sym (takes b within) ∙ fit) in
              let zero : bit_at (slice_index last b) len ≡ 0 = ⊎_elim
              (λ is_one. clear_of other len last middle second b (clear_here octet len middle old first b is_one))
              (λ is_other. clear_here other len last middle second b is_other)
              ((alike b within).0 same) in
              omega (arith, zero, both),
        )

    -- and the places before it what they took
    pub old_place : (b j : ℕ) → j < len → bit_at (bit_and (slice_index last b) more_choosy) j ≡ bit_at (bit_and (slice_index old b) choosy) j
    old_place b j below =
        let apart : j ≢ len = λ e. absurd (omega (arith, e, below)) in
        let now = bit_at_and (slice_index last b) more_choosy j in
        let then = bit_at_and (slice_index old b) choosy j in
        let octets = two_kept b j (omega (arith, below, short)) apart in
        let asked : bit_at more_choosy j ≡ bit_at choosy j = bit_at_set_other w64 choosy len (omega (arith, short)) j apart in
        omega (arith, now, then, octets, asked)

    pub each_after : ((b j : ℕ) → b < 256 → j < len → (bit_at (bit_and (slice_index old b) choosy) j ≡ 0) ↔ (fits j b ≡ true))
        → (b j : ℕ) → b < 256 → j < len + 1 → (bit_at (bit_and (slice_index last b) more_choosy) j ≡ 0) ↔ (fits j b ≡ true)
    each_after before b j within below = ⊎_elim
        (λ same. subst (λ i. (bit_at (bit_and (slice_index last b) more_choosy) i ≡ 0) ↔ (fits i b ≡ true)) (sym same) (new_place b within))
        (λ differs.
        let low : j < len = omega (arith, below, differs) in
        subst (λ v. (v ≡ 0) ↔ (fits j b ≡ true)) (sym (old_place b j low)) (before b j within low))
        (cases_eq j len)

-- which octets the places take, as the bits tell it
abbrev pub taken : Masks → ℕ → ℕ → Bool
taken masks t octet = bit_at (bit_and (slice_index masks.octets octet) masks.choosy) t == 0

-- ---- a search

-- the first j places take the octets before place i
abbrev pub Ends : (ℕ → ℕ → Bool) → (ℕ → ℕ) → ℕ → ℕ → Type 0
Ends fits h i j = (j ≤ i) × ((t : ℕ) → t < j → fits t (h (i - j + t)) ≡ true)

-- the n places take the octets from place k on
abbrev pub Window : (ℕ → ℕ → Bool) → (ℕ → ℕ) → ℕ → ℕ → Type 0
Window fits h n k = (t : ℕ) → t < n → fits t (h (k + t)) ≡ true

-- what the state says after i octets: bit j is clear where the first j places end there
pub record IsState (fits : ℕ → ℕ → Bool) (h : ℕ → ℕ) (n i state : ℕ) : Type 0 where
  pub low : bit_at state 0 ≡ 0
  pub each : (j : ℕ) → 0 < j → j ≤ n → (bit_at state j ≡ 0) ↔ Ends fits h i j

-- a bit of a number one place up, within 64 bits
pub bit_at-shifted : (r j : ℕ) → 0 < j → j < 64 → bit_at ((r * 2) % 2 ^ 64) j ≡ bit_at r (j - 1)
bit_at-shifted r j pos high =
    let parts : ((r * 2) / 2 ^ 64) * 2 ^ 64 + (r * 2) % 2 ^ 64 ≡ r * 2 = div-add-mod' (r * 2) (2 ^ 64) in
    let kept : bit_at (((r * 2) / 2 ^ 64) * 2 ^ 64 + (r * 2) % 2 ^ 64) j ≡ bit_at ((r * 2) % 2 ^ 64) j = bit_at_cat_low ((r * 2) / 2 ^ 64) 64 ((r * 2) % 2 ^ 64) j high in
    let place : suc (j - 1) ≡ j = omega arith in
    let half : (r * 2) / 2 ≡ r = omega arith in
    sym kept ∙ ap (λ v. bit_at v j) parts ∙ ap (bit_at (r * 2)) (sym place) ∙ bit_at-suc (r * 2) (j - 1) ∙ ap (λ v. bit_at v (j - 1)) half

pub bit_at-shifted_low : (r : ℕ) → bit_at ((r * 2) % 2 ^ 64) 0 ≡ 0
bit_at-shifted_low r = omega arith

module _ (fits : ℕ → ℕ → Bool) (h : ℕ → ℕ) (n i state mask : ℕ) (short : n < 64) (old : IsState fits h n i state)
    (masked : (j : ℕ) → j < n → (bit_at mask j ≡ 0) ↔ (fits j (h i) ≡ true)) where
  -- one more octet: a place ends here if the one before it ended at the last octet and this one fits it
  pub IsState-next : IsState fits h n (i + 1) ((bit_or state mask * 2) % 2 ^ 64)
  IsState-next = record {
    low = bit_at-shifted_low (bit_or state mask);
    each = λ j pos high.
        let bit = bit_at-shifted (bit_or state mask) j pos (omega arith) in
        let both = bit_at_or state mask (j - 1) in
        let one = masked (j - 1) (omega arith) in (
          λ clear.
              let mask_clear : bit_at mask (j - 1) ≡ 0 = omega arith in
              let state_clear : bit_at state (j - 1) ≡ 0 = omega arith in
              let last = one.0 mask_clear in
              ⊎_elim
              (λ first. (
                omega arith,
                λ t l.
                    let zero : t ≡ 0 = omega arith in
                    let place : i ≡ i + 1 - j + t = omega arith in
                    subst (λ k. fits k (h (i + 1 - j + t)) ≡ true) (by (j - 1 ≡ t) (omega arith)) (subst (λ p. fits (j - 1) (h p) ≡ true) place last),
              ))
              (λ later.
              let before = (old.each (j - 1) (omega arith) (omega arith)).0 state_clear in
              let near = before.0 in (
                omega arith,
                λ t l. ⊎_elim
                    (λ early.
                    let place : i - (j - 1) + t ≡ i + 1 - j + t = omega arith in
                    subst (λ p. fits t (h p) ≡ true) place (before.1 t early))
                    (λ final.
                    let place : i ≡ i + 1 - j + t = omega arith in
                    subst (λ k. fits k (h (i + 1 - j + t)) ≡ true) (by (j - 1 ≡ t) (omega arith)) (subst (λ p. fits (j - 1) (h p) ≡ true) place last))
                    (cases_lt t (j - 1)),
              ))
              (cases_eq j 1),
          λ ends.
              let near = ends.0 in
              let place : i + 1 - j + (j - 1) ≡ i = omega arith in
              let last = subst (λ p. fits (j - 1) (h p) ≡ true) place (ends.1 (j - 1) (omega arith)) in
              let mask_clear = one.1 last in
              let state_clear : bit_at state (j - 1) ≡ 0 = ⊎_elim
              (λ first.
              let e : j - 1 ≡ 0 = omega arith in
              subst (λ k. bit_at state k ≡ 0) (sym e) old.low)
              (λ later. (old.each (j - 1) (omega arith) (omega arith)).1 (
                omega arith,
                λ t l.
                    let place : i + 1 - j + t ≡ i - (j - 1) + t = omega arith in
                    subst (λ p. fits t (h p) ≡ true) place (ends.1 t (omega arith)),
              ))
              (cases_eq j 1) in
              omega arith,
        );
  }

-- before any octet: only no place has ended
pub IsState-start : (fits : ℕ → ℕ → Bool) (h : ℕ → ℕ) (n : ℕ) → n < 64 → IsState fits h n 0 (2 ^ 64 - 2 ^ 1)
IsState-start fits h n short = record {
  low = bit_at_mask_below 1 64 0 (omega arith);
  each = λ j pos high. (
    λ clear. absurd (omega (arith, bit_at_mask_inside 1 64 j (omega arith) (omega arith))),
    λ ends. absurd (omega (arith, ends.0)),
  );
}

-- the places that the bits tell are those that fits says
module _ (masks : Masks) (fits : ℕ → ℕ → Bool) (n : ℕ) (are : AreMasks fits n masks) (text : List ℕ) (octets : (i : ℕ) → slice_index text i < 256) where
  pub Window-from : (k : ℕ) → FitsAt fits n text k → Window (taken masks) (slice_index text) masks.len k
  Window-from k stands t below =
      let len = are.len in
      let low : t < n = omega (arith, below, len) in
      eq-eqb (bit_at (bit_and (slice_index masks.octets (slice_index text (k + t))) masks.choosy) t) 0
      ((are.each (slice_index text (k + t)) t (octets (k + t)) low).1 (stands.each t low))

  pub FitsAt-from : (k : ℕ) → k + masks.len ≤ length text → Window (taken masks) (slice_index text) masks.len k → FitsAt fits n text k
  FitsAt-from k within window =
      let len = are.len in
      record {
        within = omega (arith, within, len);
        each = λ j below.
            (are.each (slice_index text (k + j)) j (octets (k + j)) below).0
            (eqb-true (bit_at (bit_and (slice_index masks.octets (slice_index text (k + j))) masks.choosy) j) 0 (window j (omega (arith, below, len))));
      }

module _ (masks : Masks) (text : List ℕ) (from i state : ℕ) (short : masks.len < 64) (after : from ≤ i) where
  -- what the places of a search are numbered from
  abbrev behind : ℕ → ℕ
  behind t = slice_index text (from + t)

  -- the state after one more octet
  abbrev pub next_state : ℕ
  next_state = (bit_or state (bit_and (slice_index masks.octets (slice_index text i)) masks.choosy) * 2) % 2 ^ 64

  pub IsState-step : IsState (taken masks) behind masks.len (i - from) state → IsState (taken masks) behind masks.len (i + 1 - from) next_state
  IsState-step old =
      let mask = bit_and (slice_index masks.octets (slice_index text i)) masks.choosy in
      let place : i ≡ from + (i - from) = omega arith in
      let count : i - from + 1 ≡ i + 1 - from = omega arith in
      subst (λ n. IsState (taken masks) behind masks.len n next_state) count
      (IsState-next (taken masks) behind masks.len (i - from) state mask short old
      (λ j below. subst (λ p. (bit_at mask j ≡ 0) ↔ (taken masks j (slice_index text p) ≡ true)) place
      (λ is. eq-eqb (bit_at mask j) 0 is, λ is. eqb-true (bit_at mask j) 0 is)))

  module _ (some : 0 < masks.len) (new : IsState (taken masks) behind masks.len (i + 1 - from) next_state) where
    -- the last place's bit is clear where the places take the octets that end there
    pub Window-ended : bit_at next_state masks.len ≡ 0 → (from + masks.len ≤ i + 1) × Window (taken masks) (slice_index text) masks.len (i + 1 - masks.len)
    Window-ended clear =
        let ends = (new.each masks.len some (omega arith)).0 clear in
        let near : from + masks.len ≤ i + 1 = omega (arith, ends.0, after, some) in (
          near,
          λ t below.
              let place : from + (i + 1 - from - masks.len + t) ≡ i + 1 - masks.len + t = omega (arith, near) in
              subst (λ p. taken masks t (slice_index text p) ≡ true) place (ends.1 t below),
        )

    pub ended_clear : (k : ℕ) → from ≤ k → k + masks.len ≡ i + 1 → Window (taken masks) (slice_index text) masks.len k → bit_at next_state masks.len ≡ 0
    ended_clear k low ends window = (new.each masks.len some (omega arith)).1 (
      omega (arith, low, ends),
      λ t below.
          let place : k + t ≡ from + (i + 1 - from - masks.len + t) = omega (arith, low, ends) in
          subst (λ p. taken masks t (slice_index text p) ≡ true) place (window t below),
    )
