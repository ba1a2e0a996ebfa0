-- How many steps a search takes.
use Rattle.std.proofs.Common.{refl, ◌≡◌, ℕ, suc, ◌+◌, ◌-◌, ◌*◌, ◌<◌, ◌≤◌, ◌⊎◌, Bool, true, false, cond, nat_lt, List, length, drop, slice_index, count_by, max, sym, ap, ◌∙◌, ⊎_elim, arith, suc-mul, add-mul, mul-add, mul-one, mul_comm, mul-le-mul_left, mul-le-mul_right}
use Rattle.std.specs.List.{list_any}
use Rattle.std.proofs.lemmas.Bool.{cases_lt, false≢true, ltb-true, lt-ltb}
use Rattle.std.proofs.lemmas.List.{drop_all, drop-drop}
use Rattle.std.proofs.lemmas.List.Folds.{list_any_at}
use Rattle.std.proofs.lemmas.List.Sums.{sum_by-take-drop, sum_by-drop_more}
use Rattle.memchr.proofs.lemmas.SuffixLemmas.{IsScan}
use Rattle.sieve_match.specs.Costs.{search_steps, part_steps, is_question_mark, is_star_octet, is_long_key}

-- a term of the type given
abbrev by : (A : Type 0) → A → A
by A a = a

-- the candidate of a scan lies a period or more after the best suffix
pub scan_ahead : {lt : ℕ → ℕ → Type 0} {x : ℕ → ℕ} {m p per cand off : ℕ} → IsScan lt x m p per cand off → p + per ≤ cand
scan_ahead {lt} {x} {m} {p} {per} {cand} {off} h =
    let many = h.many in
    let whole : h.blocks ≡ suc (h.blocks - 1) = omega arith in
    omega (arith, h.aligned, ap (λ b. b * per) whole ∙ suc-mul (h.blocks - 1) per)

-- the steps of the search for a key that is cut. At a place `pos` of the value, where the first `known` octets of the key
-- are known to match, those so far, s, are at most four for each octet that it moved over, and what is known right of the cut
module _ (first begin critical m s pos known : ℕ) (bound : s + 4 * begin + critical ≤ first + 4 * pos + max critical known) where
  -- a mismatch right of the cut, at octet i
  pub steps_right : (t u next i : ℕ) → pos ≤ next → t + pos ≤ s + next + 2 → u + max critical known ≤ t + i + 1 → critical ≤ i
      → u + 4 * begin + critical ≤ first + 4 * (next + (i - critical) + 1) + max critical 0
  steps_right t u next i later candidate compared from_cut = omega arith

  -- a mismatch left of the cut
  pub steps_left : (t u v next i shift keep : ℕ) → pos ≤ next → t + pos ≤ s + next + 2 → u ≤ t + (m - max critical known) → v + known ≤ u + i + 1 → i < critical
      → known ≤ i → critical < m → 0 < shift → critical ≤ shift → (m ≤ shift + critical) ⊎ (m ≤ shift + keep)
      → v + 4 * begin + critical ≤ first + 4 * (next + shift) + max critical keep
  steps_left t u v next i shift keep later candidate right compared below front inside moves left reaches = omega arith

  -- a match
  pub steps_found : (t u v next : ℕ) → begin ≤ pos → pos ≤ next → t + pos ≤ s + next + 2 → u ≤ t + (m - max critical known) → v ≤ u + (critical - known)
      → critical < m → known < m → v ≤ first + 4 * (next - begin) + m + 2
  steps_found t u v next low later candidate right left inside short = omega arith

  -- the value ends
  pub steps_ended : (n : ℕ) → begin ≤ pos → pos ≤ n → critical < m → known < m → s ≤ first + 4 * (n - begin) + m + 2
  steps_ended n low high inside short = omega arith

  -- the value ends before the next place
  pub steps_past : (n t : ℕ) → begin ≤ pos → pos ≤ n → known ≡ 0 → t + pos ≤ s + n + 2 → t ≤ first + 4 * (n - begin) + m + 2
  steps_past n t low high none candidate = omega arith

-- ---- patterns

-- a pattern with a `?` at a place has one
pub has_question : (p : List ℕ) (k : ℕ) → k < length p → slice_index p k ≡ 63 → list_any is_question_mark p ≡ true
has_question p k inside here = list_any_at is_question_mark p k 0 inside (ap is_question_mark here)

-- the asterisks from a place of a pattern on
abbrev pub asterisks : List ℕ → ℕ → ℕ
asterisks p k = count_by is_star_octet (drop k p)

-- fewer from a later place on
pub asterisks-later : (p : List ℕ) (k j : ℕ) → k ≤ j → asterisks p j ≤ asterisks p k
asterisks-later p k j later =
    let place : k + (j - k) ≡ j = omega arith in
    omega (arith, sum_by-take-drop (λ x. cond (is_star_octet x) 1 0) (drop k p) (j - k), ap (count_by is_star_octet) (drop-drop (j - k) k p ∙ ap (λ n. drop n p) place))

-- one more at an asterisk
pub asterisks-at : (p : List ℕ) (k : ℕ) → k < length p → slice_index p k ≡ 42 → asterisks p k ≡ asterisks p (k + 1) + 1
asterisks-at p k inside here =
    omega (arith, sum_by-drop_more (λ x. cond (is_star_octet x) 1 0) p k 0 inside, ap {B = ℕ} (λ x. cond (is_star_octet x) 1 0) here)

-- the steps of the search for a part, by those for each octet of the value and for the part's items
module _ (p : List ℕ) (count moved : ℕ) (within : count ≤ length p) where
  -- at most these, by whether the pattern is long and has a `?`
  abbrev pub Within : Bool → Bool → ℕ → Type 0
  Within long question steps =
      steps ≤ cond (cond long question false) (4 + length p) (cond long 4 1) * moved + cond long 7 2 * count + 257

  rated : (4 + length p) * moved ≡ 4 * moved + length p * moved
  rated = add-mul 4 (length p) moved

  too_long : nat_lt 63 (length p) ≡ false → nat_lt 63 count ≡ true → ⊥
  too_long short long = false≢true (sym short ∙ lt-ltb 63 (length p) (omega (arith, ltb-true 63 count long)))

  search_within : (long question b : Bool) → nat_lt 63 (length p) ≡ long → nat_lt 63 count ≡ b
      → Within long question (cond b (4 * moved + 7 * count + 3) (moved + 2 * count + 257))
  search_within true true true long is = omega (arith, rated)
  search_within true true false long is = omega (arith, rated)
  search_within true false true long is = omega arith
  search_within true false false long is = omega arith
  search_within false question true long is = absurd (too_long long is)
  search_within false question false long is = omega arith

  tried_within : (long question b : Bool) → nat_lt 63 (length p) ≡ long → nat_lt 63 count ≡ b → question ≡ true
      → Within long question (cond b ((moved + 1) * count) (moved + 2 * count + 256))
  tried_within true true true long is h =
      let each : count * moved ≤ length p * moved = mul-le-mul_right moved within in
      omega (arith, rated, each, mul_comm count moved, suc-mul moved count)
  tried_within true true false long is h = omega (arith, rated)
  tried_within true false b long is h = absurd (false≢true h)
  tried_within false question true long is h = absurd (too_long long is)
  tried_within false question false long is h = omega arith

  whole_within : (literal : Bool) → (literal ≡ false → list_any is_question_mark p ≡ true)
      → Within (is_long_key p) (list_any is_question_mark p)
      (cond literal (search_steps count moved) (cond (nat_lt 63 count) ((moved + 1) * count) (moved + 2 * count + 256)))
  whole_within true question = search_within (is_long_key p) (list_any is_question_mark p) (nat_lt 63 count) refl refl
  whole_within false question = tried_within (is_long_key p) (list_any is_question_mark p) (nat_lt 63 count) refl refl (question refl)

  none_within : (b : Bool) (steps : ℕ) → nat_lt 0 count ≡ b → count ≡ 0 → cond b steps 0 ≡ 0
  none_within true steps some none = absurd (omega (arith, ltb-true 0 count some))
  none_within false steps some none = refl

  some_within : (long question b : Bool) (steps : ℕ) → Within long question steps → Within long question (cond b steps 0)
  some_within long question true steps h = h
  some_within long question false steps h = omega arith

  -- for no item there is none
  pub no_part : (literal : Bool) → count ≡ 0 → part_steps literal count moved ≡ 0
  no_part literal none = none_within (nat_lt 0 count) _ refl none

  pub part_within : (literal : Bool) → (literal ≡ false → list_any is_question_mark p ≡ true)
      → Within (is_long_key p) (list_any is_question_mark p) (part_steps literal count moved)
  part_within literal question = some_within (is_long_key p) (list_any is_question_mark p) (nat_lt 0 count) _ (whole_within literal question)

-- a part of a pattern of m octets that is tried: 260 + m steps for each octet pay for its table, if it has one
paid : (m count moved steps i j : ℕ) → steps ≤ (4 + m) * moved + 7 * count + 257 → (count ≡ 0 → steps ≡ 0) → i + moved + count ≤ j
    → (260 + m) * i + steps ≤ (260 + m) * j + 7 * count
paid m count moved steps i j most none further =
    let q : ℕ = 4 + m in
    let r : ℕ = 260 + m in
    let later : r * i + r * moved + r * count ≤ r * j =
    omega (arith, mul-le-mul_left r further, mul-add r (i + moved) count, mul-add r i moved) in
    let each : q * moved ≤ r * moved = mul-le-mul_right moved (by (q ≤ r) (omega arith)) in ⊎_elim
    (λ empty. omega (arith, none (omega (arith, empty)), later))
    (λ some. let table : r * 1 ≤ r * count = mul-le-mul_left r some in omega (arith, most, later, each, table, mul-one r))
    (cases_lt count 1)

-- at most the steps of a whole match with a value of n octets, by whether the pattern is long and has a `?`
abbrev pub Whole : List ℕ → Bool → Bool → ℕ → ℕ → ℕ → Type 0
Whole p long question first n s =
    s ≤ first + (cond (cond long question false) (260 + length p) (cond long 4 1) * n + cond long 8 3 * length p
    + 256 * cond (cond long question false) 1 (asterisks p 0 - 1) + 1)

-- at most the steps up to the star at `end`, where the items before it end at place i of the value
abbrev pub Partly : List ℕ → Bool → Bool → ℕ → ℕ → ℕ → ℕ → Type 0
Partly p true true first end i s = s ≤ first + (260 + length p) * i + 8 * end + 1
Partly p true false first end i s = s + 256 * asterisks p (end + 1) ≤ first + 4 * i + 8 * end + 256 * (asterisks p 0 - 1) + 1
Partly p false question first end i s = s + 256 * asterisks p (end + 1) ≤ first + i + 3 * end + 256 * (asterisks p 0 - 1) + 1

module _ (p : List ℕ) (first s end i : ℕ) where
  -- the next part ends at a star too: it is read, and searched for
  module _ (t u next count moved steps : ℕ) (read : t + (end + 1) ≤ s + next + 1) (spelled : end + 1 + count ≤ next) (found : u ≤ t + steps)
      (inside : next < length p) (here : slice_index p next ≡ 42) (within : count ≤ length p) where
    fewer : asterisks p (next + 1) + 1 ≤ asterisks p (end + 1)
    fewer = omega (arith, asterisks-at p next inside here, asterisks-later p (end + 1) next (omega arith))

    -- it isn't found
    pub cost_none : (long question : Bool) → Partly p long question first end i s → Within p count moved within long question steps
        → (n : ℕ) → i + moved ≤ n → Whole p long question first n u
    cost_none true true bound most n high =
        let r : ℕ = 260 + length p in
        let each : (4 + length p) * moved ≤ r * moved = mul-le-mul_right moved (by (4 + length p ≤ r) (omega arith)) in
        omega (arith, bound, most, each, mul-add r i moved, mul-le-mul_left r high)
    cost_none true false bound most n high = omega (arith, bound, most, fewer)
    cost_none false question bound most n high = omega (arith, bound, most, fewer)

    -- it is found, and ends at place j
    pub cost_more : (long question : Bool) → Partly p long question first end i s → Within p count moved within long question steps
        → (count ≡ 0 → steps ≡ 0) → (j : ℕ) → i + moved + count ≤ j → Partly p long question first next j u
    cost_more true true bound most none j further = omega (arith, bound, paid (length p) count moved steps i j most none further)
    cost_more true false bound most none j further = omega (arith, bound, most, fewer)
    cost_more false question bound most none j further = omega (arith, bound, most, fewer)

  -- the last part is read, and compared at the value's end
  pub cost_last : (long question : Bool) → Partly p long question first end i s → (t u n count : ℕ) → t + (end + 1) ≤ s + length p + 1
      → end + 1 + count ≤ length p → u ≤ t + count → i ≤ n → Whole p long question first n u
  cost_last true true bound t u n count read spelled compared high = omega (arith, bound, mul-le-mul_left (260 + length p) high)
  cost_last true false bound t u n count read spelled compared high = omega (arith, bound)
  cost_last false question bound t u n count read spelled compared high = omega (arith, bound)

  -- the pattern ends
  pub cost_end : (long question : Bool) → Partly p long question first end i s → (n : ℕ) → end ≤ length p → i ≤ n → Whole p long question first n s
  cost_end true true bound n within high = omega (arith, bound, mul-le-mul_left (260 + length p) high)
  cost_end true false bound n within high = omega (arith, bound)
  cost_end false question bound n within high = omega (arith, bound)

-- the items before the first star are read, and compared at the value's beginning
module _ (p : List ℕ) (first t u end count : ℕ) (read : t ≤ first + end + 1) (spelled : count ≤ end) (compared : u ≤ t + count) (within : end ≤ length p)
    (here : end < length p → slice_index p end ≡ 42) where
  left : asterisks p (end + 1) ≤ asterisks p 0 - 1
  left = ⊎_elim
      (λ inside. omega (arith, asterisks-at p end inside (here inside), asterisks-later p 0 end (omega arith)))
      (λ past. omega (arith, ap (count_by is_star_octet) (drop_all (end + 1) p (omega arith))))
      (cases_lt end (length p))

  pub cost_first : (long question : Bool) → Partly p long question first end count u
  cost_first true true = omega arith
  cost_first true false = omega (arith, left)
  cost_first false question = omega (arith, left)

  pub cost_head : (long question : Bool) (n : ℕ) → Whole p long question first n u
  cost_head true true n = omega arith
  cost_head true false n = omega arith
  cost_head false question n = omega arith
