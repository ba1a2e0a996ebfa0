-- The steps of `contains` and `matches` with all values are at most a few times their work.
use Rattle.std.proofs.Common.{◌≡◌, ℕ, ◌+◌, ◌-◌, ◌*◌, ◌≤◌, Bool, true, false, cond, List, [], ◌∷◌, length, sum_by, count_by, ap, arith, add-mul, one-mul, zero-mul, mul-le-mul_left}
use Rattle.std.proofs.lemmas.Bool.{false≢true}
use Rattle.std.proofs.lemmas.List.Sums.{sum_by-cons}
use Rattle.std.specs.List.{list_any}
use Rattle.sieve_match.specs.Costs.{search_steps, pattern_steps}
use Rattle.sieve_match.specs.Units as units
use Rattle.sieve_match.proofs.Units.{long_key_within, pattern_within, long_pattern_within}
use Rattle.sieve_exec.specs.Sizes.{text_size, texts_size, sizes_of, is_long, is_question, is_asterisk, ready_work, contains_work, pattern_work, starred, tried_work}

-- a term of the type given
abbrev by : (A : Type 0) → A → A
by A a = a

-- a sum of what is at most as much for each value
sum_within : {X : Type 0} (f h : X → ℕ) → ((x : X) → f x ≤ h x) → (xs : List X) → sum_by f xs ≤ sum_by h xs
sum_within f h each [] = omega arith
sum_within f h each (x ∷ xs) = omega (arith, sum_by-cons f x xs, sum_by-cons h x xs, each x, sum_within f h each xs)

-- one value more
one_more : (each : ℕ) (value : List ℕ) (values : List (List ℕ))
    → texts_size (value ∷ values) + length (value ∷ values) * each ≡ (text_size value + each) + (texts_size values + length values * each)
one_more each value values = omega (arith, sum_by-cons text_size value values, add-mul 1 (length values) each, one-mul each, ap (λ n. n * each) (by (length (value ∷ values) ≡ 1 + length values) (omega arith)))

module _ (key : List ℕ) where
  -- the work of a long key of `contains` with all values is that with each
  long_sum : (values : List (List ℕ))
      → sum_by (λ value. 8 * (text_size value + text_size key)) values ≡ 8 * (texts_size values + length values * text_size key)
  long_sum [] = omega (arith, zero-mul (text_size key))
  long_sum (value ∷ values) = omega (arith, sum_by-cons (λ value. 8 * (text_size value + text_size key)) value values, long_sum values, one_more (text_size key) value values)

  -- so is that of a pattern
  starred_sum : (stars : ℕ) (values : List (List ℕ))
      → sum_by (λ value. text_size value + text_size key + 256 * stars) values ≡ (texts_size values + length values * text_size key) + 256 * (length values * stars)
  starred_sum stars [] = omega (arith, zero-mul (text_size key), zero-mul stars)
  starred_sum stars (value ∷ values) =
      omega (
        arith,
        sum_by-cons (λ value. text_size value + text_size key + 256 * stars) value values,
        starred_sum stars values,
        one_more (text_size key) value values,
        add-mul 1 (length values) stars,
        one-mul stars,
        ap (λ n. n * stars) (by (length (value ∷ values) ≡ 1 + length values) (omega arith)),
      )

  long_starred_sum : (stars : ℕ) (values : List (List ℕ))
      → sum_by (λ value. 8 * (text_size value + text_size key + 256 * stars)) values
      ≡ 8 * ((texts_size values + length values * text_size key) + 256 * (length values * stars))
  long_starred_sum stars [] = omega (arith, zero-mul (text_size key), zero-mul stars)
  long_starred_sum stars (value ∷ values) =
      omega (
        arith,
        sum_by-cons (λ value. 8 * (text_size value + text_size key + 256 * stars)) value values,
        long_starred_sum stars values,
        one_more (text_size key) value values,
        add-mul 1 (length values) stars,
        one-mul stars,
        ap (λ n. n * stars) (by (length (value ∷ values) ≡ 1 + length values) (omega arith)),
      )

  tried_sum : (values : List (List ℕ)) → sum_by (λ value. 8 * (text_size value * text_size key)) values ≡ 8 * (texts_size values * text_size key)
  tried_sum [] = omega (arith, zero-mul (text_size key))
  tried_sum (value ∷ values) = omega (arith, sum_by-cons (λ value. 8 * (text_size value * text_size key)) value values, ap (λ n. n * text_size key) (sum_by-cons text_size value values), tried_sum values, add-mul (text_size value) (texts_size values) (text_size key))

  -- the same by the words of sieve_match
  pattern_sum : (values : List (List ℕ)) (long question : Bool)
      → sum_by (λ value. cond long (cond question (units.tried_units key (length value)) (8 * units.starred_units key (length value))) (units.starred_units key (length value))) values
      ≡ cond long (cond question (tried_work (sizes_of values).octets key) (8 * starred (sizes_of values) key)) (starred (sizes_of values) key)
  pattern_sum values true true = tried_sum values
  pattern_sum values true false = long_starred_sum (count_by is_asterisk key - 1) values
  pattern_sum values false question = starred_sum (count_by is_asterisk key - 1) values

  units_sum : (values : List (List ℕ)) → sum_by (λ value. units.pattern_units key (length value)) values ≡ pattern_work (sizes_of values) key
  units_sum values = pattern_sum values (is_long key) (list_any is_question key)

  tripled : (f : List ℕ → ℕ) (values : List (List ℕ)) → sum_by (λ value. 3 * f value) values ≡ 3 * sum_by f values
  tripled f [] = omega arith
  tripled f (value ∷ values) = omega (arith, sum_by-cons (λ value. 3 * f value) value values, sum_by-cons f value values, tripled f values)

  -- the steps of a long key of `contains` with all values are at most its work
  pub contains_within : (names : ℕ) (values : List (List ℕ)) → is_long key ≡ true
      → sum_by (λ value. search_steps (length key) (length value)) values ≤ contains_work names (sizes_of values) key
  contains_within names values long =
      let each = sum_within (λ (value : List ℕ). search_steps (length key) (length value)) (λ value. units.key_units key (length value))
      (λ value. long_key_within key (length value) long) values in
      let whole : sum_by (λ (value : List ℕ). units.key_units key (length value)) values ≡ contains_work names (sizes_of values) key =
      by_long (is_long key) long in
      omega (arith, each, whole)
    where
      by_long : (b : Bool) → b ≡ true
          → sum_by (λ (value : List ℕ). cond b (8 * (text_size value + text_size key)) (text_size value + (text_size key + 256))) values
          ≡ cond b (8 * (texts_size values + length values * text_size key)) (ready_work names (sizes_of values) key)
      by_long true h = long_sum values
      by_long false h = absurd (false≢true h)

  -- those of a short key, whose table is made once for each name
  pub ready_within : (names : ℕ) (values : List (List ℕ)) → is_long key ≡ false
      → sum_by length values + names * (length key + 256) ≤ contains_work names (sizes_of values) key
  ready_within names values short =
      let looks = sum_within length text_size (λ value. omega arith) values in
      let tables : names * (length key + 256) ≤ names * (text_size key + 256) = mul-le-mul_left names (omega arith) in
      omega (arith, looks, tables, ap (λ b. cond b (8 * (texts_size values + length values * text_size key)) (ready_work names (sizes_of values) key)) short)

  -- those of a pattern are at most three times its work
  pub matches_within : (values : List (List ℕ)) → sum_by (λ value. pattern_steps key (length value)) values ≤ 3 * pattern_work (sizes_of values) key
  matches_within values =
      let each = sum_within (λ (value : List ℕ). pattern_steps key (length value)) (λ value. 3 * units.pattern_units key (length value))
      (λ value. pattern_within key (length value)) values in
      omega (arith, each, tripled (λ value. units.pattern_units key (length value)) values, units_sum values)

  -- and at most its work for a long one
  pub long_matches_within : (values : List (List ℕ)) → is_long key ≡ true
      → sum_by (λ value. pattern_steps key (length value)) values ≤ pattern_work (sizes_of values) key
  long_matches_within values long =
      let each = sum_within (λ (value : List ℕ). pattern_steps key (length value)) (λ value. units.pattern_units key (length value))
      (λ value. long_pattern_within key (length value) long) values in
      omega (arith, each, units_sum values)
