-- The steps of a search are at most a few times the work that is counted for it.
use Rattle.std.proofs.Common.{refl, ◌≡◌, ℕ, ◌+◌, ◌-◌, ◌*◌, ◌≤◌, Bool, true, false, cond, nat_lt, List, length, count_by, arith, add-mul, mul-add, mul_comm, mul-le-mul_right}
use Rattle.std.specs.List.{list_any}
use Rattle.std.proofs.lemmas.Bool.{false≢true, ltb-true}
use Rattle.sieve_match.specs.Costs.{search_steps, pattern_steps, is_long_key, is_question_mark, is_star_octet}
use Rattle.sieve_match.specs.Units.{key_units, pattern_units}

-- ---- keys

-- by whether the key is long
long_within : (m n : ℕ) (long : Bool) → long ≡ true
    → cond long (4 * n + 7 * m + 3) (n + 2 * m + 257) ≤ cond long (8 * ((n + 8) + (m + 8))) ((n + 8) + (m + 8 + 256))
long_within m n true h = omega arith
long_within m n false h = absurd (false≢true h)

any_within : (m n : ℕ) (long : Bool) → cond long (4 * n + 7 * m + 3) (n + 2 * m + 257) ≤ 2 * cond long (8 * ((n + 8) + (m + 8))) ((n + 8) + (m + 8 + 256))
any_within m n true = omega arith
any_within m n false = omega arith

pub long_key_within : (key : List ℕ) (n : ℕ) → is_long_key key ≡ true → search_steps (length key) n ≤ key_units key n
long_key_within key n long = long_within (length key) n (is_long_key key) long

pub key_within : (key : List ℕ) (n : ℕ) → search_steps (length key) n ≤ 2 * key_units key n
key_within key n = any_within (length key) n (is_long_key key)

-- ---- patterns

-- by whether the pattern is long and has a `?`; `stars` are its asterisks
abbrev steps_by : ℕ → ℕ → ℕ → Bool → Bool → ℕ
steps_by m n stars long question =
    cond (cond long question false) (260 + m) (cond long 4 1) * n + cond long 8 3 * m + 256 * cond (cond long question false) 1 (stars - 1) + 1

abbrev units_by : ℕ → ℕ → ℕ → Bool → Bool → ℕ
units_by m n stars long question =
    cond long (cond question (8 * ((n + 8) * (m + 8))) (8 * ((n + 8) + (m + 8) + 256 * (stars - 1)))) ((n + 8) + (m + 8) + 256 * (stars - 1))

long_by : (m n stars : ℕ) (long question : Bool) → nat_lt 63 m ≡ long → long ≡ true → steps_by m n stars long question ≤ units_by m n stars long question
long_by m n stars true true size h =
    let more : 64 * n ≤ m * n = mul-le-mul_right n (ltb-true 63 m size) in
    let whole : (n + 8) * (m + 8) ≡ m * n + 8 * n + (8 * m + 64) =
    omega (arith, add-mul n 8 (m + 8), mul-add n m 8, mul_comm n m, mul_comm n 8) in
    omega (arith, more, whole, add-mul 260 m n)
long_by m n stars true false size h = omega arith
long_by m n stars false question size h = absurd (false≢true h)

any_by : (m n stars : ℕ) (long question : Bool) → nat_lt 63 m ≡ long → steps_by m n stars long question ≤ 3 * units_by m n stars long question
any_by m n stars true question size = omega (arith, long_by m n stars true question size refl)
any_by m n stars false question size = omega arith

pub long_pattern_within : (pattern : List ℕ) (n : ℕ) → is_long_key pattern ≡ true → pattern_steps pattern n ≤ pattern_units pattern n
long_pattern_within pattern n long =
    long_by (length pattern) n (count_by is_star_octet pattern) (is_long_key pattern) (list_any is_question_mark pattern) refl long

pub pattern_within : (pattern : List ℕ) (n : ℕ) → pattern_steps pattern n ≤ 3 * pattern_units pattern n
pattern_within pattern n =
    any_by (length pattern) n (count_by is_star_octet pattern) (is_long_key pattern) (list_any is_question_mark pattern) refl
