-- The work that a run of a script counts for a key or a pattern and one value, by their lengths (specs/Work of sieve_exec).
use Rattle.std.specs.Prelude.{ℕ, ◌+◌, ◌-◌, ◌*◌, cond, List, length, count_by}
use Rattle.std.specs.List.{list_any}
use Rattle.sieve_match.specs.Costs.{is_question_mark, is_star_octet, is_long_key}

-- the work of a key that a value of n octets contains or not
abbrev pub key_units : List ℕ → ℕ → ℕ
key_units key n = cond (is_long_key key) (8 * ((n + 8) + (length key + 8))) ((n + 8) + (length key + 8 + 256))

-- the work of a pattern whose items are tried at each octet of the value
abbrev pub tried_units : List ℕ → ℕ → ℕ
tried_units pattern n = 8 * ((n + 8) * (length pattern + 8))

-- the work of any other pattern: what is between two stars has a table
abbrev pub starred_units : List ℕ → ℕ → ℕ
starred_units pattern n = (n + 8) + (length pattern + 8) + 256 * (count_by is_star_octet pattern - 1)

-- the work of a pattern
abbrev pub pattern_units : List ℕ → ℕ → ℕ
pattern_units pattern n =
    cond (is_long_key pattern) (cond (list_any is_question_mark pattern) (tried_units pattern n) (8 * starred_units pattern n)) (starred_units pattern n)
