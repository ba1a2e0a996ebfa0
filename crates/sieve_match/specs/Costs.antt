-- How many steps a search takes at most, by the sizes of what is searched for and in.
use Rattle.std.specs.Prelude.{◌==◌, ℕ, ◌+◌, ◌-◌, ◌*◌, Bool, false, cond, nat_lt, List, length, Option, Some, None, count_by}
use Rattle.std.specs.List.{list_any}

-- where a search in a text of that length ends: at the place that is found, or else at the text's end
abbrev pub search_end : ℕ → Option ℕ → ℕ
search_end end None = end
search_end end (Some place) = place

-- the steps of a search for a key of m octets that moves over some octets. For a key of at most 63 octets a table of 256
-- numbers is made; a longer one is compared with itself to be cut, and each octet of the value then with it
abbrev pub search_steps : ℕ → ℕ → ℕ
search_steps m moved = cond (nat_lt 63 m) (4 * moved + 7 * m + 3) (moved + 2 * m + 257)

-- the steps of a search for the items between two stars that moves over some octets: with a `?`, and more than 63 of them,
-- they are tried at each place; for no item there is none
abbrev pub part_steps : Bool → ℕ → ℕ → ℕ
part_steps literal count moved =
    cond (nat_lt 0 count)
    (cond literal (search_steps count moved) (cond (nat_lt 63 count) ((moved + 1) * count) (moved + 2 * count + 256)))
    0

-- `?`
abbrev pub is_question_mark : ℕ → Bool
is_question_mark octet = octet == 63

-- `*`
abbrev pub is_star_octet : ℕ → Bool
is_star_octet octet = octet == 42

-- a key or pattern of more than 63 octets
abbrev pub is_long_key : List ℕ → Bool
is_long_key key = nat_lt 63 (length key)

-- a long pattern with a `?` may be tried at each octet of a value
abbrev pub is_tried : List ℕ → Bool
is_tried pattern = cond (is_long_key pattern) (list_any is_question_mark pattern) false

-- the steps for each octet of a value: where the pattern is tried, all its items may be, and a table be made
abbrev pub value_rate : List ℕ → ℕ
value_rate pattern = cond (is_tried pattern) (260 + length pattern) (cond (is_long_key pattern) 4 1)

-- the steps for each octet of the pattern
abbrev pub pattern_rate : List ℕ → ℕ
pattern_rate pattern = cond (is_long_key pattern) 8 3

-- the tables of what is between two stars; for a pattern that is tried they are among the steps for each octet, but for the last
abbrev pub tables : List ℕ → ℕ
tables pattern = cond (is_tried pattern) 1 (count_by is_star_octet pattern - 1)

-- the steps of matching a pattern with a value of n octets
abbrev pub pattern_steps : List ℕ → ℕ → ℕ
pattern_steps pattern n = value_rate pattern * n + pattern_rate pattern * length pattern + 256 * tables pattern + 1
