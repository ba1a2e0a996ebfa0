-- The sizes of texts, and the work of comparing values with keys: about how many octets are looked at and compared. It depends on the sizes of
-- values and keys alone, so it is known before they are compared.
use Rattle.std.specs.Prelude.{◌≡◌, ◌==◌, ℕ, ◌+◌, ◌-◌, ◌*◌, ◌<◌, ◌≤◌, Bool, true, false, cond, nat_lt, length, List, Option, Some, None, sum_by, count_by}
use Rattle.std.specs.List.{list_any}
use Rattle.sieve_syntax.specs.declared.tree.checks.Matching.{Matching}
use Rattle.sieve_syntax.specs.declared.tree.checks.Matching.TheVariants.{Contains, Matches}
use Rattle.sieve_exec.specs.declared.sizes.Sizes.{Sizes}
use Rattle.sieve_exec.specs.Extension.Relational.{is_count}

-- the size of a text: its octets, and eight more, since short texts take time too
abbrev pub text_size : List ℕ → ℕ
text_size text = length text + 8

abbrev pub texts_size : List (List ℕ) → ℕ
texts_size texts = sum_by text_size texts

-- how large values are, and how many
abbrev pub sizes_of : List (List ℕ) → Sizes
sizes_of values = record { octets = texts_size values; count = length values }

-- the sizes of no values, and of some values and others together
abbrev pub no_sizes : Sizes
no_sizes = record { octets = 0; count = 0 }

abbrev pub sizes_and : Sizes → Sizes → Sizes
sizes_and one other = record { octets = one.octets + other.octets; count = one.count + other.count }

-- ---- keys

-- `?`
abbrev pub is_question : ℕ → Bool
is_question octet = octet == 63

-- `*`
abbrev pub is_asterisk : ℕ → Bool
is_asterisk octet = octet == 42

-- a key of more than 63 octets, each of which may be compared several times
abbrev pub is_long : List ℕ → Bool
is_long key = nat_lt 63 (length key)

-- the work of looking at all values, and `each` for each of them
abbrev pub paired : Sizes → ℕ → ℕ
paired sizes each = sizes.octets + sizes.count * each

-- the work of a key that is prepared once for each name of fields, and then searched for in all values
abbrev pub ready_work : ℕ → Sizes → List ℕ → ℕ
ready_work names sizes key = sizes.octets + names * (text_size key + 256)

-- the same of a pattern: what is between two stars is prepared anew for each value
abbrev pub starred : Sizes → List ℕ → ℕ
starred sizes key = paired sizes (text_size key) + 256 * (sizes.count * (count_by is_asterisk key - 1))

-- the work of a key that may be tried at each octet of values: a pair of octets counts eight times
abbrev pub tried_work : ℕ → List ℕ → ℕ
tried_work octets key = 8 * (octets * text_size key)

-- the work of a key of `:contains`, and of a pattern of `:matches`
abbrev pub contains_work : ℕ → Sizes → List ℕ → ℕ
contains_work names sizes key = cond (is_long key) (8 * paired sizes (text_size key)) (ready_work names sizes key)

abbrev pub long_pattern_work : Sizes → List ℕ → ℕ
long_pattern_work sizes key = cond (list_any is_question key) (tried_work sizes.octets key) (8 * starred sizes key)

abbrev pub pattern_work : Sizes → List ℕ → ℕ
pattern_work sizes key = cond (is_long key) (long_pattern_work sizes key) (starred sizes key)

-- the work of a key with all values together, which are those of that many names of fields
abbrev pub key_work : ℕ → Matching → Sizes → List ℕ → ℕ
key_work names Contains sizes key = contains_work names sizes key
key_work names Matches sizes key = pattern_work sizes key
key_work names _ sizes key = paired sizes (text_size key)

abbrev pub keys_work : ℕ → Matching → Sizes → List (List ℕ) → ℕ
keys_work names matching sizes keys = sum_by (key_work names matching sizes) keys

-- one text of 40 octets: no number of values and no part of a date is longer
abbrev pub short_sizes : Sizes
short_sizes = record { octets = 48; count = 1 }

-- the sizes of what is compared: with `:count` those of a number
abbrev pub compared : Matching → Sizes → Sizes
compared matching sizes = cond (is_count matching) short_sizes sizes

-- the work of values and keys: each value is looked at, and then all are compared with each key
abbrev pub values_work : ℕ → Matching → Sizes → List (List ℕ) → ℕ
values_work names matching sizes keys = sizes.octets + keys_work names matching (compared matching sizes) keys

-- the work of looking up fields by their names
abbrev pub names_work : List (List ℕ) → ℕ
names_work names = 16 * texts_size names

-- ---- what is left

-- these sizes, unless there are more than `most` octets
abbrev pub AreSizesWithin : ℕ → Sizes → Option Sizes → Type 0
AreSizesWithin most sizes None = most < sizes.octets
AreSizesWithin most sizes (Some found) = (found ≡ sizes) × ((found.octets ≤ most) × (found.count ≤ found.octets))

-- what is left of the work that may be taken, after this much, if that may be taken
abbrev pub IsLeft : ℕ → ℕ → Option ℕ → Type 0
IsLeft before work None = before < work
IsLeft before work (Some left) = left + work ≡ before

-- the same, with whether there was enough
abbrev pub IsPaid : Bool → ℕ → ℕ → ℕ → Type 0
IsPaid true before work after = after + work ≡ before
IsPaid false before work after = before < work
