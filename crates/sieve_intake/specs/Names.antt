-- The names of Pigeonhole's files.
use Rattle.std.specs.Prelude.{ℕ, ◌-◌, Bool, ◌&&◌, nat_lt, nat_eq, List, length, take, drop, cond, codes, Option, Some, None}
use Rattle.std.specs.List.{suffix_len}
use Rattle.std.specs.Cmp.Lexicographic.{pointwise}
use Rattle.tar_entries.specs.Fields.{differs}

-- what comes after the last slash of a path, or all of it
abbrev pub last_part : List ℕ → List ℕ
last_part path = drop (length path - suffix_len (differs 47) path) path

-- at least one octet and then `.sieve`
abbrev pub is_script_file : List ℕ → Bool
is_script_file file = nat_lt 6 (length file) && pointwise nat_eq (drop (length file - 6) file) (codes ".sieve")

-- the script of a file of this path: what comes before `.sieve` in its name
unfoldable pub script_name_at : List ℕ → Option (List ℕ)
script_name_at path =
    cond (is_script_file (last_part path)) (Some (take (length (last_part path) - 6) (last_part path))) None

-- the link that says which script is active, or the file that is it
abbrev pub is_dovecot_sieve : List ℕ → Bool
is_dovecot_sieve path = pointwise nat_eq (last_part path) (codes ".dovecot.sieve")
