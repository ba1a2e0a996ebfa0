-- The names of flags (RFC 3501, 2.3.2 and 9).
use Rattle.std.specs.Prelude.{ℕ, Bool, not, ◌&&◌, ◌||◌, ◌==◌, nat_eq, nat_le, nat_lt, List, length, codes}
use Rattle.std.specs.List.{list_any, list_all}
use Rattle.std.specs.Cmp.Lexicographic.{pointwise}
use Rattle.octets.specs.Ascii.{lowered}
use Rattle.mail_flags.specs.System.{all_system, flag_name_of}

-- the names are of one flag: ASCII case makes no difference
abbrev pub are_same : List ℕ → List ℕ → Bool
are_same one other = pointwise nat_eq (lowered one) (lowered other)

-- what no atom has, besides blanks and control octets (RFC 3501, 9: atom-specials)
abbrev pub specials : List ℕ
specials = codes "(){%*\"\\]"

-- an octet that an atom may have (RFC 3501, 9: ATOM-CHAR)
abbrev pub is_of_atoms : ℕ → Bool
is_of_atoms octet = nat_lt 32 octet && nat_lt octet 127 && not (list_any (λ special. octet == special) specials)

-- a keyword is an atom
abbrev pub is_keyword : List ℕ → Bool
is_keyword name = not (length name == 0) && list_all is_of_atoms name

-- a system flag that a user may set
abbrev pub is_system : List ℕ → Bool
is_system name = list_any (λ system. are_same (flag_name_of system) name) all_system

-- the most octets of a flag's name
abbrev pub max_flag_len : ℕ
max_flag_len = 128

-- the name of a flag that a user may set: a system flag or an atom, of at most 128 octets
abbrev pub is_flag : List ℕ → Bool
is_flag name = nat_le (length name) max_flag_len && (is_keyword name || is_system name)
