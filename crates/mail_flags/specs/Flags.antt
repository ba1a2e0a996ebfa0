-- The flags of a message, and what `setflag`, `addflag` and `removeflag` make of them (RFC 5232).
use Rattle.std.specs.Prelude.{◌≡◌, ◌≤◌, ℕ, Bool, true, cond, not, ◌&&◌, nat_lt, List, [], ◌∷◌, ◌++◌, length, filter, fold, map}
use Rattle.std.specs.List.{list_any, All, IsDistinct, slice_split, join_with_byte}
use Rattle.octets.specs.Ascii.{is_blank}
use Rattle.mail_flags.specs.Names.{are_same, is_flag}
use Rattle.mail_flags.specs.System.{all_system, flag_name_of, flag_letter_of}

-- the most flags of a message
abbrev pub max_flags : ℕ
max_flags = 100

-- flags: names of flags, none twice, and no more than may be
pub record AreFlags (flags : List (List ℕ)) : Type 0 where
  pub names : All (λ name. is_flag name ≡ true) flags
  pub distinct : IsDistinct are_same flags
  pub few : length flags ≤ max_flags

-- the flag is one of them
abbrev pub has : List (List ℕ) → List ℕ → Bool
has flags name = list_any (λ there. are_same there name) flags

-- with one more at the end, if it is the name of a flag, isn't there yet, and there is room
abbrev pub with_one : List (List ℕ) → List ℕ → List (List ℕ)
with_one flags name = cond (nat_lt (length flags) max_flags && is_flag name && not (has flags name)) (flags ++ name ∷ []) flags

-- without this one, if it is there
abbrev pub without_one : List (List ℕ) → List ℕ → List (List ℕ)
without_one flags name = filter (λ there. not (are_same there name)) flags

-- what is between the blanks of a text
abbrev pub between_blanks : List ℕ → List (List ℕ)
between_blanks = slice_split is_blank

-- with or without all that a text names
abbrev pub with_named : List (List ℕ) → List ℕ → List (List ℕ)
with_named flags text = fold with_one flags (between_blanks text)

abbrev pub without_named : List (List ℕ) → List ℕ → List (List ℕ)
without_named flags text = fold without_one flags (between_blanks text)

-- with or without all that several texts name
abbrev pub with_all_named : List (List ℕ) → List (List ℕ) → List (List ℕ)
with_all_named = fold with_named

abbrev pub without_all_named : List (List ℕ) → List (List ℕ) → List (List ℕ)
without_all_named = fold without_named

-- the flags that a text names
abbrev pub named_flags : List ℕ → List (List ℕ)
named_flags = with_named []

-- the text that names them, separated by single blanks
abbrev pub flags_text : List (List ℕ) → List ℕ
flags_text = join_with_byte 32

-- the letters of the system flags among them
abbrev pub letters : List (List ℕ) → List ℕ
letters flags = map flag_letter_of (filter (λ system. has flags (flag_name_of system)) all_system)
