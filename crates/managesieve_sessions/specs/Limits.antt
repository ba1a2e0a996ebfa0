-- Limits on a script and on its name.
use Rattle.std.specs.Prelude.{◌≡◌, ℕ, ◌≤◌, Bool, false, ◌&&◌, ◌||◌, ◌==◌, nat_le, List, length}
use Rattle.std.specs.List.{list_any}
use Rattle.std.specs.Str.{IsUtf8, chars}

-- how many octets a script may have
abbrev pub script_limit : ℕ
script_limit = 262144

-- how many scripts a user may have
abbrev pub scripts_limit : ℕ
scripts_limit = 32

-- a character that no script's name may have: control characters, and the separators of lines and of paragraphs (RFC 5804, section 1.6)
abbrev pub is_forbidden_char : ℕ → Bool
is_forbidden_char c = nat_le c 0x1f || (nat_le 0x7f c && nat_le c 0x9f) || c == 0x2028 || c == 0x2029

-- a script's name: 1 to 128 characters in UTF-8, none of them forbidden
pub record IsScriptName (name : List ℕ) : Type 0 where
  pub utf8 : IsUtf8 name
  pub present : 1 ≤ length (chars name)
  pub short : length (chars name) ≤ 128
  pub allowed : list_any is_forbidden_char (chars name) ≡ false
