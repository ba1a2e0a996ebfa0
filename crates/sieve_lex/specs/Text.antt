-- Which texts can be scripts at all (RFC 5228, 2.1), and their lines.
use Rattle.std.specs.Prelude.{◌≡◌, ◌≢◌, ℕ, ◌+◌, ◌<◌, Bool, ◌==◌, List, length, count_by, slice_index}
use Rattle.std.specs.Str.{IsUtf8}

-- no NUL, and no CR that no LF follows
pub record HasGoodOctets (text : List ℕ) : Type 0 where
  pub no_nul : (i : ℕ) → i < length text → slice_index text i ≢ 0
  pub no_lone_cr : (i : ℕ) → slice_index text i ≡ 13 → slice_index text (i + 1) ≡ 10

-- a text of a script is UTF-8, without NUL and without a lone CR
pub record IsScriptText (text : List ℕ) : Type 0 where
  pub utf8 : IsUtf8 text
  pub octets : HasGoodOctets text

-- a line ends at its LF
abbrev pub is_line_feed : ℕ → Bool
is_line_feed b = b == 10

-- how many line ends there are in these octets
abbrev pub line_ends : List ℕ → ℕ
line_ends s = count_by is_line_feed s
