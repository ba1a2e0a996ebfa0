-- White space between tokens (RFC 5228, 2.3 and 8.1).
use Rattle.std.specs.Prelude.{◌≡◌, ◌≢◌, ℕ, not, List, [], ◌∷◌, ◌++◌, slice_index, IsTrue}
use Rattle.std.specs.List.{list_all, flat_map}
use Rattle.sieve_lex.specs.Class.{is_white}
use Rattle.sieve_lex.specs.Text.{is_line_feed}

-- a piece of white space: a blank or an octet of a line end; a comment from `#` to the end of its line; a comment
-- in `/*` and `*/`
pub data Space : Type 0 where
  White : ℕ → Space
  Hash : List ℕ → Space
  Bracketed : List ℕ → Space

-- no octet is a line feed
abbrev pub IsInLine : List ℕ → Type 0
IsInLine s = IsTrue (list_all (λ b. not (is_line_feed b)) s)

-- it doesn't contain `*/`
abbrev pub HasNoEnd : List ℕ → Type 0
HasNoEnd [] = Unit {0}
HasNoEnd (b ∷ s) = (b ≡ 42 → slice_index s 0 ≢ 47) × HasNoEnd s

-- a `#` comment extends to the first line end, a comment in brackets to the first `*/`
abbrev pub IsSpace : Space → Type 0
IsSpace (White b) = IsTrue (is_white b)
IsSpace (Hash body) = IsInLine body
IsSpace (Bracketed body) = HasNoEnd (body ++ 42 ∷ [])

abbrev pub AreSpaces : List Space → Type 0
AreSpaces [] = Unit {0}
AreSpaces (p ∷ more) = IsSpace p × AreSpaces more

-- how a piece of white space is written
abbrev pub space_of : Space → List ℕ
space_of (White b) = b ∷ []
space_of (Hash body) = 35 ∷ (body ++ 10 ∷ [])
space_of (Bracketed body) = 47 ∷ (42 ∷ (body ++ 42 ∷ (47 ∷ [])))

-- the white space before a token
pub record IsGap (s : List ℕ) : Type 0 where
  pub pieces : List Space
  pub each : AreSpaces pieces
  pub spelled : s ≡ flat_map space_of pieces

-- a `#` comment that the end of the text ends, or nothing
abbrev pub IsLastComment : List ℕ → Type 0
IsLastComment [] = Unit {0}
IsLastComment (b ∷ body) = (b ≡ 35) × IsInLine body

-- the white space after the last token, up to the end of the text
pub record IsTail (s : List ℕ) : Type 0 where
  pub pieces : List Space
  pub last : List ℕ
  pub each : AreSpaces pieces
  pub comment : IsLastComment last
  pub spelled : s ≡ flat_map space_of pieces ++ last
