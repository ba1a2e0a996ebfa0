-- Strings of several lines (RFC 5228, 2.4.2 and 8.1).
use Rattle.std.specs.Prelude.{◌≡◌, ◌≢◌, ◌⊎◌, ℕ, Bool, true, false, ◌==◌, ◌||◌, ◌&&◌, not, cond, List, [], ◌∷◌, ◌++◌, slice_index, codes, IsTrue}
use Rattle.std.specs.List.{list_all, flat_map}
use Rattle.octets.specs.Ascii.{is_blank, lowered}
use Rattle.sieve_lex.specs.Space.{IsLastComment}

-- a line ends with CRLF, or with a bare LF, which is read as CRLF
abbrev pub body_line_end : Bool → List ℕ
body_line_end true = 10 ∷ []
body_line_end false = 13 ∷ (10 ∷ [])

-- neither CR nor LF
abbrev pub is_inside : ℕ → Bool
is_inside b = not (b == 13 || b == 10)

-- a line of the body: its octets, and whether a bare LF ends it
pub record BodyLine : Type 0 where
  pub content : List ℕ
  pub bare : Bool

-- a line that isn't `.`, which would end the string
pub record IsBodyLine (l : BodyLine) : Type 0 where
  pub inside : IsTrue (list_all is_inside l.content)
  pub goes_on : l.content ≢ 46 ∷ []

abbrev pub AreBodyLines : List BodyLine → Type 0
AreBodyLines [] = Unit {0}
AreBodyLines (l ∷ more) = IsBodyLine l × AreBodyLines more

-- without the dot before another dot at the start of a line
abbrev pub unstuffed : List ℕ → List ℕ
unstuffed [] = []
unstuffed (b ∷ s) = cond (b == 46 && slice_index s 0 == 46) s (b ∷ s)

-- how a line is written, and what it stands for
abbrev pub line_spelling : BodyLine → List ℕ
line_spelling l = l.content ++ body_line_end l.bare

abbrev pub line_value : BodyLine → List ℕ
line_value l = unstuffed l.content ++ 13 ∷ (10 ∷ [])

-- what follows the last dot: a line end, or nothing at the end of the text
abbrev pub IsFinal : List ℕ → List ℕ → Type 0
IsFinal final rest = ((bare : Bool) × (final ≡ body_line_end bare)) ⊎ ((final ≡ []) × (rest ≡ []))

-- `text:` in any case, blanks, perhaps a `#` comment, a line end, lines, and a line `.`
pub record IsMultiline (s value rest : List ℕ) : Type 0 where
  pub word : List ℕ
  pub blanks : List ℕ
  pub comment : List ℕ
  pub bare : Bool
  pub lines : List BodyLine
  pub final : List ℕ
  pub named : lowered word ≡ codes "text:"
  pub blank : IsTrue (list_all is_blank blanks)
  pub commented : IsLastComment comment
  pub each : AreBodyLines lines
  pub ends : IsFinal final rest
  pub spelled : s ≡ word ++ (blanks ++ (comment ++ (body_line_end bare ++ (flat_map line_spelling lines ++ 46 ∷ final))))
  pub valued : value ≡ flat_map line_value lines
