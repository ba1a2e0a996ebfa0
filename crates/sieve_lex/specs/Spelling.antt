-- The tokens of a text (RFC 5228, 8.1).
use Rattle.std.specs.Prelude.{◌≡◌, ℕ, ◌+◌, ◌-◌, ◌<◌, ◌≤◌, ◌^◌, List, [], ◌∷◌, length, take, drop, slice_get, Some, codes}
use Rattle.octets.specs.Ascii.{lowered}
use Rattle.sieve_lex.specs.declared.token.Content.{Content}
use Rattle.sieve_lex.specs.declared.token.Content.TheVariants.{Identifier, Number}
use Rattle.sieve_lex.specs.declared.token.Token.{Token}
use Rattle.sieve_lex.specs.declared.scanner.Piece.{Piece}
use Rattle.sieve_lex.specs.Shape.{IsTokenShape}
use Rattle.sieve_lex.specs.Space.{IsGap, IsTail}
use Rattle.sieve_lex.specs.Text.{IsScriptText, line_ends}

-- the value of a number is at most 2^63 - 1
abbrev pub IsNumberInRange : Content → Type 0
IsNumberInRange (Number n) = n < 2 ^ 63
IsNumberInRange _ = Unit {0}

-- the identifier `text`, in any case, with a colon right after it, which begins a string of several lines
abbrev pub OpensText : Content → List ℕ → Type 0
OpensText (Identifier name) rest = (lowered name ≡ codes "text") × (slice_get rest 0 ≡ Some 58)
OpensText _ rest = ⊥

-- the first n octets are this token: they spell it, and no longer prefix spells any token
pub record IsToken (octets : List ℕ) (content : Content) (n : ℕ) : Type 0 where
  pub within : n ≤ length octets
  pub shape : IsTokenShape content (take n octets) (drop n octets)
  pub longest : (other : Content) (m : ℕ) → n < m → m ≤ length octets → IsTokenShape other (take m octets) (drop m octets) → ⊥
  pub in_range : IsNumberInRange content
  pub bare : OpensText content (drop n octets) → ⊥

-- after white space that begins at a position of the text, this token comes next
pub record IsNextToken (text : List ℕ) (from : ℕ) (t : Token) : Type 0 where
  pub ahead : from ≤ t.start
  pub gap : IsGap (take (t.start - from) (drop from text))
  pub forward : t.start ≤ t.end
  pub token : IsToken (drop t.start text) t.content (t.end - t.start)
  pub line : t.line ≡ 1 + line_ends (take t.start text)

-- a token is at its position, within the text and on its line
pub record IsPlaced (text : List ℕ) (t : Token) : Type 0 where
  pub forward : t.start ≤ t.end
  pub inside : t.end ≤ length text
  pub line : t.line ≡ 1 + line_ends (take t.start text)

-- a token of the text with its line
abbrev pub placed : List ℕ → Piece → Token
placed text p = record { content = p.content; start = p.start; end = p.end; line = 1 + line_ends (take p.start text) }

-- from this position on the text is these tokens with white space between and around them
abbrev pub SpellsFrom : List ℕ → ℕ → List Token → Type 0
SpellsFrom text from [] = IsTail (drop from text)
SpellsFrom text from (t ∷ ts) = IsNextToken text from t × SpellsFrom text t.end ts

-- the text is these tokens
pub record SpellsTokens (text : List ℕ) (tokens : List Token) : Type 0 where
  pub written : IsScriptText text
  pub spelled : SpellsFrom text 0 tokens
