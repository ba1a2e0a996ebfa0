-- What tokens are and say, without their positions.
use Rattle.std.specs.Prelude.{◌≡◌, ℕ, List, [], ◌∷◌, ◌++◌, Option, Some, None, map, slice_get}
use Rattle.sieve_lex.specs.declared.token.Content.{Content}
use Rattle.sieve_lex.specs.declared.token.Content.TheVariants.{Identifier, Tag, Number, Text, Mark}
use Rattle.sieve_lex.specs.declared.token.Token.{Token}
use Rattle.sieve_lex.specs.declared.packed.PackedKind.{PackedKind}
use Rattle.sieve_lex.specs.declared.packed.Packed.{Packed}
use Rattle.sieve_lex.specs.declared.packed.ContentRef.{ContentRef}
use Rattle.sieve_lex.specs.declared.packed.ContentRef.TheVariants as R
use Rattle.sieve_lex.specs.Unpacked.{unpacked}

-- what tokens in a row are and say
abbrev pub contents_of : List Token → List Content
contents_of tokens = map (λ t. t.content) tokens

-- the same of packed tokens
abbrev pub contents : Packed → List Content
contents packed = unpacked packed.kinds.items packed.numbers.items packed.octets.items

-- the same of a token that was read
abbrev pub content_view : ContentRef → Content
content_view (R.Identifier name) = Identifier name.now
content_view (R.Tag name) = Tag name.now
content_view (R.Number n) = Number n
content_view (R.Text value) = Text value.now
content_view (R.Mark mark) = Mark mark

-- the line of this token, or 1
abbrev pub line_or : Option Token → ℕ
line_or None = 1
line_or (Some token) = token.line

-- the line of the token with this index, or 1
abbrev pub line_at : ℕ → List Token → ℕ
line_at index tokens = line_or (slice_get tokens index)

-- these tokens are packed like this, whatever is packed after them
pub record HoldsContents (packed : Packed) (tokens : List Content) : Type 0 where
  pub after : (kinds : List PackedKind) (numbers octets : List ℕ) → unpacked (packed.kinds.items ++ kinds) (packed.numbers.items ++ numbers) (packed.octets.items ++ octets) ≡ tokens ++ unpacked kinds numbers octets

-- a token is packed after those that are packed already
abbrev pub Appends : Content → Packed → Packed → Type 0
Appends content before after = (tokens : List Content) → HoldsContents before tokens → HoldsContents after (tokens ++ content ∷ [])
