-- Packed tokens: a row of kinds, and besides it the numbers and the octets that they say.
use Rattle.std.specs.Prelude.{ℕ, List, [], ◌∷◌, take, drop, slice_index}
use Rattle.sieve_lex.specs.declared.token.Content.{Content}
use Rattle.sieve_lex.specs.declared.token.Content.TheVariants.{Identifier, Tag, Number, Text, Mark}
use Rattle.sieve_lex.specs.declared.packed.PackedKind.{PackedKind}
use Rattle.sieve_lex.specs.declared.packed.PackedKind.TheVariants as K

-- what the tokens are and say: a number takes the first number; a name or a string takes the first number, and as
-- many of the octets
abbrev pub unpacked : List PackedKind → List ℕ → List ℕ → List Content
unpacked [] numbers octets = []
unpacked (K.Identifier ∷ kinds) numbers octets = Identifier (take (slice_index numbers 0) octets) ∷ unpacked kinds (drop 1 numbers) (drop (slice_index numbers 0) octets)
unpacked (K.Tag ∷ kinds) numbers octets = Tag (take (slice_index numbers 0) octets) ∷ unpacked kinds (drop 1 numbers) (drop (slice_index numbers 0) octets)
unpacked (K.Number ∷ kinds) numbers octets = Number (slice_index numbers 0) ∷ unpacked kinds (drop 1 numbers) octets
unpacked (K.Text ∷ kinds) numbers octets = Text (take (slice_index numbers 0) octets) ∷ unpacked kinds (drop 1 numbers) (drop (slice_index numbers 0) octets)
unpacked (K.Mark mark ∷ kinds) numbers octets = Mark mark ∷ unpacked kinds numbers octets
