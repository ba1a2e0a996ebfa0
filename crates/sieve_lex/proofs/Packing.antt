-- Packed tokens.
use Rattle.std.proofs.Common.{◌≡◌, ℕ, List, [], ◌∷◌, ◌++◌, length, take, drop, ap, sym, ◌∙◌, append-nil, refl, slice_index, arith}
use Rattle.sieve_lex.specs.declared.token.Content.{Content}
use Rattle.sieve_lex.specs.declared.packed.PackedKind.{PackedKind}
use Rattle.sieve_lex.specs.declared.packed.PackedKind.TheVariants as K
use Rattle.sieve_lex.specs.declared.packed.Packed.{Packed}
use Rattle.sieve_lex.specs.Unpacked.{unpacked}
use Rattle.sieve_lex.specs.Contents.{contents, HoldsContents}

-- a kind whose tokens say octets: a number tells how many
record SaysOctets (kind : PackedKind) (content : List ℕ → Content) : Type 0 where
  reads : (ks : List PackedKind) (ns os : List ℕ) → unpacked (kind ∷ ks) ns os ≡ content (take (slice_index ns 0) os) ∷ unpacked ks (drop 1 ns) (drop (slice_index ns 0) os)

-- these lists stand after those
record AddsOctets (before after : Packed) (kind : PackedKind) (said : List ℕ) : Type 0 where
  kinds : after.kinds.items ≡ before.kinds.items ++ kind ∷ []
  numbers : after.numbers.items ≡ before.numbers.items ++ length said ∷ []
  octets : after.octets.items ≡ before.octets.items ++ said

-- these are its tokens
pub holds_contents : (packed : Packed) (tokens : List Content) → HoldsContents packed tokens → contents packed ≡ tokens
holds_contents packed tokens h =
    sym (ap (λ x. unpacked x (packed.numbers.items ++ []) (packed.octets.items ++ [])) (append-nil packed.kinds.items)
    ∙ ap (λ x. unpacked packed.kinds.items x (packed.octets.items ++ [])) (append-nil packed.numbers.items)
    ∙ ap (λ x. unpacked packed.kinds.items packed.numbers.items x) (append-nil packed.octets.items))
    ∙ h.after [] [] [] ∙ append-nil tokens

-- as many tokens as kinds
pub length_unpacked : (kinds : List PackedKind) (numbers octets : List ℕ) → length (unpacked kinds numbers octets) ≡ length kinds
length_unpacked [] numbers octets = refl
length_unpacked (K.Identifier ∷ kinds) numbers octets = omega (arith, length_unpacked kinds (drop 1 numbers) (drop (slice_index numbers 0) octets))
length_unpacked (K.Tag ∷ kinds) numbers octets = omega (arith, length_unpacked kinds (drop 1 numbers) (drop (slice_index numbers 0) octets))
length_unpacked (K.Number ∷ kinds) numbers octets = omega (arith, length_unpacked kinds (drop 1 numbers) octets)
length_unpacked (K.Text ∷ kinds) numbers octets = omega (arith, length_unpacked kinds (drop 1 numbers) (drop (slice_index numbers 0) octets))
length_unpacked (K.Mark mark ∷ kinds) numbers octets = omega (arith, length_unpacked kinds numbers octets)
