-- Sizes of texts in pieces.
use Rattle.std.proofs.Common.{◌≡◌, ℕ, ◌+◌, ◌-◌, ◌*◌, ◌≤◌, cond, ◌==◌, ◌&&◌, not, Some, List, [], ◌∷◌, ◌++◌, length, refl, sym, ap, ◌∙◌, arith}
use Rattle.std.specs.Prelude.{slice_get, unwrap_or}
use Rattle.mail_head.specs.Lines.{is_feed}
use Rattle.mail_head.specs.Heads.{size_after, size_of}
use Rattle.mail_head.specs.Sizes.{bare_after}
use Rattle.mail_head.proofs.SizeLemmas.{size_after-is, bare_after-le}
use Rattle.mail_head.specs.SizeCounts.{CountsSize, last_after}
use Rattle.mail_head.specs.declared.size_count.SizeCount.{SizeCount}

-- what is left to count is no more than the piece
pub left_small : (before : ℕ) (piece : List ℕ) (bare left : ℕ) → bare + left ≡ bare_after before piece → bare + left ≤ length piece
left_small before piece bare left is = let small = bare_after-le before piece in omega arith

add_assoc3 : (a b c d : ℕ) → b ≡ c + d → a + b ≡ (a + c) + d
add_assoc3 a b c d is = omega (arith, is)

-- the size of two pieces is that of the first one, and that of the second one behind it
pub size_in_pieces : (before : ℕ) (text more : List ℕ) → size_after before (text ++ more) ≡ size_after before text + size_after (last_after before text) more
size_in_pieces before [] more = omega arith
size_in_pieces before (octet ∷ rest) more = add_assoc3 (cond (is_feed octet && not (before == 13)) 2 1) _ _ _ (size_in_pieces octet rest more)

pub last_in_pieces : (before : ℕ) (text more : List ℕ) → last_after before (text ++ more) ≡ last_after (last_after before text) more
last_in_pieces before [] more = refl
last_in_pieces before (octet ∷ rest) more = last_in_pieces octet rest more

-- a piece adds at most twice its octets
pub count_small : (text : List ℕ) (size : ℕ) → size ≡ size_of text → size ≤ 2 * length text
count_small text size is = omega (arith, is, size_after-is 0 text, bare_after-le 0 text)

last_there : (before octet : ℕ) (rest : List ℕ) → slice_get (octet ∷ rest) (length rest) ≡ Some (last_after before (octet ∷ rest))
last_there before octet [] = refl
last_there before octet (next ∷ rest) = last_there octet next rest

-- the last octet that is found is the last one
pub last_found : (before : ℕ) (text : List ℕ) (octet : ℕ) → Some octet ≡ slice_get text (length text - 1) → octet ≡ last_after before text
last_found before [] octet is = absurd (cc is)
last_found before (first ∷ rest) octet is =
    let behind : length (first ∷ rest) - 1 ≡ length rest = omega arith in
    ap (λ o. unwrap_or o 0) (is ∙ ap (slice_get (first ∷ rest)) behind ∙ last_there before first rest)

-- one piece more is counted
pub counts_more : (came piece : List ℕ) (count next : SizeCount) → CountsSize came count → next.size ≡ count.size + size_after count.last piece → next.last ≡ last_after count.last piece
    → CountsSize (came ++ piece) next
counts_more came piece count next counts size last = record {
  size = size ∙ ap (λ n. n + size_after count.last piece) counts.size ∙ ap (λ b. size_of came + size_after b piece) counts.last ∙ sym (size_in_pieces 0 came piece);
  last = last ∙ ap (λ b. last_after b piece) counts.last ∙ sym (last_in_pieces 0 came piece);
}
