-- What the wildcards of a pattern take of a text (RFC 5229, section 3.2).
use Rattle.std.specs.Prelude.{◌≡◌, ◌⊎◌, ℕ, ◌<◌, List, [], ◌∷◌, length}
use Rattle.std.specs.List.{concat}
use Rattle.sieve_match.specs.declared.pattern.GlobItem.{GlobItem}
use Rattle.sieve_match.specs.declared.pattern.GlobItem.TheVariants.{Star, One, Exact}

-- the item takes a piece of a text: a star any octets, also none, One one octet, Exact one with the same image
unfoldable pub ItemTakes : (ℕ → ℕ) → GlobItem → List ℕ → Type 0
ItemTakes image Star piece = Unit {0}
ItemTakes image One piece = (x : ℕ) × (piece ≡ x ∷ [])
ItemTakes image (Exact octet) piece = (x : ℕ) × (piece ≡ x ∷ []) × (image octet ≡ image x)

-- each item takes the piece at its place, and none is left over
unfoldable pub ItemsTake : (ℕ → ℕ) → List GlobItem → List (List ℕ) → Type 0
ItemsTake image [] [] = Unit {0}
ItemsTake image [] (piece ∷ pieces) = ⊥
ItemsTake image (item ∷ rest) [] = ⊥
ItemsTake image (item ∷ rest) (piece ∷ pieces) = ItemTakes image item piece × ItemsTake image rest pieces

-- one way in which a pattern's items match a text: its pieces, one for each item
pub record IsMatching (image : ℕ → ℕ) (items : List GlobItem) (text : List ℕ) (pieces : List (List ℕ)) : Type 0 where
  pub joined : concat pieces ≡ text
  pub takes : ItemsTake image items pieces

-- the pieces of the wildcards, `*` and `?`
unfoldable pub wildcard_pieces : List GlobItem → List (List ℕ) → List (List ℕ)
wildcard_pieces [] pieces = []
wildcard_pieces (item ∷ rest) [] = []
wildcard_pieces (Star ∷ rest) (piece ∷ pieces) = piece ∷ wildcard_pieces rest pieces
wildcard_pieces (One ∷ rest) (piece ∷ pieces) = piece ∷ wildcard_pieces rest pieces
wildcard_pieces (Exact octet ∷ rest) (piece ∷ pieces) = wildcard_pieces rest pieces

-- from left to right, the first text that isn't as long as the other list's is the shorter one
unfoldable pub TakesNoMore : List (List ℕ) → List (List ℕ) → Type 0
TakesNoMore [] others = Unit {0}
TakesNoMore (one ∷ ones) [] = ⊥
TakesNoMore (one ∷ ones) (other ∷ others) = (length one < length other) ⊎ ((length one ≡ length other) × TakesNoMore ones others)

-- the texts that the wildcards take, from left to right each as little as it can: those of a matching that takes no more than any
pub record AreCaptures (image : ℕ → ℕ) (items : List GlobItem) (text : List ℕ) (captured : List (List ℕ)) : Type 0 where
  pub pieces : List (List ℕ)
  pub matching : IsMatching image items text pieces
  pub taken : captured ≡ wildcard_pieces items pieces
  pub least : (others : List (List ℕ)) → IsMatching image items text others → TakesNoMore captured (wildcard_pieces items others)
