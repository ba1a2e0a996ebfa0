-- What a pattern's items are, and which texts they match (RFC 5228, section 2.7.1).
use Rattle.std.specs.Prelude.{◌≡◌, ◌==◌, ℕ, ◌≤◌, List, [], ◌∷◌, length, drop, if◌then◌else◌}
use Rattle.sieve_match.specs.declared.pattern.GlobItem.{GlobItem}
use Rattle.sieve_match.specs.declared.pattern.GlobItem.TheVariants.{Star, One, Exact}

-- the item that an octet spells without a backslash before it: `*` is 42, `?` is 63
abbrev pub unquoted_item : ℕ → GlobItem
unquoted_item octet = if octet == 42 then Star else if octet == 63 then One else Exact octet

-- the items that a pattern spells: a backslash, 92, makes the next octet stand for itself, and a lone one at the end stands for itself
unfoldable pub items : List ℕ → List GlobItem
items [] = []
items (octet ∷ []) = unquoted_item octet ∷ []
items (octet ∷ next ∷ rest) =
    if octet == 92 then Exact next ∷ items rest
    else unquoted_item octet ∷ items (next ∷ rest)

-- the items match the whole text: a star any number of octets, One any octet, Exact an octet with the same image
unfoldable pub Glob : (ℕ → ℕ) → List GlobItem → List ℕ → Type 0
Glob image [] text = text ≡ []
Glob image (Star ∷ rest) text = (k : ℕ) × (k ≤ length text) × Glob image rest (drop k text)
Glob image (One ∷ rest) [] = ⊥
Glob image (One ∷ rest) (x ∷ xs) = Glob image rest xs
Glob image (Exact octet ∷ rest) [] = ⊥
Glob image (Exact octet ∷ rest) (x ∷ xs) = (image octet ≡ image x) × Glob image rest xs
