-- Lemmas on the words of specs/Ascii.
use Rattle.std.proofs.Common.{◌≡◌, ℕ, true, false, List, [], ◌∷◌, ◌++◌, refl, ap, ◌∙◌}
use Rattle.octets.specs.Ascii.{is_blank, prepend_trimmed, trim_back}

-- a text that doesn't end the other one keeps its first octet
before-cons : (octet : ℕ) (front : List ℕ) (last : ℕ) → prepend_trimmed octet (front ++ last ∷ []) ≡ octet ∷ (front ++ last ∷ [])
before-cons octet [] last = refl
before-cons octet (next ∷ rest) last = refl

-- a blank at the end counts for nothing
pub trim_back-blank : (front : List ℕ) (last : ℕ) → is_blank last ≡ true → trim_back (front ++ last ∷ []) ≡ trim_back front
trim_back-blank [] last blank = rw blank
trim_back-blank (octet ∷ rest) last blank = ap (prepend_trimmed octet) (trim_back-blank rest last blank)

-- a text that ends in another octet stays
pub trim_back-other : (front : List ℕ) (last : ℕ) → is_blank last ≡ false → trim_back (front ++ last ∷ []) ≡ front ++ last ∷ []
trim_back-other [] last other = rw other
trim_back-other (octet ∷ rest) last other = ap (prepend_trimmed octet) (trim_back-other rest last other) ∙ before-cons octet rest last
