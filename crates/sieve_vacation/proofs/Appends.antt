-- Texts that were appended one after the other are one text that was appended.
use Rattle.std.proofs.Common.{◌≡◌, ℕ, List, ◌++◌, ap, ◌∙◌, append_assoc}

-- a text, and then the rest
pub glue : (old first middle rest new : List ℕ) → middle ≡ old ++ first → new ≡ middle ++ rest → new ≡ old ++ (first ++ rest)
glue old first middle rest new here after = after ∙ (ap (λ text. text ++ rest) here ∙ append_assoc old first rest)

pub glue3 : (old a x b y c z : List ℕ) → x ≡ old ++ a → y ≡ x ++ b → z ≡ y ++ c → z ≡ old ++ (a ++ (b ++ c))
glue3 old a x b y c z one two three = glue old a x (b ++ c) z one (glue x b y c z two three)

pub glue4 : (old a x b y c z d u : List ℕ) → x ≡ old ++ a → y ≡ x ++ b → z ≡ y ++ c → u ≡ z ++ d → u ≡ old ++ (a ++ (b ++ (c ++ d)))
glue4 old a x b y c z d u one two three four = glue old a x (b ++ (c ++ d)) u one (glue3 x b y c z d u two three four)

pub glue5 : (old a x b y c z d u e v : List ℕ) → x ≡ old ++ a → y ≡ x ++ b → z ≡ y ++ c → u ≡ z ++ d → v ≡ u ++ e
    → v ≡ old ++ (a ++ (b ++ (c ++ (d ++ e))))
glue5 old a x b y c z d u e v one two three four five =
    glue old a x (b ++ (c ++ (d ++ e))) v one (glue4 x b y c z d u e v two three four five)
