-- Copies as parts of a text at work, and some beside them that aren't.
use Rattle.std.proofs.Common.{◌≡◌, [], ◌∷◌, codes, None, refl}
use Rattle.store_text.specs.declared.part.Part.TheVariants.{Mail, Copy}
use Rattle.store_accounts.specs.CopyRows.{Copy as KeptCopy}
use Rattle.store_export.specs.Parts.{copy_parts}

abbrev one : KeptCopy
one = record { folder = codes "a"; n = 1; id = 1; message = codes "m"; flags = [] }

abbrev two : KeptCopy
two = record { folder = codes "b"; n = 2; id = 1; message = codes "m"; flags = codes "\\Seen" }

abbrev three : KeptCopy
three = record { folder = codes "c"; n = 3; id = 1; message = codes "m"; flags = [] }

abbrev other : KeptCopy
other = record { folder = codes "a"; n = 4; id = 4; message = codes "o"; flags = [] }

-- a message in two folders stands once, with the flags of each copy
twice-filed : copy_parts None (one ∷ two ∷ other ∷ []) ≡ Mail 1 (codes "a") (codes "m") [] ∷ Copy 2 (codes "b") 1 (codes "\\Seen") ∷ Mail 4 (codes "a") (codes "o") [] ∷ []
twice-filed = refl

-- once its first copy has left, it stands with the next one
first-gone : copy_parts None (two ∷ three ∷ []) ≡ Mail 2 (codes "b") (codes "m") (codes "\\Seen") ∷ Copy 3 (codes "c") 2 [] ∷ []
first-gone = refl

-- and not as a copy of one that isn't there
first-lost : copy_parts None (two ∷ []) ≡ Copy 2 (codes "b") 1 (codes "\\Seen") ∷ [] → ⊥
first-lost e = cc

-- with another one between them it stands twice
apart : copy_parts None (one ∷ other ∷ two ∷ []) ≡ Mail 1 (codes "a") (codes "m") [] ∷ Mail 4 (codes "a") (codes "o") [] ∷ Mail 2 (codes "b") (codes "m") (codes "\\Seen") ∷ []
apart = refl
