-- What is known of a message that comes in pieces.
use Rattle.std.specs.Prelude.{◌≡◌, ℕ, List, [], ◌∷◌}
use Rattle.mail_head.specs.Heads.{size_of}
use Rattle.mail_head.specs.declared.size_count.SizeCount.{SizeCount}

-- the last octet of a text, or if the text is empty the one before it
abbrev pub last_after : ℕ → List ℕ → ℕ
last_after before [] = before
last_after before (octet ∷ rest) = last_after octet rest

-- the size of what came, and its last octet; 0 before the first one
pub record CountsSize (came : List ℕ) (count : SizeCount) : Type 0 where
  pub size : count.size ≡ size_of came
  pub last : count.last ≡ last_after 0 came
