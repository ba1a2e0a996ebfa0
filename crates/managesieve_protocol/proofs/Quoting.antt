-- A quoted string, as the code reads it.
use Rattle.std.proofs.Common.{◌≡◌, ℕ, List, [], ◌∷◌, ◌++◌, ap, append_assoc}
use Rattle.managesieve_protocol.specs.Values.{Read, prepend_octet}

-- what was read so far, and what is still read
abbrev pub with_front : List ℕ → Read → Read
with_front front read = (front ++ read.0, read.1)

pub with_front-push : (front : List ℕ) (x : ℕ) (read : Read) → with_front (front ++ x ∷ []) read ≡ with_front front (prepend_octet x read)
with_front-push front x read = ap (λ (t : List ℕ). (t, read.1)) (append_assoc front (x ∷ []) read.0)
