-- What stands before and after a counted text.
use Rattle.std.proofs.Common.{◌≡◌, ◌<◌, ◌^◌, ℕ, List, ◌++◌, length, take, refl, sym, ◌∙◌, ap}
use Rattle.std.specs.Int.{w64, to_be_bytes, from_be_bytes}
use Rattle.std.proofs.lemmas.Nat.{from_be_bytes-to_be_bytes_8}
use Rattle.std.proofs.lemmas.List.{append_cancel_left, take_at, append_assoc}
use Rattle.maildir_files.specs.FileName.{with_length}

-- two texts of one length that begin the same text are the same
pub heads_same : (n : ℕ) (a b more rest : List ℕ) → length a ≡ n → length b ≡ n → a ++ more ≡ b ++ rest → a ≡ b
heads_same n a b more rest la lb same = sym (take_at a more n la) ∙ ap (take n) same ∙ take_at b rest n lb

pub tails_same : (a b more rest : List ℕ) → a ≡ b → a ++ more ≡ b ++ rest → more ≡ rest
tails_same a b more rest e same = append_cancel_left a more rest (same ∙ ap (λ l. l ++ rest) (sym e))

pub counted_ends : (a b more rest : List ℕ) → length a < 2 ^ 64 → length b < 2 ^ 64 → with_length a ++ more ≡ with_length b ++ rest → (a ≡ b) × (more ≡ rest)
counted_ends a b more rest fa fb same =
    let na = to_be_bytes w64 (length a) in
    let nb = to_be_bytes w64 (length b) in
    let apart : na ++ (a ++ more) ≡ nb ++ (b ++ rest) = sym (append_assoc na a more) ∙ same ∙ append_assoc nb b rest in
    let counts : na ≡ nb = heads_same 8 na nb (a ++ more) (b ++ rest) refl refl apart in
    let lengths : length a ≡ length b = sym (from_be_bytes-to_be_bytes_8 (length a) fa) ∙ ap (from_be_bytes w64) counts ∙ from_be_bytes-to_be_bytes_8 (length b) fb in
    let after : a ++ more ≡ b ++ rest = tails_same na nb (a ++ more) (b ++ rest) counts apart in
    let texts : a ≡ b = heads_same (length b) a b more rest lengths refl after in
    (texts, tails_same a b more rest texts after)
