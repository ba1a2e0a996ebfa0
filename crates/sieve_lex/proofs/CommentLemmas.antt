-- A comment up to its line end, in one step.
use Rattle.std.proofs.Common.{◌≡◌, ℕ, zero, suc, ◌+◌, ◌<◌, ◌≤◌, true, false, ◌==◌, List, [], ◌∷◌, length, get_or, drop, None, Some, refl, sym, ap, ◌∙◌, add-one, arith}
use Rattle.std.proofs.lemmas.List.{drop_all}
use Rattle.std.proofs.lemmas.Bool.{false_from_ne_true}
use Rattle.memchr.specs.Find.{IsFirstByte, is_byte}
use Rattle.sieve_lex.specs.declared.space.SpaceState.TheVariants.{Between, Comment}
use Rattle.sieve_lex.specs.Skip.{space_state_after, space_from}

feed_ends : (b : ℕ) → (b == 10) ≡ true → space_state_after Comment b ≡ Between
feed_ends b e = rw e refl

other_stays : (b : ℕ) → (b == 10) ≡ false → space_state_after Comment b ≡ Comment
other_stays b e = rw e refl

-- the octets before the first line feed belong to it
to_feed : (s : List ℕ) (k : ℕ) → k < length s → (get_or s k 0 == 10) ≡ true
    → ((j : ℕ) → 0 ≤ j → j < k → (get_or s j 0 == 10) ≡ true → ⊥)
    → space_from Between (drop (suc k) s) ≡ space_from Comment s
to_feed [] k short feed none = absurd (omega arith)
to_feed (b ∷ s) zero short feed none = sym (ap (λ p. space_from p s) (feed_ends b feed))
to_feed (b ∷ s) (suc k) short feed none =
    let other = false_from_ne_true (b == 10) (none 0 (omega arith) (omega arith)) in
    let later = to_feed s k (omega arith) feed (λ j low high at. none (suc j) (omega arith) (omega arith) at) in
    later ∙ sym (ap (λ p. space_from p s) (other_stays b other))

-- without one, all of them do
all_comment : (s : List ℕ) → ((j : ℕ) → 0 ≤ j → j < length s → (get_or s j 0 == 10) ≡ true → ⊥) → space_from Comment s ≡ Some []
all_comment [] none = refl
all_comment (b ∷ s) none =
    let other = false_from_ne_true (b == 10) (none 0 (omega arith) (omega arith)) in
    let later = all_comment s (λ j low high at. none (suc j) (omega arith) (omega arith) at) in
    ap (λ p. space_from p s) (other_stays b other) ∙ later

pub ends_at : (s : List ℕ) (k : ℕ) → IsFirstByte (is_byte 10) s (Some k) → space_from Between (drop (k + 1) s) ≡ space_from Comment s
ends_at s k found = rw (add-one k) (to_feed s k found.0.high found.1 found.0.before)

pub ends_nowhere : (s : List ℕ) → IsFirstByte (is_byte 10) s None → space_from Between (drop (length s) s) ≡ space_from Comment s
ends_nowhere s none = rw (drop_all (length s) s (omega arith), all_comment s none) refl
