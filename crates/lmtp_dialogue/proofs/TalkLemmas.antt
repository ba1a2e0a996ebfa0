-- Recipients for whom a reply is owed.
use Rattle.std.proofs.Common.{◌≡◌, ℕ, zero, suc, ◌+◌, ◌<◌, List, [], ◌∷◌, length, drop, refl, add-one, arith}
use Rattle.lmtp_dialogue.specs.Dialogues.{Ready, Sending}
use Rattle.lmtp_dialogue.specs.Talks.{phase_replied}

next_by : (sender : List ℕ) (recipients : List (List ℕ)) (told : ℕ) → suc told < length recipients
    → Sending sender (drop (suc told) recipients) ≡ phase_replied (Sending sender (drop told recipients))
next_by sender [] told less = absurd (omega arith)
next_by sender (here ∷ []) zero less = absurd (omega arith)
next_by sender (here ∷ next ∷ others) zero less = refl
next_by sender (here ∷ others) (suc told) less = next_by sender others told (omega arith)

pub next_owed : (sender : List ℕ) (recipients : List (List ℕ)) (told : ℕ) → told + 1 < length recipients
    → Sending sender (drop (told + 1) recipients) ≡ phase_replied (Sending sender (drop told recipients))
next_owed sender recipients told less = rw add-one (next_by sender recipients told (omega arith))

last_by : (sender : List ℕ) (recipients : List (List ℕ)) (told : ℕ) → suc told ≡ length recipients → Ready ≡ phase_replied (Sending sender (drop told recipients))
last_by sender [] told same = absurd (omega arith)
last_by sender (here ∷ []) zero same = refl
last_by sender (here ∷ next ∷ others) zero same = absurd (omega arith)
last_by sender (here ∷ others) (suc told) same = last_by sender others told (omega arith)

pub none_owed : (sender : List ℕ) (recipients : List (List ℕ)) (told : ℕ) → told + 1 ≡ length recipients → Ready ≡ phase_replied (Sending sender (drop told recipients))
none_owed sender recipients told same = last_by sender recipients told (omega arith)
