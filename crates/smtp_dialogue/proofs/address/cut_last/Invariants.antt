-- Behind what is left no such octet stands.
use Rattle.std.proofs.Common.{◌≡◌, ◌==◌, ◌++◌, ℕ, List, not, true, length}
use Rattle.std.specs.List.{list_all}
use Rattle.smtp_dialogue.proofs.address.cut_last.Given as goal

abbrev pub invariant-loop-octet : goal.invariant-loop-octet
invariant-loop-octet l = (behind : List ℕ) × (l.text ≡ l.left ++ behind) × (list_all (λ octet. not (octet == l.mark)) behind ≡ true)

abbrev pub decreases-loop-octet : goal.decreases-loop-octet
decreases-loop-octet l = length l.left
