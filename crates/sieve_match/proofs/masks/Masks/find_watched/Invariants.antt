-- What the state says of the octets so far, before which the places take none.
use Rattle.std.proofs.Common.{◌≡◌, ℕ, ◌+◌, ◌-◌, ◌≤◌, slice_index}
use Rattle.sieve_match.proofs.MaskLemmas.{IsState, Window, taken}
use Rattle.sieve_match.proofs.masks.Masks.find_watched.Given as goal

abbrev pub invariant-loop-i : goal.invariant-loop-i
invariant-loop-i g l = record {
  state : IsState (taken l.self) (λ t. slice_index l.value (l.from + t)) l.self.len (l.i - l.from) l.state;
  none : (k : ℕ) → l.from ≤ k → k + l.self.len ≤ l.i → Window (taken l.self) (slice_index l.value) l.self.len k → ⊥;
  cost : l.steps + l.from ≡ l.fn.steps + l.i;
}
