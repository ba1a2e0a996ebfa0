use Rattle.std.proofs.Common.{◌≡◌, ℕ, ◌+◌, ◌<◌, take}
use Rattle.std.specs.Prelude.{sum}
use Rattle.daemon_log.specs.Times.{up_to}
use Rattle.daemon_log.proofs.times.slot_at.Given as goal

-- what is left is wanted of the slots from this one on, and those before have fewer
abbrev pub invariant-loop-slot : goal.invariant-loop-slot
invariant-loop-slot l =
    (l.left + sum (take l.slot l.counts) ≡ l.wanted)
    × ((before : ℕ) → before < l.slot → up_to l.counts before < l.wanted)
