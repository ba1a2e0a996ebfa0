use Rattle.std.proofs.Common.{ℕ, ◌<◌}
use Rattle.daemon_log.specs.Times.{bound_of}
use Rattle.daemon_log.proofs.times.slot_of.Given as goal

-- it is longer than the slots before hold
abbrev pub invariant-loop-slot : goal.invariant-loop-slot
invariant-loop-slot l = (before : ℕ) → before < l.slot → bound_of before < l.micros
