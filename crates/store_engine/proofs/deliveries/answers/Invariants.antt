-- The answers so far, and their room.
use Rattle.std.proofs.Common.{◌≡◌, map, vec_capacity}
use Rattle.store_engine.specs.Deliveries.{answer_to}
use Rattle.store_engine.proofs.deliveries.answers.Given as goal

abbrev pub invariant-loop-decision : goal.invariant-loop-decision
invariant-loop-decision l = record { told : l.told.items ≡ map answer_to l.yielded; room : vec_capacity l.told ≡ vec_capacity l.initial.told }
