use Rattle.std.proofs.Common.{take, Ok}
use Rattle.sqlite.specs.Held.{state}
use Rattle.sieve_plan.specs.Sent.{near_targets}
use Rattle.store_engine.specs.Lookups.{Recalls}
use Rattle.store_engine.proofs.RecallLemmas.{Adds}
use Rattle.store_engine.proofs.delivery.recall_near.Given as goal

abbrev pub invariant-loop-key : goal.invariant-loop-key
invariant-loop-key g l =
    Recalls l.user (Adds (λ a. near_targets a l.moment l.before (take l.key-index l.keys)) l.fn.known) (state g.S.Store l.fn.store) (state g.S.Store l.store) (Ok l.all)
