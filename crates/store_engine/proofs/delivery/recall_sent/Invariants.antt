use Rattle.std.proofs.Common.{◌≡◌, ℕ, List, take, Ok}
use Rattle.std.specs.Prelude.{flat_map}
use Rattle.sqlite.specs.Held.{state}
use Rattle.sieve_plan.specs.Sent.{known_under}
use Rattle.store_engine.specs.Lookups.{Recalls}
use Rattle.store_engine.proofs.delivery.recall_sent.Given as goal

abbrev pub invariant-loop-key : goal.invariant-loop-key
invariant-loop-key g l =
    Recalls l.user (λ (known : List (List ℕ)) a. known ≡ flat_map (known_under a l.moment) (take l.key-index l.keys)) (state g.S.Store l.fn.store) (state g.S.Store l.store) (Ok l.known)
