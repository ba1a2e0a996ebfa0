-- What those to come come to from here is what all come to.
use Rattle.std.proofs.Common.{drop, map}
use Rattle.sieve_plan.specs.Sequences.{Settled, SettlesInTurn, at_beginning}
use Rattle.sieve_plan.specs.Turns.{script_in, sequence_state_of}
use Rattle.sieve_plan.proofs.settlement.settle_in_turn.Given as goal

abbrev pub invariant-loop-script : goal.invariant-loop-script
invariant-loop-script l =
    (settled : Settled) → SettlesInTurn l.mail (drop l.script-index (map script_in l.scripts)) (sequence_state_of l.state) settled → SettlesInTurn l.mail (map script_in l.scripts) at_beginning settled
