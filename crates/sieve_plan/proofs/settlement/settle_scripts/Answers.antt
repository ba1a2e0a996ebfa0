use Rattle.std.proofs.Common.{IfOk, ap, map, subst, ◌∙◌}
use Rattle.sieve_plan.specs.Sequences.{SettlesInTurn, at_beginning}
use Rattle.sieve_plan.specs.SequencePlans.{settled_of}
use Rattle.sieve_plan.specs.Turns.{script_in}
use Rattle.sieve_plan.proofs.settlement.settle_scripts.Goals as goal

pub returns : goal.returns
returns c =
    let are = ap (map script_in) c.as_slice.ensures.value ∙ c.in_ok-scripts.ensures in
    subst (λ scripts. IfOk c.settle_in_turn.result (λ settlement. SettlesInTurn c.args.mail.now scripts at_beginning (settled_of settlement))) are c.settle_in_turn.ensures
