use Rattle.std.proofs.Common.{map}
use Rattle.sieve_plan.specs.Plans.{deeds_in, notice_cause_text}
use Rattle.sieve_plan.specs.Sequences.{at_beginning}
use Rattle.sieve_plan.specs.Turns.{script_in, sequence_state_of}
use Rattle.sieve_plan.proofs.TurnLemmas.{next_script, turn_failed, turn_last, turn_on, was_false, was_true}
use Rattle.sieve_plan.proofs.settlement.settle_in_turn.Goals as goal

pub returns-in-Failed : goal.returns-in-Failed
returns-in-Failed c =
    let took = rw c.in-Failed.is at c.in_ok-deeds.ensures in
    turn_failed c.args.mail.now (map script_in c.args.scripts.now) at_beginning (sequence_state_of c.loop-script.state) c.loop-script.script-index c.loop-script.invariant _ (next_script c.args.scripts.now c.loop-script.script-index _ c.loop-script-test.true)
    (notice_cause_text c.in-Failed.cause) (deeds_in c.in-Failed.deeds) took.0 took.1

pub returns-then-not-next : goal.returns-then-not-next
returns-then-not-next c =
    let took = rw c.in-Ended.is at c.in_ok-deeds.ensures in
    rw c.settled_well.ensures
    (turn_last c.args.mail.now (map script_in c.args.scripts.now) at_beginning (sequence_state_of c.loop-script.state) c.loop-script.script-index c.loop-script.invariant _ (next_script c.args.scripts.now c.loop-script.script-index _ c.loop-script-test.true)
    (sequence_state_of c.in-Ended.next) took (was_false c.in-Ended.next.left.is_kept c.if-not-next.true))

pub loop-script-preserved : goal.loop-script-preserved
loop-script-preserved c =
    let took = rw c.in-Ended.is at c.in_ok-deeds.ensures in
    turn_on c.args.mail.now (map script_in c.args.scripts.now) at_beginning (sequence_state_of c.loop-script.state) c.loop-script.script-index c.loop-script.invariant _ (next_script c.args.scripts.now c.loop-script.script-index _ c.loop-script-test.true)
    (sequence_state_of c.in-Ended.next) took (was_true c.in-Ended.next.left.is_kept c.if-not-next.false)
