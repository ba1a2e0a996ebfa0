use Rattle.std.proofs.Common.{ap, refl}
use Rattle.sieve_syntax.specs.View.{script_tree}
use Rattle.sieve_exec.specs.Runs.{failure_view, run_end_view, run_state_of}
use Rattle.sieve_plan.specs.Turns.{sequence_state_of}
use Rattle.sieve_plan.proofs.TurnLemmas.{run_comes, run_fails, keep_fails, turn_ends}
use Rattle.sieve_plan.proofs.turn.run_script.Goals as goal

pub returns-in-Failed : goal.returns-in-Failed
returns-in-Failed c text means =
    let state = sequence_state_of c.args.state in
    let tree = script_tree c.args.script.now in
    let is =
    run_comes c.args.mail.now c.args.whose c.in_ok-code.code tree state c.work_limit-most.result (run_state_of c.in_ok-begun.begun) (run_end_view c.in_ok-failure.field-0) c.in_ok-code.ensures.is_code c.in_ok-failure.ensures
    c.work_limit-most.ensures (c.in_ok-begun.ensures c.args.state.left.is_kept) in
    (run_fails c.args.mail.now c.args.whose tree state (run_end_view c.in_ok-failure.field-0) is (failure_view c.in-Failed.failure) (ap run_end_view c.in-Failed.is) text means, refl)

pub returns-in-Failed-2 : goal.returns-in-Failed-2
returns-in-Failed-2 c text means =
    let state = sequence_state_of c.args.state in
    let tree = script_tree c.args.script.now in
    let is =
    run_comes c.args.mail.now c.args.whose c.in_ok-code.code tree state c.work_limit-most.result (run_state_of c.in_ok-begun.begun) (run_end_view c.in_ok-failure.field-0) c.in_ok-code.ensures.is_code c.in_ok-failure.ensures
    c.work_limit-most.ensures (c.in_ok-begun.ensures c.args.state.left.is_kept) in
    let end = rw c.in-Failed-2.is at (c.in_ok-done-in-Ended.ensures c.args.state.left.flags c.args.state.left.is_kept) in (
      keep_fails c.args.mail.now c.args.whose tree state (run_end_view c.in_ok-failure.field-0) is (run_state_of c.in-Ended.at_end) c.in-Ended.work (failure_view c.in-Failed-2.failure) (ap run_end_view c.in-Ended.is) end.0 text means,
      end.1,
    )

pub returns : goal.returns
returns c text means =
    let state = sequence_state_of c.args.state in
    let tree = script_tree c.args.script.now in
    let is =
    run_comes c.args.mail.now c.args.whose c.in_ok-code.code tree state c.work_limit-most.result (run_state_of c.in_ok-begun.begun) (run_end_view c.in_ok-failure.field-0) c.in_ok-code.ensures.is_code c.in_ok-failure.ensures
    c.work_limit-most.ensures (c.in_ok-begun.ensures c.args.state.left.is_kept) in
    let end = rw c.in-Ended-2.is at (c.in_ok-done-in-Ended.ensures c.args.state.left.flags c.args.state.left.is_kept) in
    turn_ends c.args.mail.now c.args.whose tree state (run_end_view c.in_ok-failure.field-0) is (run_state_of c.in-Ended.at_end) c.in-Ended.work
    (sequence_state_of (record { left = c.in-Ended-2.left; host_work = c.host_work_behind.result })) (ap run_end_view c.in-Ended.is) end c.host_work_behind.ensures text means
