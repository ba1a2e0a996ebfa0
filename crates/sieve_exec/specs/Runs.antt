-- What the values of a run stand for.
use Rattle.std.specs.Prelude.{ℕ, ◌<◌, Bool, Option, Some, None}
use Rattle.sieve_syntax.specs.RunState.{RunState as RunStateSpec, Failure as FailureSpec, Flow, Going}
use Rattle.sieve_syntax.specs.RunState as F
use Rattle.sieve_syntax.specs.Meaning.{Outcome as OutcomeSpec}
use Rattle.sieve_syntax.specs.Meaning as M
use Rattle.sieve_code.specs.Jumps.{Course, course_of, Run, RunEnd as RunEndSpec, Ended, Broken}
use Rattle.sieve_exec.specs.declared.machine.InstrOutcome.{InstrOutcome}
use Rattle.sieve_exec.specs.declared.machine.InstrOutcome.TheVariants.{Next, Stopped}
use Rattle.sieve_exec.specs.declared.machine.InstrOutcome.TheVariants as turn
use Rattle.sieve_exec.specs.declared.machine.RunEnd.{RunEnd}
use Rattle.sieve_exec.specs.declared.machine.RunEnd.TheVariants as R
use Rattle.sieve_exec.specs.declared.run_state.RunState.{RunState}
use Rattle.sieve_exec.specs.declared.outcome.Failure.{Failure}
use Rattle.sieve_exec.specs.declared.outcome.Failure.TheVariants.{TwoVacations, TooManyRedirects, TooManyMailboxes, TooMuchWork}
use Rattle.sieve_exec.specs.declared.outcome.Outcome.{Outcome}
use Rattle.sieve_exec.specs.declared.outcome.Outcome.TheVariants.{Done, Failed}

-- what has been done so far
abbrev pub run_state_of : RunState → RunStateSpec
run_state_of state = record { filed = state.filed.items; flags = state.flags; sent = state.sent; reply = state.reply; cancelled = state.cancelled; has_kept = state.has_kept; names_inbox = state.names_inbox }

-- why a run failed
abbrev pub failure_view : Failure → FailureSpec
failure_view TwoVacations = F.TwoVacations
failure_view TooManyRedirects = F.TooManyRedirects
failure_view TooManyMailboxes = F.TooManyMailboxes
failure_view TooMuchWork = F.TooMuchWork

-- the state of a run after an action
abbrev pub flow_of : Option Failure → RunStateSpec → Flow
flow_of None state = Going state
flow_of (Some failure) state = F.Failed (failure_view failure)

-- the outcome of a script
abbrev pub outcome_view : Outcome → OutcomeSpec
outcome_view (Done filed sent reply) = M.Done (record { filed = filed; sent = sent; reply = reply })
outcome_view (Failed failure) = M.Failed (failure_view failure)

-- how a run ended
abbrev pub run_end_view : RunEnd → RunEndSpec
run_end_view (R.Ended state work) = Ended (run_state_of state) work
run_end_view (R.Failed failure) = Broken (failure_view failure)

-- how a run goes on after an instruction, given the run from a place on
abbrev pub after_turn : InstrOutcome → Run → Bool → RunStateSpec → Option Course
after_turn (Next place) next flag state = next place flag state
after_turn Stopped next flag state = Some (course_of (F.Stopped state))
after_turn (turn.Failed failure) next flag state = Some (course_of (F.Failed (failure_view failure)))

-- an instruction that doesn't end the run leads past this place
abbrev pub MovesOn : ℕ → InstrOutcome → Type 0
MovesOn place (Next next) = place < next
MovesOn place Stopped = Unit {0}
MovesOn place (turn.Failed failure) = Unit {0}
