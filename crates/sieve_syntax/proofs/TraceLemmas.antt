-- What a script comes to is what the actions that it runs come to in turn.
use Rattle.std.proofs.Common.{◌≡◌, Bool, true, false, cond, List, [], ◌∷◌, ◌++◌, refl, sym, ap, ◌∙◌}
use Rattle.sieve_syntax.specs.declared.tree.action.Action.{Action}
use Rattle.sieve_syntax.specs.declared.tree.checks.MailCheck.{MailCheck}
use Rattle.sieve_syntax.specs.RunState.{RunState, at_first, Flow, Going, Stopped, Failed, and_then, performed}
use Rattle.sieve_syntax.specs.Looking.{test_truth, does_by, chooses_by, does_all_by, outcome_by}
use Rattle.sieve_syntax.specs.Meaning.{outcome_after}
use Rattle.sieve_syntax.specs.Trace.{Trace, then_runs, runs_at, runs_by, runs_branch_by, runs_all_by, actions_run, in_turn}
use Rattle.sieve_syntax.specs.Tree.{CommandTree, require, choose, stop, act, Branches, no_branches, branch, Commands, no_commands, command}

-- where a `stop` may end what was done
abbrev stopping : Bool → Flow → Flow
stopping false flow = flow
stopping true (Going state) = Stopped state
stopping true (Stopped state) = Stopped state
stopping true (Failed failure) = Failed failure

-- what a trace does
abbrev after : Trace → RunState → Flow
after trace state = stopping trace.1 (in_turn trace.0 state)

-- actions in two parts
in_turn_append : (xs ys : List Action) (state : RunState) → in_turn (xs ++ ys) state ≡ and_then (in_turn xs state) (in_turn ys)
in_turn_append [] ys state = refl
in_turn_append (x ∷ xs) ys state = step (performed x state) (in_turn_append xs ys)
  where
    step : (flow : Flow) → ((next : RunState) → in_turn (xs ++ ys) next ≡ and_then (in_turn xs next) (in_turn ys)) → and_then flow (in_turn (xs ++ ys)) ≡ and_then (and_then flow (in_turn xs)) (in_turn ys)
    step (Going next) more = more next
    step (Stopped next) more = refl
    step (Failed failure) more = refl

-- one trace and then another, which begins with what the first one does
one_more : (trace : Trace) (more : RunState → Trace) (next : RunState → Flow) → ((state : RunState) → next state ≡ after (more state) state) → (state : RunState)
    → and_then (after trace state) next ≡ after (then_runs trace (runs_at (in_turn trace.0 state) more)) state
one_more (actions, true) more next same state = step (in_turn actions state)
  where
    step : (flow : Flow) → and_then (stopping true flow) next ≡ stopping true flow
    step (Going later) = refl
    step (Stopped later) = refl
    step (Failed failure) = refl
one_more (actions, false) more next same state =
    step (in_turn actions state) ∙ ap (stopping (runs_at (in_turn actions state) more).1) (sym (in_turn_append actions (runs_at (in_turn actions state) more).0 state))
  where
    step : (flow : Flow) → and_then flow next ≡ stopping (runs_at flow more).1 (and_then flow (in_turn (runs_at flow more).0))
    step (Going later) = same later
    step (Stopped later) = refl
    step (Failed failure) = refl

-- an action alone
alone : (flow : Flow) → flow ≡ and_then flow (λ state. Going state)
alone (Going state) = refl
alone (Stopped state) = refl
alone (Failed failure) = refl

-- one of two traces
either : (first : Bool) (one two : Trace) (f g : RunState → Flow) (state : RunState) → f state ≡ after one state → g state ≡ after two state → cond first (f state) (g state) ≡ after (cond first one two) state
either true one two f g state same other = same
either false one two f g state same other = other

mutual
  command_does : (truth : RunState → MailCheck → Bool) (tree : CommandTree) (state : RunState) → does_by truth tree state ≡ after (runs_by performed truth tree state) state
  command_does truth (require names) state = refl
  command_does truth (choose branches) state = branches_do truth branches state
  command_does truth stop state = refl
  command_does truth (act action) state = alone (performed action state)

  branches_do : (truth : RunState → MailCheck → Bool) (branches : Branches) (state : RunState) → chooses_by truth branches state ≡ after (runs_branch_by performed truth branches state) state
  branches_do truth no_branches state = refl
  branches_do truth (branch condition block more) state =
      either (test_truth (truth state) condition) (runs_all_by performed truth block state) (runs_branch_by performed truth more state) (does_all_by truth block) (chooses_by truth more) state (commands_do truth block state) (branches_do truth more state)

  commands_do : (truth : RunState → MailCheck → Bool) (commands : Commands) (state : RunState) → does_all_by truth commands state ≡ after (runs_all_by performed truth commands state) state
  commands_do truth no_commands state = refl
  commands_do truth (command first more) state =
      ap (λ flow. and_then flow (does_all_by truth more)) (command_does truth first state)
      ∙ one_more (runs_by performed truth first state) (runs_all_by performed truth more) (does_all_by truth more) (λ next. commands_do truth more next) state

-- a `stop` at the end changes nothing in the end
ended_stopping : (stops : Bool) (flow : Flow) → outcome_after (stopping stops flow) ≡ outcome_after flow
ended_stopping false flow = refl
ended_stopping true (Going state) = refl
ended_stopping true (Stopped state) = refl
ended_stopping true (Failed failure) = refl

pub outcome_in_turn : (truth : RunState → MailCheck → Bool) (commands : Commands) → outcome_by truth commands ≡ outcome_after (in_turn (actions_run truth commands) at_first)
outcome_in_turn truth commands = ap outcome_after (commands_do truth commands at_first) ∙ ended_stopping (runs_all_by performed truth commands at_first).1 (in_turn (actions_run truth commands) at_first)
