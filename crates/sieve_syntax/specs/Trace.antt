-- The actions that a script runs, in turn, and their outcome, where tests only look (RFC 5228, 2.10, 3): a test that changes what the run has done
-- would be a part of what is run.
use Rattle.std.specs.Prelude.{◌≡◌, ◌≤◌, ℕ, Bool, true, false, cond, List, [], ◌∷◌, ◌++◌, length, map, nat_eq, All}
use Rattle.std.specs.List.{IsDistinct}
use Rattle.std.specs.Cmp.Lexicographic.{pointwise}
use Rattle.mail_flags.specs.Flags.{AreFlags, flags_text}
use Rattle.mail_flags.specs.declared.placement.Placement.{Placement}
use Rattle.sieve_syntax.specs.declared.tree.action.Action.{Action}
use Rattle.sieve_syntax.specs.declared.tree.action.Action.TheVariants.{Vacation, SetFlag, AddFlag, RemoveFlag}
use Rattle.sieve_syntax.specs.declared.tree.checks.MailCheck.{MailCheck}
use Rattle.sieve_syntax.specs.RunState.{RunState, at_first, max_targets, max_mailboxes, Flow, Going, Stopped, Failed, and_then, inbox, same_target, performed}
use Rattle.sieve_syntax.specs.Looking.{test_truth}
use Rattle.sieve_syntax.specs.Meaning.{Actions, Outcome}
use Rattle.sieve_syntax.specs.Meaning as M
use Rattle.sieve_syntax.specs.Tree.{CommandTree, require, choose, stop, act, Branches, no_branches, branch, Commands, no_commands, command}

-- actions in the order in which they are run, and whether a `stop` ends them
abbrev pub Trace : Type 0
Trace = List Action × Bool

-- actions in turn, up to one that fails, given what each does
abbrev pub in_turn_by : (Action → RunState → Flow) → List Action → RunState → Flow
in_turn_by performs [] state = Going state
in_turn_by performs (action ∷ more) state = and_then (performs action state) (in_turn_by performs more)

-- the same with what each does
abbrev pub in_turn : List Action → RunState → Flow
in_turn = in_turn_by performed

-- one after the other, unless a `stop` ends the first
abbrev pub then_runs : Trace → Trace → Trace
then_runs (actions, true) next = (actions, true)
then_runs (actions, false) next = (actions ++ next.0, next.1)

-- what is run in the state of a run: nothing after a `stop` or a failure
abbrev pub runs_at : Flow → (RunState → Trace) → Trace
runs_at (Going so_far) next = next so_far
runs_at (Stopped so_far) next = ([], true)
runs_at (Failed failure) next = ([], false)

-- what commands run from a state on, given the truth of the tests and what an action does
abbrev mutual
  pub runs_by : (Action → RunState → Flow) → (RunState → MailCheck → Bool) → CommandTree → RunState → Trace
  runs_by performs truth (require names) so_far = ([], false)
  runs_by performs truth (choose branches) so_far = runs_branch_by performs truth branches so_far
  runs_by performs truth stop so_far = ([], true)
  runs_by performs truth (act action) so_far = (action ∷ [], false)

  -- the first block whose test holds, and no other
  pub runs_branch_by : (Action → RunState → Flow) → (RunState → MailCheck → Bool) → Branches → RunState → Trace
  runs_branch_by performs truth no_branches so_far = ([], false)
  runs_branch_by performs truth (branch condition block more) so_far =
      cond (test_truth (truth so_far) condition) (runs_all_by performs truth block so_far) (runs_branch_by performs truth more so_far)

  -- what follows begins in the state that the actions before lead to
  pub runs_all_by : (Action → RunState → Flow) → (RunState → MailCheck → Bool) → Commands → RunState → Trace
  runs_all_by performs truth no_commands so_far = ([], false)
  runs_all_by performs truth (command first more) so_far =
      then_runs (runs_by performs truth first so_far) (runs_at (in_turn_by performs (runs_by performs truth first so_far).0 so_far) (runs_all_by performs truth more))

-- the actions that a script runs, in turn, given what each does
abbrev pub actions_run_by : (Action → RunState → Flow) → (RunState → MailCheck → Bool) → Commands → List Action
actions_run_by performs truth commands = (runs_all_by performs truth commands at_first).0

-- the actions that a script runs, in turn
abbrev pub actions_run : (RunState → MailCheck → Bool) → Commands → List Action
actions_run = actions_run_by performed

-- an action that leaves the implicit keep and sends the message nowhere
abbrev pub KeepsImplicitly : Action → Type 0
KeepsImplicitly (Vacation args) = Unit {0}
KeepsImplicitly (SetFlag texts) = Unit {0}
KeepsImplicitly (AddFlag texts) = Unit {0}
KeepsImplicitly (RemoveFlag texts) = Unit {0}
KeepsImplicitly _ = ⊥

-- this holds of what is done, if the script didn't fail
abbrev pub OnDone : (Actions → Type 0) → Outcome → Type 0
OnDone P (M.Done actions) = P actions
OnDone P (M.Failed failure) = Unit {0}

-- each mailbox and each address occurs once, and there aren't too many
pub record NamesWithoutRepeats (actions : Actions) : Type 0 where
  pub mailboxes : IsDistinct (pointwise nat_eq) (map (λ (one : Placement). one.mailbox) actions.filed)
  pub addresses : IsDistinct same_target actions.sent
  pub few_mailboxes : length actions.filed ≤ max_mailboxes
  pub few_addresses : length actions.sent ≤ max_targets

-- the message goes into INBOX and nowhere else
pub record FilesIntoInboxAlone (actions : Actions) : Type 0 where
  pub filed : map (λ (one : Placement). one.mailbox) actions.filed ≡ inbox ∷ []
  pub sent : actions.sent ≡ []

-- the text of a copy names flags: names of flags, none twice, and no more than a message may have
abbrev pub NamesFlags : Placement → Type 0
NamesFlags one = (flags : List (List ℕ)) × AreFlags flags × (one.flags ≡ flags_text flags)

-- the text of each copy names flags
pub record FilesWithFlags (actions : Actions) : Type 0 where
  pub named : All NamesFlags actions.filed
