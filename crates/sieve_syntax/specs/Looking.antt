-- What commands do and the work that they take where tests only look: a test has a truth at what has been done so far, and changes nothing, so
-- all tests of a condition are asked at one state (RFC 5228, 3 and 5).
use Rattle.std.specs.Prelude.{ℕ, ◌+◌, Bool, true, false, not, cond, ◌&&◌, ◌||◌}
use Rattle.sieve_syntax.specs.declared.tree.checks.MailCheck.{MailCheck}
use Rattle.sieve_syntax.specs.Meaning.{Outcome, outcome_after}
use Rattle.sieve_syntax.specs.RunState.{RunState, at_first, Flow, Going, Stopped, and_then, performed}
use Rattle.sieve_syntax.specs.Tree.{TestTree, yes, no, looks, not_of, all_of, any_of, Tests, no_tests, test, CommandTree, require, choose, stop, act, Branches, no_branches, branch, Commands, no_commands, command}
use Rattle.sieve_syntax.specs.Work.{then_takes}

-- whether a test holds
abbrev mutual
  pub test_truth : (MailCheck → Bool) → TestTree → Bool
  test_truth truth yes = true
  test_truth truth no = false
  test_truth truth (looks check) = truth check
  test_truth truth (not_of inner) = not (test_truth truth inner)
  test_truth truth (all_of inner) = all_true truth inner
  test_truth truth (any_of inner) = some_true truth inner

  -- each of these tests
  pub all_true : (MailCheck → Bool) → Tests → Bool
  all_true truth no_tests = true
  all_true truth (test first more) = test_truth truth first && all_true truth more

  -- some of these tests
  pub some_true : (MailCheck → Bool) → Tests → Bool
  some_true truth no_tests = false
  some_true truth (test first more) = test_truth truth first || some_true truth more

-- what commands do, in turn
abbrev mutual
  pub does_by : (RunState → MailCheck → Bool) → CommandTree → RunState → Flow
  does_by truth (require names) so_far = Going so_far
  does_by truth (choose branches) so_far = chooses_by truth branches so_far
  does_by truth stop so_far = Stopped so_far
  does_by truth (act action) so_far = performed action so_far

  -- the first block whose test holds is run, and no other
  pub chooses_by : (RunState → MailCheck → Bool) → Branches → RunState → Flow
  chooses_by truth no_branches so_far = Going so_far
  chooses_by truth (branch condition block more) so_far =
      cond (test_truth (truth so_far) condition) (does_all_by truth block so_far) (chooses_by truth more so_far)

  pub does_all_by : (RunState → MailCheck → Bool) → Commands → RunState → Flow
  does_all_by truth no_commands so_far = Going so_far
  does_all_by truth (command first more) so_far = and_then (does_by truth first so_far) (does_all_by truth more)

-- the outcome of a script
abbrev pub outcome_by : (RunState → MailCheck → Bool) → Commands → Outcome
outcome_by truth commands = outcome_after (does_all_by truth commands at_first)

-- the work of a test: that of the tests within it that are asked
abbrev mutual
  pub asked_by : (MailCheck → Bool) → (MailCheck → ℕ) → TestTree → ℕ
  asked_by truth work yes = 0
  asked_by truth work no = 0
  asked_by truth work (looks check) = work check
  asked_by truth work (not_of inner) = asked_by truth work inner
  asked_by truth work (all_of inner) = all_asked_by truth work inner
  asked_by truth work (any_of inner) = some_asked_by truth work inner

  pub all_asked_by : (MailCheck → Bool) → (MailCheck → ℕ) → Tests → ℕ
  all_asked_by truth work no_tests = 0
  all_asked_by truth work (test first more) = asked_by truth work first + cond (test_truth truth first) (all_asked_by truth work more) 0

  pub some_asked_by : (MailCheck → Bool) → (MailCheck → ℕ) → Tests → ℕ
  some_asked_by truth work no_tests = 0
  some_asked_by truth work (test first more) = asked_by truth work first + cond (test_truth truth first) 0 (some_asked_by truth work more)

-- the work of commands in turn
abbrev mutual
  pub takes_by : (RunState → MailCheck → Bool) → (RunState → MailCheck → ℕ) → CommandTree → RunState → ℕ
  takes_by truth work (require names) so_far = 0
  takes_by truth work (choose branches) so_far = choice_takes_by truth work branches so_far
  takes_by truth work stop so_far = 0
  takes_by truth work (act action) so_far = 0

  -- the tests up to the first that holds, and its block
  pub choice_takes_by : (RunState → MailCheck → Bool) → (RunState → MailCheck → ℕ) → Branches → RunState → ℕ
  choice_takes_by truth work no_branches so_far = 0
  choice_takes_by truth work (branch condition block more) so_far =
      asked_by (truth so_far) (work so_far) condition
      + cond (test_truth (truth so_far) condition) (all_take_by truth work block so_far) (choice_takes_by truth work more so_far)

  pub all_take_by : (RunState → MailCheck → Bool) → (RunState → MailCheck → ℕ) → Commands → RunState → ℕ
  all_take_by truth work no_commands so_far = 0
  all_take_by truth work (command first more) so_far = takes_by truth work first so_far + then_takes (does_by truth first so_far) (all_take_by truth work more)
