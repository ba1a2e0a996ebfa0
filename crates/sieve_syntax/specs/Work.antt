-- The work of a run: that of the tests that it asks, for any asking and any work of the tests that look at the message and at what has been
-- done so far (RFC 5228, 5).
use Rattle.std.specs.Prelude.{ℕ, ◌+◌, cond, nat_lt}
use Rattle.sieve_syntax.specs.declared.tree.checks.MailCheck.{MailCheck}
use Rattle.sieve_syntax.specs.Meaning.{TestAsking, after_test, holds, does, Outcome, Failed, outcome}
use Rattle.sieve_syntax.specs.RunState.{RunState, at_first, TooMuchWork, Flow, Going, Stopped}
use Rattle.sieve_syntax.specs.RunState as F
use Rattle.sieve_syntax.specs.Tree.{TestTree, yes, no, looks, not_of, all_of, any_of, Tests, no_tests, test, CommandTree, require, choose, stop, act, Branches, no_branches, branch, Commands, no_commands, command}

-- no work
abbrev pub none_taken : RunState → ℕ
none_taken so_far = 0

-- the work of a test: that of the tests within it that are asked, each at what has been done by then. After one that doesn't hold `allof` asks
-- no more, and `anyof` after one that holds (RFC 5228, 5.2 and 5.3); `not` takes the work of its test
abbrev mutual
  pub asked : TestAsking → (RunState → MailCheck → ℕ) → TestTree → RunState → ℕ
  asked asking work yes so_far = 0
  asked asking work no so_far = 0
  asked asking work (looks check) so_far = work so_far check
  asked asking work (not_of inner) so_far = asked asking work inner so_far
  asked asking work (all_of inner) so_far = all_asked asking work inner so_far
  asked asking work (any_of inner) so_far = some_asked asking work inner so_far

  pub all_asked : TestAsking → (RunState → MailCheck → ℕ) → Tests → RunState → ℕ
  all_asked asking work no_tests so_far = 0
  all_asked asking work (test first more) so_far = asked asking work first so_far + after_test (holds asking first so_far) (all_asked asking work more) none_taken

  pub some_asked : TestAsking → (RunState → MailCheck → ℕ) → Tests → RunState → ℕ
  some_asked asking work no_tests so_far = 0
  some_asked asking work (test first more) so_far = asked asking work first so_far + after_test (holds asking first so_far) none_taken (some_asked asking work more)

-- the work of what comes next, if the run goes on
abbrev pub then_takes : Flow → (RunState → ℕ) → ℕ
then_takes (Going so_far) next = next so_far
then_takes (Stopped so_far) next = 0
then_takes (F.Failed failure) next = 0

-- the work of commands in turn (RFC 5228, 3): that of each test that is asked, at what has been done by then
abbrev mutual
  pub takes : TestAsking → (RunState → MailCheck → ℕ) → CommandTree → RunState → ℕ
  takes asking work (require names) so_far = 0
  takes asking work (choose branches) so_far = choice_takes asking work branches so_far
  takes asking work stop so_far = 0
  takes asking work (act action) so_far = 0

  -- the tests up to the first that holds, and its block
  pub choice_takes : TestAsking → (RunState → MailCheck → ℕ) → Branches → RunState → ℕ
  choice_takes asking work no_branches so_far = 0
  choice_takes asking work (branch condition block more) so_far =
      asked asking work condition so_far + after_test (holds asking condition so_far) (all_take asking work block) (choice_takes asking work more)

  pub all_take : TestAsking → (RunState → MailCheck → ℕ) → Commands → RunState → ℕ
  all_take asking work no_commands so_far = 0
  all_take asking work (command first more) so_far = takes asking work first so_far + then_takes (does asking first so_far) (all_take asking work more)

-- how much work a run may take
abbrev pub max_work : ℕ
max_work = 200_000_000

-- a run that takes more fails, whatever its outcome would be (RFC 5228, 2.10.6)
abbrev pub within_work : ℕ → Outcome → Outcome
within_work work result = cond (nat_lt max_work work) (Failed TooMuchWork) result

-- the outcome of a script within that limit
abbrev pub outcome_within : TestAsking → (RunState → MailCheck → ℕ) → Commands → Outcome
outcome_within asking work commands = within_work (all_take asking work commands at_first) (outcome asking commands)
