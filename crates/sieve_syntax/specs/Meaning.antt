-- What commands do, for any asking of the tests that look at the message and at what has been done so far (RFC 5228, 2.10, 3; RFC 5232, 4).
use Rattle.std.specs.Prelude.{◌≡◌, Bool, true, false, not, cond, List, Option}
use Rattle.mail_flags.specs.declared.placement.Placement.{Placement}
use Rattle.mail_address.specs.declared.address.Addr.{Addr}
use Rattle.sieve_syntax.specs.declared.tree.checks.MailCheck.{MailCheck}
use Rattle.sieve_syntax.specs.declared.extension.vacation.VacationArgs.{VacationArgs}
use Rattle.sieve_syntax.specs.RunState.{RunState, at_first, Failure, Flow, and_then, kept_implicitly, performed}
use Rattle.sieve_syntax.specs.RunState as F
use Rattle.sieve_syntax.specs.Tree.{TestTree, yes, no, looks, not_of, all_of, any_of, Tests, no_tests, test, CommandTree, require, choose, stop, act, Branches, no_branches, branch, Commands, no_commands, command}

-- what asking a test comes to: whether it holds, and what the run has done behind it. A test may change that, as one does that keeps what it
-- matched (RFC 5229, 3.2); no test of sieved does so today
pub record TestAnswer : Type 0 where
  pub is_held : Bool
  pub so_far : RunState

-- an answer
abbrev pub answered : Bool → RunState → TestAnswer
answered is_held so_far = record { is_held = is_held; so_far = so_far }

-- how tests that look are asked, at what has been done so far
abbrev pub TestAsking : Type 0
TestAsking = RunState → MailCheck → TestAnswer

-- the asking of tests that only look: it changes nothing
abbrev pub asking_at : (RunState → MailCheck → Bool) → TestAsking
asking_at truth so_far check = answered (truth so_far check) so_far

-- tests that are asked like this only look, and this is their truth
abbrev pub OnlyLooks : TestAsking → (RunState → MailCheck → Bool) → Type 0
OnlyLooks asking truth = (so_far : RunState) (check : MailCheck) → asking so_far check ≡ answered (truth so_far check) so_far

-- what comes behind a test, where it holds and where it doesn't: it begins with what has been done by then
abbrev pub after_test : {X : Type 0} → TestAnswer → (RunState → X) → (RunState → X) → X
after_test answer next other = cond answer.is_held (next answer.so_far) (other answer.so_far)

-- the answer of `not` (RFC 5228, 5.8)
abbrev pub denied : TestAnswer → TestAnswer
denied answer = answered (not answer.is_held) answer.so_far

-- what asking a test comes to (RFC 5228, 5). Tests are asked in the order of the text, and no more of them than decide: of `allof` none after
-- one that doesn't hold, of `anyof` none after one that holds. RFC 5228, 5.2 and 5.3, leaves that open, and RFC 5229, 3.2, asks for it
abbrev mutual
  pub holds : TestAsking → TestTree → RunState → TestAnswer
  holds asking yes so_far = answered true so_far
  holds asking no so_far = answered false so_far
  holds asking (looks check) so_far = asking so_far check
  holds asking (not_of inner) so_far = denied (holds asking inner so_far)
  holds asking (all_of inner) so_far = all_hold asking inner so_far
  holds asking (any_of inner) so_far = some_holds asking inner so_far

  -- each of these tests
  pub all_hold : TestAsking → Tests → RunState → TestAnswer
  all_hold asking no_tests so_far = answered true so_far
  all_hold asking (test first more) so_far = after_test (holds asking first so_far) (all_hold asking more) (answered false)

  -- some of these tests
  pub some_holds : TestAsking → Tests → RunState → TestAnswer
  some_holds asking no_tests so_far = answered false so_far
  some_holds asking (test first more) so_far = after_test (holds asking first so_far) (answered true) (some_holds asking more)

-- what commands do, in turn (RFC 5228, 3)
abbrev mutual
  pub does : TestAsking → CommandTree → RunState → Flow
  does asking (require names) so_far = F.Going so_far
  does asking (choose branches) so_far = chooses asking branches so_far
  does asking stop so_far = F.Stopped so_far
  does asking (act action) so_far = performed action so_far

  -- the first block whose test holds is run, and no other: each test is asked behind the one before, and none behind the first that holds
  pub chooses : TestAsking → Branches → RunState → Flow
  chooses asking no_branches so_far = F.Going so_far
  chooses asking (branch condition block more) so_far = after_test (holds asking condition so_far) (does_all asking block) (chooses asking more)

  pub does_all : TestAsking → Commands → RunState → Flow
  does_all asking no_commands so_far = F.Going so_far
  does_all asking (command first more) so_far = and_then (does asking first so_far) (does_all asking more)

-- what is done in the end: the mailboxes, each with the flags of its copy, and the addresses, in order, and the answer to the
-- sender, if there is one
pub record Actions : Type 0 where
  pub filed : List Placement
  pub sent : List Addr
  pub reply : Option VacationArgs

-- the outcome of a script: if it failed, nothing of it is done
pub data Outcome : Type 0 where
  Done : Actions → Outcome
  Failed : Failure → Outcome

abbrev pub actions_of : RunState → Actions
actions_of so_far = record { filed = so_far.filed; sent = so_far.sent; reply = so_far.reply }

abbrev pub done_by : Flow → Outcome
done_by (F.Going so_far) = Done (actions_of so_far)
done_by (F.Stopped so_far) = Done (actions_of so_far)
done_by (F.Failed failure) = Failed failure

-- the implicit keep comes last
abbrev pub outcome_after : Flow → Outcome
outcome_after (F.Going so_far) = done_by (kept_implicitly so_far)
outcome_after (F.Stopped so_far) = done_by (kept_implicitly so_far)
outcome_after (F.Failed failure) = Failed failure

-- the outcome of a script, if the tests that look at the message and at what has been done so far are asked like this
abbrev pub outcome : TestAsking → Commands → Outcome
outcome asking commands = outcome_after (does_all asking commands at_first)
