-- What a run takes, and near misses.
use Rattle.std.proofs.Common.{◌≡◌, ℕ, ◌+◌, Bool, true, false, not, cond, None, refl}
use Rattle.sieve_syntax.specs.declared.tree.action.Action.TheVariants.{Keep, Discard, Vacation}
use Rattle.sieve_syntax.specs.declared.tree.checks.MailCheck.{MailCheck}
use Rattle.sieve_syntax.specs.declared.extension.vacation.VacationArgs.{VacationArgs}
use Rattle.sieve_syntax.specs.Meaning.{TestAsking, answered, asking_at, Outcome, Failed, outcome}
use Rattle.sieve_syntax.specs.RunState.{RunState, at_first, TwoVacations, TooMuchWork}
use Rattle.sieve_syntax.specs.Tree.{TestTree, yes, no, looks, not_of, all_of, any_of, no_tests, test, choose, stop, act, branch, no_branches, Commands, no_commands, command}
use Rattle.sieve_syntax.specs.Work.{asked, all_take, max_work, within_work, outcome_within}

-- ---- a test

-- a test behind `not` counts as any other, and `true` takes nothing
behind_not : (asking : TestAsking) (work : RunState → MailCheck → ℕ) (check : MailCheck) (so_far : RunState) → asked asking work (not_of (not_of (looks check))) so_far ≡ work so_far check
behind_not asking work check so_far = refl

plain : (asking : TestAsking) (work : RunState → MailCheck → ℕ) (so_far : RunState) → asked asking work (all_of (test yes (test no no_tests))) so_far ≡ 0
plain asking work so_far = refl

-- two tests
abbrev both : MailCheck → TestTree
both check = all_of (test (looks check) (test (looks check) no_tests))

abbrev either : MailCheck → TestTree
either check = any_of (test (looks check) (test (looks check) no_tests))

-- both are asked where the first one leaves it open, and one where it decides: what isn't asked takes nothing
all_open : (check : MailCheck) → asked (asking_at (λ so_far check. true)) (λ so_far check. 7) (both check) at_first ≡ 14
all_open check = refl

all_decided : (check : MailCheck) → asked (asking_at (λ so_far check. false)) (λ so_far check. 7) (both check) at_first ≡ 7
all_decided check = refl

some_open : (check : MailCheck) → asked (asking_at (λ so_far check. false)) (λ so_far check. 7) (either check) at_first ≡ 14
some_open check = refl

some_decided : (check : MailCheck) → asked (asking_at (λ so_far check. true)) (λ so_far check. 7) (either check) at_first ≡ 7
some_decided check = refl

-- `not` turns what decides
not_decides : (check : MailCheck) → asked (asking_at (λ so_far check. true)) (λ so_far check. 7) (any_of (test (not_of (looks check)) (test (looks check) no_tests))) at_first ≡ 14
not_decides check = refl

-- ---- a run

-- `if CHECK { keep; stop; } elsif CHECK { discard; }`, and a test behind it
abbrev two_choices : MailCheck → Commands
two_choices check =
    command (choose (branch (looks check) (command (act (Keep None)) (command stop no_commands)) (branch (looks check) (command (act Discard) no_commands) no_branches)))
    (command (choose (branch (looks check) no_commands no_branches)) no_commands)

-- the second test isn't asked where the first one holds, nor is one behind `stop`; where it doesn't hold, all three are
first_holds : (check : MailCheck) → all_take (asking_at (λ so_far check. true)) (λ so_far check. 7) (two_choices check) at_first ≡ 7
first_holds check = refl

none_holds : (check : MailCheck) → all_take (asking_at (λ so_far check. false)) (λ so_far check. 7) (two_choices check) at_first ≡ 21
none_holds check = refl

-- a test is asked at what was done by then
at_what_was_done : (check : MailCheck) → all_take (asking_at (λ so_far check. true)) (λ so_far check. cond so_far.cancelled 5 1) (command (act Discard) (two_choices check)) at_first ≡ 5
at_what_was_done check = refl

-- and at what the tests before have changed
abbrev discarding : TestAsking
discarding so_far check = answered so_far.cancelled (record so_far { cancelled = true })

behind_a_test : (check : MailCheck) → asked discarding (λ so_far check. cond so_far.cancelled 5 1) (either check) at_first ≡ 6
behind_a_test check = refl

-- nothing is asked behind a failure
abbrev failing : VacationArgs → MailCheck → Commands
failing args check = command (act (Vacation args)) (command (act (Vacation args)) (two_choices check))

behind_failure : (args : VacationArgs) (check : MailCheck) → all_take (asking_at (λ so_far check. true)) (λ so_far check. 7) (failing args check) at_first ≡ 0
behind_failure args check = refl

-- ---- the limit

-- as much as that may be, and no more, whatever the run would come to: nothing of it is done
just_enough : (result : Outcome) → within_work max_work result ≡ result
just_enough result = refl

too_much : (result : Outcome) → within_work (max_work + 1) result ≡ Failed TooMuchWork
too_much result = refl

-- it is that of a run and not of a test: three tests of 80,000,000 pass it, and one of them, before `stop`, doesn't
all_three : (check : MailCheck) → outcome_within (asking_at (λ so_far check. false)) (λ so_far check. 80000000) (two_choices check) ≡ Failed TooMuchWork
all_three check = refl

one_of_them : (check : MailCheck) → outcome_within (asking_at (λ so_far check. true)) (λ so_far check. 80000000) (two_choices check) ≡ outcome (asking_at (λ so_far check. true)) (two_choices check)
one_of_them check = refl

-- a failure before the limit is told as it is
first_failure : (args : VacationArgs) (check : MailCheck) → outcome_within (asking_at (λ so_far check. true)) (λ so_far check. max_work + 1) (failing args check) ≡ Failed TwoVacations
first_failure args check = refl
