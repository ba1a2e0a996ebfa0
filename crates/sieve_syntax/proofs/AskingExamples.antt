-- Tests that change what the run has done, and near misses.
use Rattle.std.proofs.Common.{◌≡◌, ℕ, ◌+◌, Bool, true, false, [], ◌∷◌, List, None, refl, ap}
use Rattle.std.specs.Prelude.{length, nat_eq}
use Rattle.sieve_syntax.specs.declared.tree.action.Action.TheVariants.{Keep, Discard}
use Rattle.sieve_syntax.specs.declared.tree.checks.MailCheck.{MailCheck}
use Rattle.sieve_syntax.specs.Meaning.{TestAnswer, answered, TestAsking, asking_at, OnlyLooks, holds, does_all, Outcome, Done, outcome}
use Rattle.sieve_syntax.specs.RunState.{RunState, at_first, Flow, Going, Stopped}
use Rattle.sieve_syntax.specs.Tree.{TestTree, yes, no, looks, not_of, all_of, any_of, no_tests, test, choose, stop, act, branch, no_branches, Commands, no_commands, command}

-- a run in which so many tests were asked: each sets a flag more
abbrev asked_times : List (List ℕ) → RunState
asked_times flags = record at_first { flags = flags }

-- a test that holds the second time that it is asked, and no other time
abbrev counting : TestAsking
counting so_far check = answered (nat_eq (length so_far.flags) 1) (record so_far { flags = [] ∷ so_far.flags })

-- two tests
abbrev both : MailCheck → TestTree
both check = all_of (test (looks check) (test (looks check) no_tests))

abbrev either : MailCheck → TestTree
either check = any_of (test (looks check) (test (looks check) no_tests))

-- `anyof` asks the second one behind the first, so that it holds; each of them alone doesn't
second_holds : (check : MailCheck) → holds counting (either check) at_first ≡ answered true (asked_times ([] ∷ [] ∷ []))
second_holds check = refl

first_alone : (check : MailCheck) → holds counting (looks check) at_first ≡ answered false (asked_times ([] ∷ []))
first_alone check = refl

-- `allof` doesn't ask it, since the first one doesn't hold
never_asked : (check : MailCheck) → holds counting (both check) at_first ≡ answered false (asked_times ([] ∷ []))
never_asked check = refl

-- behind `not` the first one holds, and the second one is asked; what a test has changed stays so behind `not`
behind_denied : (check : MailCheck) → holds counting (all_of (test (not_of (looks check)) (test (looks check) no_tests))) at_first ≡ answered true (asked_times ([] ∷ [] ∷ []))
behind_denied check = refl

-- `true` and `false` change nothing
plain : holds counting (any_of (test no (test yes no_tests))) at_first ≡ answered true at_first
plain = refl

-- `if CHECK { stop; } elsif CHECK { discard; }`: the second one is asked behind the first, and its block is run behind both
abbrev chain : MailCheck → Commands
chain check = command (choose (branch (looks check) (command stop no_commands) (branch (looks check) (command (act Discard) no_commands) no_branches))) no_commands

elsif_holds : (check : MailCheck) → does_all counting (chain check) at_first ≡ Going (record at_first { flags = [] ∷ [] ∷ []; cancelled = true })
elsif_holds check = refl

-- if both only looked and had the truth that the first one has, neither would hold
none_holds : (check : MailCheck) → does_all (asking_at (λ so_far check. nat_eq (length so_far.flags) 1)) (chain check) at_first ≡ Going at_first
none_holds check = refl

-- a command behind them sees what the tests have changed, where none holds too
behind_choice : (check : MailCheck) → does_all counting (command (choose (branch (looks check) no_commands no_branches)) (chain check)) at_first ≡ Stopped (asked_times ([] ∷ [] ∷ []))
behind_choice check = refl

-- a test that only looks is one, and one that counts isn't, whatever its truth may be
looking : (truth : RunState → MailCheck → Bool) → OnlyLooks (asking_at truth) truth
looking truth so_far check = refl

flags_behind : TestAnswer → ℕ
flags_behind answer = length answer.so_far.flags

not_looking : (truth : RunState → MailCheck → Bool) (check : MailCheck) → OnlyLooks counting truth → ⊥
unfolding flags_behind
not_looking truth check only = let one : 1 ≡ 0 = ap flags_behind (only at_first check) in absurd (cc one)
