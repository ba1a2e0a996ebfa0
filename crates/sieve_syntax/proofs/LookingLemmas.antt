-- Where tests only look, commands do what they do by the truth of the tests, and take the same work.
use Rattle.std.proofs.Common.{◌≡◌, ℕ, ◌+◌, Bool, true, false, ◌&&◌, ◌||◌, cond, refl, sym, ap, ◌∙◌, subst}
use Rattle.std.proofs.Math.Path.{fun_ext}
use Rattle.sieve_syntax.specs.declared.tree.checks.MailCheck.{MailCheck}
use Rattle.sieve_syntax.specs.Looking.{test_truth, all_true, some_true, does_by, chooses_by, does_all_by, outcome_by, asked_by, all_asked_by, some_asked_by, takes_by, choice_takes_by, all_take_by}
use Rattle.sieve_syntax.specs.Meaning.{TestAnswer, answered, TestAsking, asking_at, OnlyLooks, after_test, denied, holds, all_hold, some_holds, does, chooses, does_all, Outcome, outcome_after, outcome}
use Rattle.sieve_syntax.specs.RunState.{RunState, at_first, Flow, Going, Stopped, Failed, and_then}
use Rattle.sieve_syntax.specs.Tree.{TestTree, yes, no, looks, not_of, all_of, any_of, Tests, no_tests, test, CommandTree, require, choose, stop, act, Branches, no_branches, branch, Commands, no_commands, command}
use Rattle.sieve_syntax.specs.Work.{none_taken, asked, all_asked, some_asked, then_takes, takes, choice_takes, all_take}

-- one of two, whichever it is
one_of : {X : Type 0} (held : Bool) (one other here there : X) → one ≡ here → other ≡ there → cond held one other ≡ cond held here there
one_of true one other here there same others = same
one_of false one other here there same others = others

-- the answer of `allof` and of `anyof`, where the first test changes nothing
all_behind : (first rest : Bool) (so_far : RunState) (answer : TestAnswer) → answer ≡ answered rest so_far → cond first answer (answered false so_far) ≡ answered (first && rest) so_far
all_behind true rest so_far answer same = same
all_behind false rest so_far answer same = refl

some_behind : (first rest : Bool) (so_far : RunState) (answer : TestAnswer) → answer ≡ answered rest so_far → cond first (answered true so_far) answer ≡ answered (first || rest) so_far
some_behind true rest so_far answer same = refl
some_behind false rest so_far answer same = same

-- what comes next is the same
then_same : (flow : Flow) (one other : RunState → Flow) → ((next : RunState) → one next ≡ other next) → and_then flow one ≡ and_then flow other
then_same (Going next) one other same = same next
then_same (Stopped next) one other same = refl
then_same (Failed failure) one other same = refl

then_takes_same : (flow : Flow) (one other : RunState → ℕ) → ((next : RunState) → one next ≡ other next) → then_takes flow one ≡ then_takes flow other
then_takes_same (Going next) one other same = same next
then_takes_same (Stopped next) one other same = refl
then_takes_same (Failed failure) one other same = refl

module _ (truth : RunState → MailCheck → Bool) where
  abbrev asks : TestAsking
  asks = asking_at truth

  mutual
    test_looks : (tree : TestTree) (so_far : RunState) → holds asks tree so_far ≡ answered (test_truth (truth so_far) tree) so_far
    test_looks yes so_far = refl
    test_looks no so_far = refl
    test_looks (looks check) so_far = refl
    test_looks (not_of inner) so_far = ap denied (test_looks inner so_far)
    test_looks (all_of inner) so_far = all_look inner so_far
    test_looks (any_of inner) so_far = some_look inner so_far

    all_look : (tests : Tests) (so_far : RunState) → all_hold asks tests so_far ≡ answered (all_true (truth so_far) tests) so_far
    all_look no_tests so_far = refl
    all_look (test first more) so_far =
        ap (λ answer. after_test answer (all_hold asks more) (answered false)) (test_looks first so_far)
        ∙ all_behind (test_truth (truth so_far) first) (all_true (truth so_far) more) so_far (all_hold asks more so_far) (all_look more so_far)

    some_look : (tests : Tests) (so_far : RunState) → some_holds asks tests so_far ≡ answered (some_true (truth so_far) tests) so_far
    some_look no_tests so_far = refl
    some_look (test first more) so_far =
        ap (λ answer. after_test answer (answered true) (some_holds asks more)) (test_looks first so_far)
        ∙ some_behind (test_truth (truth so_far) first) (some_true (truth so_far) more) so_far (some_holds asks more so_far) (some_look more so_far)

  mutual
    command_looks : (tree : CommandTree) (so_far : RunState) → does asks tree so_far ≡ does_by truth tree so_far
    command_looks (require names) so_far = refl
    command_looks (choose branches) so_far = branches_look branches so_far
    command_looks stop so_far = refl
    command_looks (act action) so_far = refl

    branches_look : (branches : Branches) (so_far : RunState) → chooses asks branches so_far ≡ chooses_by truth branches so_far
    branches_look no_branches so_far = refl
    branches_look (branch condition block more) so_far =
        ap (λ answer. after_test answer (does_all asks block) (chooses asks more)) (test_looks condition so_far)
        ∙ one_of (test_truth (truth so_far) condition) _ _ _ _ (commands_look block so_far) (branches_look more so_far)

    commands_look : (commands : Commands) (so_far : RunState) → does_all asks commands so_far ≡ does_all_by truth commands so_far
    commands_look no_commands so_far = refl
    commands_look (command first more) so_far =
        ap (λ flow. and_then flow (does_all asks more)) (command_looks first so_far)
        ∙ then_same (does_by truth first so_far) (does_all asks more) (does_all_by truth more) (λ next. commands_look more next)

  module _ (work : RunState → MailCheck → ℕ) where
    mutual
      test_asked : (tree : TestTree) (so_far : RunState) → asked asks work tree so_far ≡ asked_by (truth so_far) (work so_far) tree
      test_asked yes so_far = refl
      test_asked no so_far = refl
      test_asked (looks check) so_far = refl
      test_asked (not_of inner) so_far = test_asked inner so_far
      test_asked (all_of inner) so_far = each_asked inner so_far
      test_asked (any_of inner) so_far = any_asked inner so_far

      each_asked : (tests : Tests) (so_far : RunState) → all_asked asks work tests so_far ≡ all_asked_by (truth so_far) (work so_far) tests
      each_asked no_tests so_far = refl
      each_asked (test first more) so_far =
          ap (λ n. n + after_test (holds asks first so_far) (all_asked asks work more) none_taken) (test_asked first so_far)
          ∙ ap (λ n. asked_by (truth so_far) (work so_far) first + n)
          (ap (λ answer. after_test answer (all_asked asks work more) none_taken) (test_looks first so_far)
          ∙ one_of (test_truth (truth so_far) first) _ _ _ _ (each_asked more so_far) refl)

      any_asked : (tests : Tests) (so_far : RunState) → some_asked asks work tests so_far ≡ some_asked_by (truth so_far) (work so_far) tests
      any_asked no_tests so_far = refl
      any_asked (test first more) so_far =
          ap (λ n. n + after_test (holds asks first so_far) none_taken (some_asked asks work more)) (test_asked first so_far)
          ∙ ap (λ n. asked_by (truth so_far) (work so_far) first + n)
          (ap (λ answer. after_test answer none_taken (some_asked asks work more)) (test_looks first so_far)
          ∙ one_of (test_truth (truth so_far) first) _ _ _ _ refl (any_asked more so_far))

    mutual
      command_takes : (tree : CommandTree) (so_far : RunState) → takes asks work tree so_far ≡ takes_by truth work tree so_far
      command_takes (require names) so_far = refl
      command_takes (choose branches) so_far = branches_take branches so_far
      command_takes stop so_far = refl
      command_takes (act action) so_far = refl

      branches_take : (branches : Branches) (so_far : RunState) → choice_takes asks work branches so_far ≡ choice_takes_by truth work branches so_far
      branches_take no_branches so_far = refl
      branches_take (branch condition block more) so_far =
          ap (λ n. n + after_test (holds asks condition so_far) (all_take asks work block) (choice_takes asks work more)) (test_asked condition so_far)
          ∙ ap (λ n. asked_by (truth so_far) (work so_far) condition + n)
          (ap (λ answer. after_test answer (all_take asks work block) (choice_takes asks work more)) (test_looks condition so_far)
          ∙ one_of (test_truth (truth so_far) condition) _ _ _ _ (commands_take block so_far) (branches_take more so_far))

      commands_take : (commands : Commands) (so_far : RunState) → all_take asks work commands so_far ≡ all_take_by truth work commands so_far
      commands_take no_commands so_far = refl
      commands_take (command first more) so_far =
          ap (λ n. n + then_takes (does asks first so_far) (all_take asks work more)) (command_takes first so_far)
          ∙ ap (λ n. takes_by truth work first so_far + n)
          (ap (λ flow. then_takes flow (all_take asks work more)) (command_looks first so_far)
          ∙ then_takes_same (does_by truth first so_far) (all_take asks work more) (all_take_by truth work more) (λ next. commands_take more next))

-- tests that only look are asked by their truth
asked_by_truth : (asking : TestAsking) (truth : RunState → MailCheck → Bool) → OnlyLooks asking truth → asking ≡ asking_at truth
asked_by_truth asking truth only = fun_ext (λ (so_far : RunState). fun_ext (only so_far))

pub outcome_looking : (asking : TestAsking) (truth : RunState → MailCheck → Bool) (tree : Commands) → OnlyLooks asking truth → outcome asking tree ≡ outcome_by truth tree
outcome_looking asking truth tree only =
    ap (λ (asked : TestAsking). outcome asked tree) (asked_by_truth asking truth only) ∙ ap outcome_after (commands_look truth tree at_first)

pub work_looking : (asking : TestAsking) (truth : RunState → MailCheck → Bool) (work : RunState → MailCheck → ℕ) (tree : Commands) (so_far : RunState) → OnlyLooks asking truth
    → all_take asking work tree so_far ≡ all_take_by truth work tree so_far
work_looking asking truth work tree so_far only =
    ap (λ (asked : TestAsking). all_take asked work tree so_far) (asked_by_truth asking truth only) ∙ commands_take truth work tree so_far

-- what is so of the outcome by the truth
pub so_looking : (P : Outcome → Type 0) (asking : TestAsking) (truth : RunState → MailCheck → Bool) (tree : Commands) → OnlyLooks asking truth → P (outcome_by truth tree) → P (outcome asking tree)
so_looking P asking truth tree only so = subst P (sym (outcome_looking asking truth tree only)) so
