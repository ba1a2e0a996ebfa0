-- The view, case by case.
use Rattle.std.proofs.Common.{◌≡◌, ◌∙◌, ap, ℕ, List, [], ◌∷◌, ◌++◌, map, rules, Vec, Box, Global}
use Rattle.std.proofs.lemmas.List.{map-append}
use Rattle.sieve_syntax.specs.declared.tree.action.Action.{Action}
use Rattle.sieve_syntax.specs.declared.tree.checks.MailCheck.{MailCheck}
use Rattle.sieve_syntax.specs.declared.tree.test.Test.{Test}
use Rattle.sieve_syntax.specs.declared.tree.test.Test as Test
use Rattle.sieve_syntax.specs.declared.tree.command.Branch.{Branch, roll-Branch}
use Rattle.sieve_syntax.specs.declared.tree.command.Command.{Command, Require, If, Stop, Act, the_lemmas}
use Rattle.sieve_syntax.specs.Tree.{require, choose, stop, act, yes, no, looks, not_of, all_of, any_of}
use Rattle.sieve_syntax.specs.View.{test_view, tests_view, branch_view, command_view, commands_view, branches_view}

pub view-True : test_view Test.True ≡ yes
view-True = search (rules, Test.the_lemmas)

pub view-False : test_view Test.False ≡ no
view-False = search (rules, Test.the_lemmas)

pub view-Check : (check : MailCheck) → test_view (Test.Check check) ≡ looks check
view-Check check = search (rules, Test.the_lemmas)

pub view-Not : (inner : Box Test Global) → test_view (Test.Not inner) ≡ not_of (test_view inner.value)
view-Not inner = search (rules, Test.the_lemmas)

pub view-AllOf : (inner : Vec Test Global) → test_view (Test.AllOf inner) ≡ all_of (tests_view inner.items)
view-AllOf inner = search (rules, Test.the_lemmas)

pub view-AnyOf : (inner : Vec Test Global) → test_view (Test.AnyOf inner) ≡ any_of (tests_view inner.items)
view-AnyOf inner = search (rules, Test.the_lemmas)

pub view-Require : (names : List (List ℕ)) → command_view (Require names) ≡ require names
view-Require names = search (rules, the_lemmas)

pub view-If : (branches : Vec Branch Global) → command_view (If branches) ≡ choose (branches_view branches.items)
view-If branches = search (rules, the_lemmas)

pub view-Stop : command_view Stop ≡ stop
view-Stop = search (rules, the_lemmas)

pub view-Act : (action : Action) → command_view (Act action) ≡ act action
view-Act action = search (rules, the_lemmas)

pub view-Branch : (test : Test) (block : Vec Command Global) → branch_view (roll-Branch (record { test = test; block = block })) ≡ (test_view test, commands_view block.items)
view-Branch test block = search (rules, the_lemmas)

-- one test more
pub push-test : (old new : List Test) (one : Test) → new ≡ old ++ one ∷ [] → map test_view new ≡ map test_view old ++ test_view one ∷ []
push-test old new one same = ap (map test_view) same ∙ map-append test_view old (one ∷ [])

-- one branch more
pub push-branch : (old new : List Branch) (one : Branch) → new ≡ old ++ one ∷ [] → map branch_view new ≡ map branch_view old ++ branch_view one ∷ []
push-branch old new one same = ap (map branch_view) same ∙ map-append branch_view old (one ∷ [])

-- an `else` more
pub push-else : (old new : List Branch) (block : Vec Command Global) → new ≡ old ++ roll-Branch (record { test = Test.True; block = block }) ∷ [] → map branch_view new ≡ map branch_view old ++ (yes, commands_view block.items) ∷ []
push-else old new block same = push-branch old new (roll-Branch (record { test = Test.True; block = block })) same ∙ ap (λ b. map branch_view old ++ b ∷ []) (view-Branch Test.True block ∙ ap (λ t. (t, commands_view block.items)) view-True)
