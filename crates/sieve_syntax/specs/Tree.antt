-- The tree of a script, as contracts see it: the cases of `Command` and `Test` without pointers.
use Rattle.std.specs.Prelude.{ℕ, suc, max, List}
use Rattle.sieve_syntax.specs.declared.tree.action.Action.{Action}
use Rattle.sieve_syntax.specs.declared.tree.checks.MailCheck.{MailCheck}

-- a test (RFC 5228, 5), and lists of tests
mutual
  pub data TestTree : Type 0 where
    yes : TestTree
    no : TestTree
    looks : MailCheck → TestTree
    not_of : TestTree → TestTree
    all_of : Tests → TestTree
    any_of : Tests → TestTree

  pub data Tests : Type 0 where
    no_tests : Tests
    test : TestTree → Tests → Tests

-- commands, and the branches of an `if` (RFC 5228, 2.9, 3.1)
mutual
  pub data CommandTree : Type 0 where
    require : List (List ℕ) → CommandTree
    choose : Branches → CommandTree
    stop : CommandTree
    act : Action → CommandTree

  pub data Branches : Type 0 where
    no_branches : Branches
    branch : TestTree → Commands → Branches → Branches

  pub data Commands : Type 0 where
    no_commands : Commands
    command : CommandTree → Commands → Commands

-- how deep blocks are nested: an outermost one is at depth 1
abbrev mutual
  pub depth_of : CommandTree → ℕ
  depth_of (require names) = 0
  depth_of (choose branches) = suc (branches_depth branches)
  depth_of stop = 0
  depth_of (act action) = 0

  pub branches_depth : Branches → ℕ
  branches_depth no_branches = 0
  branches_depth (branch condition block more) = max (depth block) (branches_depth more)

  pub depth : Commands → ℕ
  depth no_commands = 0
  depth (command first more) = max (depth_of first) (depth more)

-- how many test lists enclose a test within this test, at most
abbrev mutual
  pub list_depth : TestTree → ℕ
  list_depth yes = 0
  list_depth no = 0
  list_depth (looks check) = 0
  list_depth (not_of inner) = list_depth inner
  list_depth (all_of inner) = suc (lists_depth inner)
  list_depth (any_of inner) = suc (lists_depth inner)

  pub lists_depth : Tests → ℕ
  lists_depth no_tests = 0
  lists_depth (test first more) = max (list_depth first) (lists_depth more)

-- how many `not`s enclose a test within this test, at most
abbrev mutual
  pub not_depth : TestTree → ℕ
  not_depth yes = 0
  not_depth no = 0
  not_depth (looks check) = 0
  not_depth (not_of inner) = suc (not_depth inner)
  not_depth (all_of inner) = nots_depth inner
  not_depth (any_of inner) = nots_depth inner

  pub nots_depth : Tests → ℕ
  nots_depth no_tests = 0
  nots_depth (test first more) = max (not_depth first) (nots_depth more)
