-- How large a tree is.
use Rattle.std.specs.Prelude.{ℕ, ◌+◌}
use Rattle.sieve_syntax.specs.Tree.{TestTree, yes, no, looks, not_of, all_of, any_of, Tests, no_tests, test, CommandTree, require, choose, stop, act, Branches, no_branches, branch, Commands, no_commands, command}

-- the number of tests in a test
abbrev mutual
  pub test_size : TestTree → ℕ
  test_size yes = 1
  test_size no = 1
  test_size (looks check) = 1
  test_size (not_of inner) = 1 + test_size inner
  test_size (all_of inner) = 1 + tests_size inner
  test_size (any_of inner) = 1 + tests_size inner

  pub tests_size : Tests → ℕ
  tests_size no_tests = 0
  tests_size (test first more) = test_size first + tests_size more

-- the number of commands, branches and tests in commands
abbrev mutual
  pub command_size : CommandTree → ℕ
  command_size (require names) = 1
  command_size (choose branches) = 1 + branches_size branches
  command_size stop = 1
  command_size (act action) = 1

  pub branches_size : Branches → ℕ
  branches_size no_branches = 0
  branches_size (branch condition block more) = 1 + test_size condition + size block + branches_size more

  pub size : Commands → ℕ
  size no_commands = 0
  size (command first more) = command_size first + size more
