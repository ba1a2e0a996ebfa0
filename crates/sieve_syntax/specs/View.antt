-- The tree that the Rust values of a script stand for.
use Rattle.std.specs.Prelude.{List, [], ◌∷◌, map}
use Rattle.sieve_syntax.specs.declared.tree.test.Test.{Test, fold-Test}
use Rattle.sieve_syntax.specs.declared.tree.test.Test.TheOpen.{Test-F}
use Rattle.sieve_syntax.specs.declared.tree.command.Branch.{Branch, fold-Branch}
use Rattle.sieve_syntax.specs.declared.tree.command.Command.{Command, fold-Command}
use Rattle.sieve_syntax.specs.declared.tree.command.Command.TheOpen.{Command-F, Branch-F}
use Rattle.sieve_syntax.specs.declared.script.Script.{Script}
use Rattle.sieve_syntax.specs.Tree.{TestTree, yes, no, looks, not_of, all_of, any_of, Tests, no_tests, test, CommandTree, require, choose, stop, act, Branches, no_branches, branch, Commands, no_commands, command}

-- a list of tests
abbrev pub tests_of : List TestTree → Tests
tests_of [] = no_tests
tests_of (first ∷ more) = test first (tests_of more)

-- one level, with each test inside already as its tree
abbrev pub test_step : Test-F TestTree → TestTree
test_step Test-F.True = yes
test_step Test-F.False = no
test_step (Test-F.Check check) = looks check
test_step (Test-F.Not inner) = not_of inner.value
test_step (Test-F.AllOf inner) = all_of (tests_of inner.items)
test_step (Test-F.AnyOf inner) = any_of (tests_of inner.items)

-- the tree of a test
abbrev pub test_view : Test → TestTree
test_view = fold-Test TestTree test_step

-- the tree of a list of tests
abbrev pub tests_view : List Test → Tests
tests_view row = tests_of (map test_view row)

-- a list of commands
abbrev pub commands_of : List CommandTree → Commands
commands_of [] = no_commands
commands_of (first ∷ more) = command first (commands_of more)

-- a list of branches
abbrev pub branches_of : List (TestTree × Commands) → Branches
branches_of [] = no_branches
branches_of (first ∷ more) = branch first.0 first.1 (branches_of more)

-- one level, with each command inside already as its tree
abbrev pub command_step : Command-F CommandTree (TestTree × Commands) → CommandTree
command_step (Command-F.Require names) = require names
command_step (Command-F.If branches) = choose (branches_of branches.items)
command_step Command-F.Stop = stop
command_step (Command-F.Act action) = act action

abbrev pub branch_step : Branch-F CommandTree (TestTree × Commands) → TestTree × Commands
branch_step one = (test_view one.test, commands_of one.block.items)

-- the tree of a command
abbrev pub command_view : Command → CommandTree
command_view = fold-Command CommandTree (TestTree × Commands) command_step branch_step

-- the test and the block of a branch
abbrev pub branch_view : Branch → TestTree × Commands
branch_view = fold-Branch CommandTree (TestTree × Commands) command_step branch_step

-- the tree of a list of commands
abbrev pub commands_view : List Command → Commands
commands_view row = commands_of (map command_view row)

-- the tree of a list of branches
abbrev pub branches_view : List Branch → Branches
branches_view row = branches_of (map branch_view row)

-- the tree that a checked script holds
abbrev pub script_tree : Script → Commands
script_tree script = commands_view script.commands.items
