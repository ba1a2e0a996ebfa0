-- Code has at most two instructions for each command, branch and test.
use Rattle.std.proofs.Common.{◌≡◌, ℕ, ◌+◌, ◌*◌, ◌≤◌, true, false, List, [], ◌∷◌, length, ap, ◌∙◌, arith}
use Rattle.std.proofs.lemmas.List.{length-map}
use Rattle.sieve_syntax.specs.Tree.{TestTree, yes, no, looks, not_of, all_of, any_of, Tests, no_tests, test, CommandTree, require, choose, stop, act, Branches, no_branches, branch, Commands, no_commands, command}
use Rattle.sieve_code.specs.Instructions.{Instruction, set, flip, jump, jump_if, jump_unless}
use Rattle.sieve_code.specs.Layout.{test_code, all_code, any_code, command_code, branches_code, commands_code, forward, code_in_order}
use Rattle.sieve_code.specs.Size.{test_size, tests_size, command_size, branches_size, size}

mutual
  test_short : (tree : TestTree) (rest : List Instruction) → length (test_code tree rest) + 1 ≤ 2 * test_size tree + length rest
  test_short yes rest = omega arith
  test_short no rest = omega arith
  test_short (looks check) rest = omega arith
  test_short (not_of inner) rest = let h = test_short inner (flip ∷ rest) in omega (arith, h)
  test_short (all_of inner) rest = let h = all_short inner (length rest) (set true ∷ rest) in omega (arith, h)
  test_short (any_of inner) rest = let h = any_short inner (length rest) (set false ∷ rest) in omega (arith, h)

  all_short : (tests : Tests) (end : ℕ) (rest : List Instruction) → length (all_code tests end rest) ≤ 2 * tests_size tests + length rest
  all_short no_tests end rest = omega arith
  all_short (test first more) end rest =
      let h = test_short first (jump_unless end ∷ all_code more end rest) in let m = all_short more end rest in omega (arith, h, m)

  any_short : (tests : Tests) (end : ℕ) (rest : List Instruction) → length (any_code tests end rest) ≤ 2 * tests_size tests + length rest
  any_short no_tests end rest = omega arith
  any_short (test first more) end rest =
      let h = test_short first (jump_if end ∷ any_code more end rest) in let m = any_short more end rest in omega (arith, h, m)

mutual
  command_short : (tree : CommandTree) (rest : List Instruction) → length (command_code tree rest) ≤ 2 * command_size tree + length rest
  command_short (require names) rest = omega arith
  command_short (choose branches) rest = let h = branches_short branches (length rest) rest in omega (arith, h)
  command_short stop rest = omega arith
  command_short (act action) rest = omega arith

  branches_short : (branches : Branches) (end : ℕ) (rest : List Instruction) → length (branches_code branches end rest) ≤ 2 * branches_size branches + length rest
  branches_short no_branches end rest = omega arith
  branches_short (branch condition block more) end rest =
      let after = branches_code more end rest in
      let blocked = commands_code block (jump end ∷ after) in
      let t = test_short condition (jump_unless (length after) ∷ blocked) in
      let b = commands_short block (jump end ∷ after) in
      let m = branches_short more end rest in
      omega (arith, t, b, m)

  commands_short : (commands : Commands) (rest : List Instruction) → length (commands_code commands rest) ≤ 2 * size commands + length rest
  commands_short no_commands rest = omega arith
  commands_short (command first more) rest =
      let f = command_short first (commands_code more rest) in let m = commands_short more rest in omega (arith, f, m)

pub turned_short : (commands : Commands) (code : List Instruction) → code ≡ code_in_order (commands_code commands []) → length code ≤ 2 * size commands
turned_short commands code e =
    let back = commands_code commands [] in
    let short = commands_short commands [] in
    omega (arith, ap length e ∙ length-map back (forward (length back)), short)
