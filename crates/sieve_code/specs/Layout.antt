-- The code of a tree, before the code that follows it. A target is the number of instructions from it to the end.
use Rattle.std.specs.Prelude.{ℕ, ◌-◌, true, false, List, ◌∷◌, length, map}
use Rattle.sieve_syntax.specs.Tree.{TestTree, yes, no, looks, not_of, all_of, any_of, Tests, no_tests, test, CommandTree, require, choose, stop, act, Branches, no_branches, branch, Commands, no_commands, command}
use Rattle.sieve_code.specs.Instructions.{Instruction, set, look, flip, jump, jump_if, jump_unless}
use Rattle.sieve_code.specs.Instructions as I

abbrev mutual
  pub test_code : TestTree → List Instruction → List Instruction
  test_code yes rest = set true ∷ rest
  test_code no rest = set false ∷ rest
  test_code (looks check) rest = look check ∷ rest
  test_code (not_of inner) rest = test_code inner (flip ∷ rest)
  test_code (all_of inner) rest = all_code inner (length rest) (set true ∷ rest)
  test_code (any_of inner) rest = any_code inner (length rest) (set false ∷ rest)

  pub all_code : Tests → ℕ → List Instruction → List Instruction
  all_code no_tests end rest = rest
  all_code (test first more) end rest = test_code first (jump_unless end ∷ all_code more end rest)

  pub any_code : Tests → ℕ → List Instruction → List Instruction
  any_code no_tests end rest = rest
  any_code (test first more) end rest = test_code first (jump_if end ∷ any_code more end rest)

abbrev mutual
  pub command_code : CommandTree → List Instruction → List Instruction
  command_code (require names) rest = rest
  command_code (choose branches) rest = branches_code branches (length rest) rest
  command_code stop rest = I.stop ∷ rest
  command_code (act action) rest = I.act action ∷ rest

  pub branches_code : Branches → ℕ → List Instruction → List Instruction
  branches_code no_branches end rest = rest
  branches_code (branch condition block more) end rest =
      let after = branches_code more end rest in
      test_code condition (jump_unless (length after) ∷ commands_code block (jump end ∷ after))

  pub commands_code : Commands → List Instruction → List Instruction
  commands_code no_commands rest = rest
  commands_code (command first more) rest = command_code first (commands_code more rest)

-- an instruction whose target was counted from the end, as it is in code of this length
abbrev pub forward : ℕ → Instruction → Instruction
forward len (jump left) = jump (len - left)
forward len (jump_if left) = jump_if (len - left)
forward len (jump_unless left) = jump_unless (len - left)
forward len (set value) = set value
forward len (look check) = look check
forward len flip = flip
forward len (I.act action) = I.act action
forward len I.stop = I.stop

-- the code in order, with the places that jumps lead to
abbrev pub code_in_order : List Instruction → List Instruction
code_in_order back = map (forward (length back)) back
