-- Code is written from the last test, branch or command to the first.
use Rattle.std.proofs.Common.{◌≡◌, ℕ, List, [], ◌∷◌, ◌++◌, length, reverse, refl, sym, ap, ◌∙◌, rules}
use Rattle.std.proofs.lemmas.List.{length-reverse, length-map}
use Rattle.sieve_syntax.specs.declared.tree.test.Test.{Test}
use Rattle.sieve_syntax.specs.declared.tree.command.Branch.{Branch}
use Rattle.sieve_syntax.specs.declared.tree.command.Command.{Command, the_lemmas}
use Rattle.sieve_syntax.specs.Tree.{TestTree, Commands}
use Rattle.sieve_syntax.specs.View.{test_view, tests_view, command_view, commands_view, branch_view, branches_view}
use Rattle.sieve_code.specs.declared.instr.Instr.{Instr}
use Rattle.sieve_code.specs.Instructions.{Instruction, jump, jump_if, jump_unless, instr_view, instructions_of}
use Rattle.sieve_code.specs.Layout.{test_code, all_code, any_code, command_code, branches_code, commands_code}

pub all_last : (tests : List Test) (last : Test) (end : ℕ) (rest : List Instruction) → all_code (tests_view (tests ++ last ∷ [])) end rest ≡ all_code (tests_view tests) end (test_code (test_view last) (jump_unless end ∷ rest))
all_last [] last end rest = refl
all_last (first ∷ more) last end rest = ap (λ after. test_code (test_view first) (jump_unless end ∷ after)) (all_last more last end rest)

pub any_last : (tests : List Test) (last : Test) (end : ℕ) (rest : List Instruction) → any_code (tests_view (tests ++ last ∷ [])) end rest ≡ any_code (tests_view tests) end (test_code (test_view last) (jump_if end ∷ rest))
any_last [] last end rest = refl
any_last (first ∷ more) last end rest = ap (λ after. test_code (test_view first) (jump_if end ∷ after)) (any_last more last end rest)

pub commands_last : (commands : List Command) (last : Command) (rest : List Instruction) → commands_code (commands_view (commands ++ last ∷ [])) rest ≡ commands_code (commands_view commands) (command_code (command_view last) rest)
commands_last [] last rest = refl
commands_last (first ∷ more) last rest = ap (command_code (command_view first)) (commands_last more last rest)

pub branches_last : (branches : List Branch) (last : Branch) (end : ℕ) (rest : List Instruction) → branches_code (branches_view (branches ++ last ∷ [])) end rest ≡ branches_code (branches_view branches) end (branches_code (branches_view (last ∷ [])) end rest)
branches_last [] last end rest = refl
branches_last (first ∷ more) last end rest =
    ap (λ after. test_code (branch_view first).0 (jump_unless (length after) ∷ commands_code (branch_view first).1 (jump end ∷ after))) (branches_last more last end rest)

pub length-seen : (rows : List Instr) → length (instructions_of rows) ≡ length rows
length-seen rows = length-map (reverse rows) instr_view ∙ length-reverse rows

branch_is : (branch : Branch) → branch_view branch ≡ (test_view branch.test, commands_view branch.block.items)
branch_is branch = search (rules, the_lemmas)

-- a branch is written as its last jump, its block, the jump over it, and its test
pub branch_written : (branch : Branch) (block : List Command) (end next : ℕ) (rows with_jump with_block with_guard with_test : List Instruction) → with_jump ≡ jump end ∷ rows → block ≡ branch.block.items → with_block ≡ commands_code (commands_view block) with_jump → next ≡ length rows → with_guard ≡ jump_unless next ∷ with_block → with_test ≡ test_code (test_view branch.test) with_guard → with_test ≡ branches_code (branches_view (branch ∷ [])) end rows
branch_written branch block end next rows with_jump with_block with_guard with_test j k b n g t =
    t ∙ ap (test_code (test_view branch.test)) (g ∙ ap (λ n. jump_unless n ∷ with_block) n
    ∙ ap (λ code. jump_unless (length rows) ∷ code) (b ∙ ap (λ row. commands_code (commands_view row) with_jump) k ∙ ap (commands_code (commands_view branch.block.items)) j))
    ∙ ap (λ (instructions_of : TestTree × Commands). test_code instructions_of.0 (jump_unless (length rows) ∷ commands_code instructions_of.1 (jump end ∷ rows))) (sym (branch_is branch))
