-- Code that is read from its front, with targets counted from the end, does what the tree does, and takes what it takes.
use Rattle.std.proofs.Common.{◌≡◌, ℕ, zero, suc, ◌-◌, ◌≤◌, Bool, true, false, not, ◌&&◌, ◌||◌, cond, List, [], ◌∷◌, ◌++◌, length, drop, refl, sym, ap, ◌∙◌, ◌+◌, arith, append_assoc, length-append, add_assoc, add-zero, zero-add}
use Rattle.std.proofs.lemmas.List.{drop_at}
use Rattle.sieve_syntax.specs.declared.tree.checks.MailCheck.{MailCheck}
use Rattle.sieve_syntax.specs.RunState.{RunState, Flow, Going, Stopped, Failed, and_then, performed}
use Rattle.sieve_syntax.specs.Tree.{TestTree, yes, no, looks, not_of, all_of, any_of, Tests, no_tests, test, CommandTree, require, choose, stop, act, Branches, no_branches, branch, Commands, no_commands, command}
use Rattle.sieve_syntax.specs.Meaning.{TestAnswer, answered, TestAsking, after_test, holds, all_hold, some_holds, does, chooses, does_all}
use Rattle.sieve_syntax.specs.Work.{none_taken, asked, all_asked, some_asked, then_takes, takes, choice_takes, all_take}
use Rattle.sieve_code.specs.Instructions.{Instruction, set, look, flip, jump, jump_if, jump_unless}
use Rattle.sieve_code.specs.Instructions as I
use Rattle.sieve_code.specs.Jumps.{Course, course_of, with_work}
use Rattle.sieve_code.specs.Layout.{test_code, all_code, any_code, command_code, branches_code, commands_code}

-- no work, and work behind work
pub behind_none : (course : Course) → with_work 0 course ≡ course
behind_none course = ap (λ n. record course { work = n }) (zero-add course.work)

pub behind_both : (one two : ℕ) (course : Course) → with_work one (with_work two course) ≡ with_work (one + two) course
behind_both one two course = ap (λ n. record course { work = n }) (sym (add_assoc one two course.work))

no_more : (work : ℕ) (course : Course) → with_work work course ≡ with_work (work + 0) course
no_more work course = ap (λ n. with_work n course) (sym (add-zero work))

-- what comes next is run where the run goes on
abbrev pub then_runs : Flow → (RunState → Course) → Course
then_runs (Going so_far) next = next so_far
then_runs (Stopped so_far) next = course_of (Stopped so_far)
then_runs (Failed failure) next = course_of (Failed failure)

-- what code does after it has passed over that many instructions
abbrev pub run : TestAsking → (RunState → MailCheck → ℕ) → ℕ → List Instruction → Bool → RunState → Course
run asking work k [] flag so_far = course_of (Going so_far)
run asking work (suc k) (instr ∷ code) flag so_far = run asking work k code flag so_far
run asking work zero (set value ∷ code) flag so_far = run asking work zero code value so_far
run asking work zero (look check ∷ code) flag so_far = with_work (work so_far check) (run asking work zero code (asking so_far check).is_held (asking so_far check).so_far)
run asking work zero (flip ∷ code) flag so_far = run asking work zero code (not flag) so_far
run asking work zero (jump left ∷ code) flag so_far = run asking work (length code - left) code flag so_far
run asking work zero (jump_if left ∷ code) flag so_far = run asking work (cond flag (length code - left) zero) code flag so_far
run asking work zero (jump_unless left ∷ code) flag so_far = run asking work (cond flag zero (length code - left)) code flag so_far
run asking work zero (I.act action ∷ code) flag so_far = then_runs (performed action so_far) (run asking work zero code flag)
run asking work zero (I.stop ∷ code) flag so_far = course_of (Stopped so_far)

pub past : (asking : TestAsking) (work : RunState → MailCheck → ℕ) (k : ℕ) (code : List Instruction) (flag : Bool) (so_far : RunState) → run asking work k code flag so_far ≡ run asking work zero (drop k code) flag so_far
past asking work zero code flag so_far = refl
past asking work (suc k) [] flag so_far = refl
past asking work (suc k) (instr ∷ code) flag so_far = past asking work k code flag so_far

-- code that ends with other code
pub record Ends (code rest : List Instruction) : Type 0 where
  pub front : List Instruction
  pub is : code ≡ front ++ rest

ends_here : (code : List Instruction) → Ends code code
ends_here code = record { front = []; is = refl }

ends_more : (instr : Instruction) (code rest : List Instruction) → Ends code rest → Ends (instr ∷ code) rest
ends_more instr code rest e = record { front = instr ∷ e.front; is = ap (λ l. instr ∷ l) e.is }

ends_through : (code middle rest : List Instruction) → Ends code middle → Ends middle rest → Ends code rest
ends_through code middle rest a b = record { front = a.front ++ b.front; is = a.is ∙ ap (λ l. a.front ++ l) b.is ∙ sym (append_assoc a.front b.front rest) }

pub ends_length : (code rest : List Instruction) → Ends code rest → length rest ≤ length code
ends_length code rest e = omega (arith, ap length e.is, length-append e.front rest)

skips : (asking : TestAsking) (work : RunState → MailCheck → ℕ) (code rest : List Instruction) → Ends code rest → (flag : Bool) (so_far : RunState) → run asking work (length code - length rest) code flag so_far ≡ run asking work zero rest flag so_far
skips asking work code rest e flag so_far =
    let n = length code - length rest in
    let front : length e.front ≡ n = omega (arith, ap length e.is, length-append e.front rest) in
    past asking work n code flag so_far
    ∙ ap (λ l. run asking work zero (drop n l) flag so_far) e.is
    ∙ ap (λ l. run asking work zero l flag so_far) (drop_at e.front rest n front)

mutual
  pub test_ends : (tree : TestTree) (rest : List Instruction) → Ends (test_code tree rest) rest
  test_ends yes rest = ends_more (set true) rest rest (ends_here rest)
  test_ends no rest = ends_more (set false) rest rest (ends_here rest)
  test_ends (looks check) rest = ends_more (look check) rest rest (ends_here rest)
  test_ends (not_of inner) rest = ends_through _ (flip ∷ rest) rest (test_ends inner (flip ∷ rest)) (ends_more flip rest rest (ends_here rest))
  test_ends (all_of inner) rest = ends_through _ (set true ∷ rest) rest (all_ends inner (length rest) (set true ∷ rest)) (ends_more (set true) rest rest (ends_here rest))
  test_ends (any_of inner) rest = ends_through _ (set false ∷ rest) rest (any_ends inner (length rest) (set false ∷ rest)) (ends_more (set false) rest rest (ends_here rest))

  pub all_ends : (tests : Tests) (end : ℕ) (rest : List Instruction) → Ends (all_code tests end rest) rest
  all_ends no_tests end rest = ends_here rest
  all_ends (test first more) end rest =
      let after = all_code more end rest in
      ends_through _ (jump_unless end ∷ after) rest (test_ends first (jump_unless end ∷ after)) (ends_more (jump_unless end) after rest (all_ends more end rest))

  pub any_ends : (tests : Tests) (end : ℕ) (rest : List Instruction) → Ends (any_code tests end rest) rest
  any_ends no_tests end rest = ends_here rest
  any_ends (test first more) end rest =
      let after = any_code more end rest in
      ends_through _ (jump_if end ∷ after) rest (test_ends first (jump_if end ∷ after)) (ends_more (jump_if end) after rest (any_ends more end rest))

mutual
  pub command_ends : (tree : CommandTree) (rest : List Instruction) → Ends (command_code tree rest) rest
  command_ends (require names) rest = ends_here rest
  command_ends (choose branches) rest = branches_ends branches (length rest) rest
  command_ends stop rest = ends_more I.stop rest rest (ends_here rest)
  command_ends (act action) rest = ends_more (I.act action) rest rest (ends_here rest)

  pub branches_ends : (branches : Branches) (end : ℕ) (rest : List Instruction) → Ends (branches_code branches end rest) rest
  branches_ends no_branches end rest = ends_here rest
  branches_ends (branch condition block more) end rest =
      let after = branches_code more end rest in
      let blocked = commands_code block (jump end ∷ after) in
      ends_through _ (jump_unless (length after) ∷ blocked) rest (test_ends condition (jump_unless (length after) ∷ blocked))
      (ends_more (jump_unless (length after)) blocked rest
      (ends_through blocked (jump end ∷ after) rest (commands_ends block (jump end ∷ after)) (ends_more (jump end) after rest (branches_ends more end rest))))

  pub commands_ends : (commands : Commands) (rest : List Instruction) → Ends (commands_code commands rest) rest
  commands_ends no_commands rest = ends_here rest
  commands_ends (command first more) rest = ends_through _ (commands_code more rest) rest (command_ends first (commands_code more rest)) (commands_ends more rest)

module _ (asking : TestAsking) (work : RunState → MailCheck → ℕ) where
  -- what is run behind a test
  abbrev run_behind : List Instruction → TestAnswer → Course
  run_behind rest answer = run asking work zero rest answer.is_held answer.so_far

  -- the code of a test sets the flag to whether the test holds, leads to what has been done behind it, and takes the test's work
  mutual
    pub test_runs : (tree : TestTree) (rest : List Instruction) (flag : Bool) (so_far : RunState)
        → run asking work zero (test_code tree rest) flag so_far ≡ with_work (asked asking work tree so_far) (run_behind rest (holds asking tree so_far))
    test_runs yes rest flag so_far = sym (behind_none (run asking work zero rest true so_far))
    test_runs no rest flag so_far = sym (behind_none (run asking work zero rest false so_far))
    test_runs (looks check) rest flag so_far = refl
    test_runs (not_of inner) rest flag so_far = test_runs inner (flip ∷ rest) flag so_far
    test_runs (all_of inner) rest flag so_far = all_runs inner rest flag so_far
    test_runs (any_of inner) rest flag so_far = any_runs inner rest flag so_far

    all_runs : (tests : Tests) (rest : List Instruction) (flag : Bool) (so_far : RunState)
        → run asking work zero (all_code tests (length rest) (set true ∷ rest)) flag so_far ≡ with_work (all_asked asking work tests so_far) (run_behind rest (all_hold asking tests so_far))
    all_runs no_tests rest flag so_far = sym (behind_none (run asking work zero rest true so_far))
    all_runs (test first more) rest flag so_far =
        let after = all_code more (length rest) (set true ∷ rest) in
        let ends = ends_through after (set true ∷ rest) rest (all_ends more (length rest) (set true ∷ rest)) (ends_more (set true) rest rest (ends_here rest)) in
        let cost = asked asking work first so_far in
        let behind = (holds asking first so_far).so_far in
        test_runs first (jump_unless (length rest) ∷ after) flag so_far
        ∙ (elim (holds asking first so_far).is_held as (λ held. with_work cost (run asking work (cond held zero (length after - length rest)) after held behind)
        ≡ with_work (cost + cond held (all_asked asking work more behind) 0) (run_behind rest (cond held (all_hold asking more behind) (answered false behind)))) [
          | true ↦ ap (with_work cost) (all_runs more rest true behind) ∙ behind_both cost (all_asked asking work more behind) (run_behind rest (all_hold asking more behind))
          | false ↦ ap (with_work cost) (skips asking work after rest ends false behind) ∙ no_more cost (run asking work zero rest false behind)
        ])

    any_runs : (tests : Tests) (rest : List Instruction) (flag : Bool) (so_far : RunState)
        → run asking work zero (any_code tests (length rest) (set false ∷ rest)) flag so_far ≡ with_work (some_asked asking work tests so_far) (run_behind rest (some_holds asking tests so_far))
    any_runs no_tests rest flag so_far = sym (behind_none (run asking work zero rest false so_far))
    any_runs (test first more) rest flag so_far =
        let after = any_code more (length rest) (set false ∷ rest) in
        let ends = ends_through after (set false ∷ rest) rest (any_ends more (length rest) (set false ∷ rest)) (ends_more (set false) rest rest (ends_here rest)) in
        let cost = asked asking work first so_far in
        let behind = (holds asking first so_far).so_far in
        test_runs first (jump_if (length rest) ∷ after) flag so_far
        ∙ (elim (holds asking first so_far).is_held as (λ held. with_work cost (run asking work (cond held (length after - length rest) zero) after held behind)
        ≡ with_work (cost + cond held 0 (some_asked asking work more behind)) (run_behind rest (cond held (answered true behind) (some_holds asking more behind)))) [
          | true ↦ ap (with_work cost) (skips asking work after rest ends true behind) ∙ no_more cost (run asking work zero rest true behind)
          | false ↦ ap (with_work cost) (any_runs more rest false behind) ∙ behind_both cost (some_asked asking work more behind) (run_behind rest (some_holds asking more behind))
        ])

  -- what is run after code that has this effect and takes this work, with some flag
  abbrev Comes : List Instruction → Flow → ℕ → Course → Type 0
  Comes rest effect cost whole = (flag : Bool) × (whole ≡ with_work cost (then_runs effect (run asking work zero rest flag)))

  -- one effect after another
  comes_on : (middle rest : List Instruction) (effect : Flow) (next : RunState → Flow) (cost : ℕ) (later : RunState → ℕ) (whole : Course) → Comes middle effect cost whole
      → ((flag : Bool) (so_far : RunState) → Comes rest (next so_far) (later so_far) (run asking work zero middle flag so_far)) → Comes rest (and_then effect next) (cost + then_takes effect later) whole
  comes_on middle rest (Going so_far) next cost later whole a b =
      let c = b a.0 so_far in (c.0, a.1 ∙ ap (with_work cost) c.1 ∙ behind_both cost (later so_far) (then_runs (next so_far) (run asking work zero rest c.0)))
  comes_on middle rest (Stopped so_far) next cost later whole a b = (false, a.1 ∙ no_more cost (course_of (Stopped so_far)))
  comes_on middle rest (Failed failure) next cost later whole a b = (false, a.1 ∙ no_more cost (course_of (Failed failure)))

  -- the same effect before code that does the same
  comes_to : (middle rest : List Instruction) (effect : Flow) (cost : ℕ) (whole : Course) → ((flag : Bool) (so_far : RunState) → run asking work zero middle flag so_far ≡ run asking work zero rest flag so_far) → Comes middle effect cost whole → Comes rest effect cost whole
  comes_to middle rest (Going so_far) cost whole same a = (a.0, a.1 ∙ ap (with_work cost) (same a.0 so_far))
  comes_to middle rest (Stopped so_far) cost whole same a = (false, a.1)
  comes_to middle rest (Failed failure) cost whole same a = (false, a.1)

  -- behind other work
  comes_behind : (rest : List Instruction) (effect : Flow) (before cost : ℕ) (whole : Course) → Comes rest effect cost whole → Comes rest effect (before + cost) (with_work before whole)
  comes_behind rest effect before cost whole a = (a.0, ap (with_work before) a.1 ∙ behind_both before cost (then_runs effect (run asking work zero rest a.0)))

  -- the code of commands does what they do
  mutual
    pub command_runs : (tree : CommandTree) (rest : List Instruction) (flag : Bool) (so_far : RunState) → Comes rest (does asking tree so_far) (takes asking work tree so_far) (run asking work zero (command_code tree rest) flag so_far)
    command_runs (require names) rest flag so_far = (flag, sym (behind_none (run asking work zero rest flag so_far)))
    command_runs (choose branches) rest flag so_far = branches_run branches rest flag so_far
    command_runs stop rest flag so_far = (flag, sym (behind_none (course_of (Stopped so_far))))
    command_runs (act action) rest flag so_far = (flag, sym (behind_none (then_runs (performed action so_far) (run asking work zero rest flag))))

    branches_run : (branches : Branches) (rest : List Instruction) (flag : Bool) (so_far : RunState) → Comes rest (chooses asking branches so_far) (choice_takes asking work branches so_far) (run asking work zero (branches_code branches (length rest) rest) flag so_far)
    branches_run no_branches rest flag so_far = (flag, sym (behind_none (run asking work zero rest flag so_far)))
    branches_run (branch condition block more) rest flag so_far =
        let after = branches_code more (length rest) rest in
        let blocked = commands_code block (jump (length rest) ∷ after) in
        let tested = test_runs condition (jump_unless (length after) ∷ blocked) flag so_far in
        let first = (holds asking condition so_far).is_held in
        let behind = (holds asking condition so_far).so_far in
        let chosen : Comes rest (chooses asking (branch condition block more) so_far) (cond first (all_take asking work block behind) (choice_takes asking work more behind)) (run asking work zero (jump_unless (length after) ∷ blocked) first behind) =
        elim (holds asking condition so_far).is_held as (λ first. Comes rest (cond first (does_all asking block behind) (chooses asking more behind)) (cond first (all_take asking work block behind) (choice_takes asking work more behind)) (run asking work (cond first zero (length blocked - length after)) blocked first behind)) [
          | true ↦ comes_to (jump (length rest) ∷ after) rest (does_all asking block behind) (all_take asking work block behind) _ (λ flag so_far. skips asking work after rest (branches_ends more (length rest) rest) flag so_far) (commands_run block (jump (length rest) ∷ after) true behind)
          | false ↦
              let skipped = skips asking work blocked after (ends_through blocked (jump (length rest) ∷ after) after (commands_ends block (jump (length rest) ∷ after)) (ends_more (jump (length rest)) after after (ends_here after))) false behind in
              let others = branches_run more rest false behind in
              (others.0, skipped ∙ others.1)
        ] in
        let all = comes_behind rest (chooses asking (branch condition block more) so_far) (asked asking work condition so_far) (cond first (all_take asking work block behind) (choice_takes asking work more behind)) _ chosen in
        (all.0, tested ∙ all.1)

    pub commands_run : (commands : Commands) (rest : List Instruction) (flag : Bool) (so_far : RunState) → Comes rest (does_all asking commands so_far) (all_take asking work commands so_far) (run asking work zero (commands_code commands rest) flag so_far)
    commands_run no_commands rest flag so_far = (flag, sym (behind_none (run asking work zero rest flag so_far)))
    commands_run (command first more) rest flag so_far =
        comes_on (commands_code more rest) rest (does asking first so_far) (does_all asking more) (takes asking work first so_far) (all_take asking work more) _ (command_runs first (commands_code more rest) flag so_far) (λ flag so_far. commands_run more rest flag so_far)

  -- a whole script
  pub whole_runs : (commands : Commands) (so_far : RunState) → run asking work zero (commands_code commands []) false so_far ≡ record { flow = does_all asking commands so_far; work = all_take asking work commands so_far }
  whole_runs commands so_far =
      let run = commands_run commands [] false so_far in
      run.1 ∙ ap (with_work (all_take asking work commands so_far)) (nothing_more (does_all asking commands so_far))
      ∙ ap (λ n. record { flow = does_all asking commands so_far; work = n }) (add-zero (all_take asking work commands so_far))
    where
      nothing_more : (flow : Flow) → then_runs flow (λ so_far. course_of (Going so_far)) ≡ course_of flow
      nothing_more (Going so_far) = refl
      nothing_more (Stopped so_far) = refl
      nothing_more (Failed failure) = refl
