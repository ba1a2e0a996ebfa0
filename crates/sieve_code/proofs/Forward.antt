-- Code that was turned round does from each place what it did from there with targets counted from the end.
use Rattle.std.proofs.Common.{◌≡◌, ℕ, zero, suc, ◌+◌, ◌-◌, ◌≤◌, Bool, true, false, not, List, [], ◌∷◌, length, drop, Option, Some, None, refl, sym, ap, ◌∙◌, subst, arith, add-one}
use Rattle.std.specs.Prelude.{slice_get}
use Rattle.std.specs.Option.{option_map}
use Rattle.std.proofs.lemmas.List.{length-drop, length-map, drop-drop}
use Rattle.std.proofs.lemmas.Option.{same_Some, slice_get-map, slice_get_past}
use Rattle.sieve_syntax.specs.declared.tree.checks.MailCheck.{MailCheck}
use Rattle.sieve_syntax.specs.Meaning.{TestAsking}
use Rattle.sieve_syntax.specs.RunState.{RunState, at_first, Flow, Going, Stopped, Failed, performed}
use Rattle.sieve_syntax.specs.Tree.{TestTree, yes, no, looks, not_of, all_of, any_of, Tests, no_tests, test, CommandTree, require, choose, stop, act, Branches, no_branches, branch, Commands, no_commands, command}
use Rattle.sieve_code.specs.Instructions.{Instruction, set, look, flip, jump, jump_if, jump_unless}
use Rattle.sieve_code.specs.Instructions as I
use Rattle.sieve_code.specs.Jumps.{Course, Run, after_work, after_action, instr_work, turn, at_place, paid_turn, jumps_from, LeadsForward, IsForward, IsCodeOf, outcome_of}
use Rattle.sieve_code.specs.Layout.{test_code, all_code, any_code, command_code, branches_code, commands_code, forward, code_in_order}
use Rattle.sieve_code.proofs.Runs.{behind_none, then_runs, run, past, ends_length, all_ends, any_ends, branches_ends, commands_ends, whole_runs}

-- a target that is counted from the end lies in the code that is left
abbrev pub IsWithin : ℕ → Instruction → Type 0
IsWithin len (jump left) = left ≤ len
IsWithin len (jump_if left) = left ≤ len
IsWithin len (jump_unless left) = left ≤ len
IsWithin len _ = Unit {0}

abbrev pub AreWithin : List Instruction → Type 0
AreWithin [] = Unit {0}
AreWithin (instr ∷ code) = IsWithin (length code) instr × AreWithin code

mutual
  test_within : (tree : TestTree) (rest : List Instruction) → AreWithin rest → AreWithin (test_code tree rest)
  test_within yes rest w = (tt, w)
  test_within no rest w = (tt, w)
  test_within (looks check) rest w = (tt, w)
  test_within (not_of inner) rest w = test_within inner (flip ∷ rest) (tt, w)
  test_within (all_of inner) rest w = all_within inner (length rest) (set true ∷ rest) (omega arith) (tt, w)
  test_within (any_of inner) rest w = any_within inner (length rest) (set false ∷ rest) (omega arith) (tt, w)

  all_within : (tests : Tests) (end : ℕ) (rest : List Instruction) → end ≤ length rest → AreWithin rest → AreWithin (all_code tests end rest)
  all_within no_tests end rest le w = w
  all_within (test first more) end rest le w =
      let longer = ends_length (all_code more end rest) rest (all_ends more end rest) in
      test_within first (jump_unless end ∷ all_code more end rest) (omega arith, all_within more end rest le w)

  any_within : (tests : Tests) (end : ℕ) (rest : List Instruction) → end ≤ length rest → AreWithin rest → AreWithin (any_code tests end rest)
  any_within no_tests end rest le w = w
  any_within (test first more) end rest le w =
      let longer = ends_length (any_code more end rest) rest (any_ends more end rest) in
      test_within first (jump_if end ∷ any_code more end rest) (omega arith, any_within more end rest le w)

mutual
  command_within : (tree : CommandTree) (rest : List Instruction) → AreWithin rest → AreWithin (command_code tree rest)
  command_within (require names) rest w = w
  command_within (choose branches) rest w = branches_within branches (length rest) rest (omega arith) w
  command_within stop rest w = (tt, w)
  command_within (act action) rest w = (tt, w)

  branches_within : (branches : Branches) (end : ℕ) (rest : List Instruction) → end ≤ length rest → AreWithin rest → AreWithin (branches_code branches end rest)
  branches_within no_branches end rest le w = w
  branches_within (branch condition block more) end rest le w =
      let after = branches_code more end rest in
      let blocked = commands_code block (jump end ∷ after) in
      let longer = ends_length after rest (branches_ends more end rest) in
      let longest = ends_length blocked (jump end ∷ after) (commands_ends block (jump end ∷ after)) in
      test_within condition (jump_unless (length after) ∷ blocked) (omega arith, commands_within block (jump end ∷ after) (omega arith, branches_within more end rest le w))

  pub commands_within : (commands : Commands) (rest : List Instruction) → AreWithin rest → AreWithin (commands_code commands rest)
  commands_within no_commands rest w = w
  commands_within (command first more) rest w = command_within first (commands_code more rest) (commands_within more rest w)

within_drop : (k : ℕ) (code : List Instruction) → AreWithin code → AreWithin (drop k code)
within_drop zero code w = w
within_drop (suc k) [] w = tt
within_drop (suc k) (instr ∷ code) w = within_drop k code w.1

-- the instruction at a place is the first of what is left there
at_drop : (code : List Instruction) (k : ℕ) (instr : Instruction) (rest : List Instruction) → drop k code ≡ instr ∷ rest → (slice_get code k ≡ Some instr) × (drop (suc k) code ≡ rest)
at_drop [] zero instr rest e = cc
at_drop [] (suc k) instr rest e = cc
at_drop (first ∷ code) zero instr rest e = (cc, cc)
at_drop (first ∷ code) (suc k) instr rest e = at_drop code k instr rest e

-- where nothing is left
past_end : (code : List Instruction) (k : ℕ) → drop k code ≡ [] → length code ≤ k
past_end code k e = omega (arith, length-drop k code, ap length e)

left_at : (code : List Instruction) (k : ℕ) (instr : Instruction) (rest : List Instruction) → drop k code ≡ instr ∷ rest → length code ≡ k + suc (length rest)
left_at code k instr rest e = omega (arith, length-drop k code, ap length e)

nothing_at : (back : List Instruction) (k : ℕ) → drop k back ≡ [] → slice_get (code_in_order back) k ≡ None
nothing_at back k e =
    let same = length-map back (forward (length back)) in
    let end = past_end back k e in
    slice_get_past (code_in_order back) k (omega arith)

something_at : (back : List Instruction) (k : ℕ) (instr : Instruction) (rest : List Instruction) → drop k back ≡ instr ∷ rest → slice_get (code_in_order back) k ≡ Some (forward (length back) instr)
something_at back k instr rest e =
    slice_get-map (forward (length back)) back k ∙ ap (option_map (forward (length back))) (at_drop back k instr rest e).0

-- what comes next does what the code does that is left there
abbrev Goes : TestAsking → (RunState → MailCheck → ℕ) → List Instruction → ℕ → Run → Type 0
Goes asking work back n next = (place : ℕ) (flag : Bool) (so_far : RunState) → length back ≤ place + n → next place flag so_far ≡ Some (run asking work zero (drop place back) flag so_far)

-- an instruction that takes no work
no_work : (given : Option Course) (course : Course) → given ≡ Some course → after_work 0 given ≡ Some course
no_work given course e = ap (after_work 0) e ∙ ap Some (behind_none course)

module _ (asking : TestAsking) (work : RunState → MailCheck → ℕ) (back : List Instruction) (n : ℕ) (next : Run) (place : ℕ) (rest : List Instruction) (enough : length back ≤ place + suc n) (left : length back ≡ place + suc (length rest)) (after : drop (suc place) back ≡ rest) where
  goes_next : Goes asking work back n next → (flag : Bool) (so_far : RunState) → next (place + 1) flag so_far ≡ Some (run asking work zero rest flag so_far)
  goes_next goes flag so_far =
      goes (place + 1) flag so_far (omega arith) ∙ ap (λ k. Some (run asking work zero (drop k back) flag so_far)) (add-one place) ∙ ap (λ code. Some (run asking work zero code flag so_far)) after

  goes_on : Goes asking work back n next → (until : ℕ) (flag : Bool) (so_far : RunState) → until ≤ length rest → next (length back - until) flag so_far ≡ Some (run asking work (length rest - until) rest flag so_far)
  goes_on goes until flag so_far le =
      let there : length back - until ≡ suc place + (length rest - until) = omega arith in
      goes (length back - until) flag so_far (omega arith)
      ∙ ap (λ k. Some (run asking work zero (drop k back) flag so_far)) there
      ∙ ap (λ code. Some (run asking work zero code flag so_far)) (sym (drop-drop (length rest - until) (suc place) back) ∙ ap (drop (length rest - until)) after)
      ∙ ap Some (sym (past asking work (length rest - until) rest flag so_far))

  -- one turn
  turn_goes : Goes asking work back n next → (instr : Instruction) → IsWithin (length rest) instr → (flag : Bool) (so_far : RunState) → paid_turn asking work next (forward (length back) instr) place flag so_far ≡ Some (run asking work zero (instr ∷ rest) flag so_far)
  turn_goes goes (set value) within flag so_far = no_work _ _ (goes_next goes value so_far)
  turn_goes goes (look check) within flag so_far = ap (after_work (work so_far check)) (goes_next goes (asking so_far check).is_held (asking so_far check).so_far)
  turn_goes goes flip within flag so_far = no_work _ _ (goes_next goes (not flag) so_far)
  turn_goes goes (jump until) within flag so_far = no_work _ _ (goes_on goes until flag so_far within)
  turn_goes goes (jump_if until) within true so_far = no_work _ _ (goes_on goes until true so_far within)
  turn_goes goes (jump_if until) within false so_far = no_work _ _ (goes_next goes false so_far)
  turn_goes goes (jump_unless until) within true so_far = no_work _ _ (goes_next goes true so_far)
  turn_goes goes (jump_unless until) within false so_far = no_work _ _ (goes_on goes until false so_far within)
  turn_goes goes (I.act action) within flag so_far = no_work _ _ (acts (performed action so_far))
    where
      acts : (flow : Flow) → after_action flow (next (place + 1) flag) ≡ Some (then_runs flow (run asking work zero rest flag))
      acts (Going so_far) = goes_next goes flag so_far
      acts (Stopped so_far) = refl
      acts (Failed failure) = refl
  turn_goes goes I.stop within flag so_far = no_work _ _ refl

-- from each place it does what the code does that is left there
follows : (asking : TestAsking) (work : RunState → MailCheck → ℕ) (back : List Instruction) → AreWithin back → (n place : ℕ) (flag : Bool) (so_far : RunState) (rest : List Instruction) → drop place back ≡ rest → length back ≤ place + n → jumps_from asking work (code_in_order back) n place flag so_far ≡ Some (run asking work zero rest flag so_far)
follows asking work back within zero place flag so_far [] e enough =
    ap (λ o. at_place o (λ instr. None) so_far) (nothing_at back place e)
follows asking work back within zero place flag so_far (instr ∷ rest) e enough =
    let left = left_at back place instr rest e in absurd (omega arith)
follows asking work back within (suc n) place flag so_far [] e enough =
    ap (λ o. at_place o (λ instr. paid_turn asking work (jumps_from asking work (code_in_order back) n) instr place flag so_far) so_far) (nothing_at back place e)
follows asking work back within (suc n) place flag so_far (instr ∷ rest) e enough =
    let next = jumps_from asking work (code_in_order back) n in
    let here = subst AreWithin e (within_drop place back within) in
    ap (λ o. at_place o (λ instr. paid_turn asking work next instr place flag so_far) so_far) (something_at back place instr rest e)
    ∙ turn_goes asking work back n next place rest enough (left_at back place instr rest e) (at_drop back place instr rest e).1
    (λ p f s enough. follows asking work back within n p f s (drop p back) refl enough) instr here.0 flag so_far

-- turned round, the code of commands stands for them
pub turned_is_code : (commands : Commands) (code : List Instruction) → code ≡ code_in_order (commands_code commands []) → IsCodeOf code commands
turned_is_code commands code e asking work so_far =
    let back = commands_code commands [] in
    let long : length code ≡ length back = ap length e ∙ length-map back (forward (length back)) in
    ap (λ l. jumps_from asking work l (length code) 0 false so_far) e
    ∙ follows asking work back (commands_within commands [] tt) (length code) 0 false so_far back refl (omega arith)
    ∙ ap Some (whole_runs asking work commands so_far)

-- and each jump leads forward
leads : (back : List Instruction) (place : ℕ) (instr : Instruction) (rest : List Instruction) → length back ≡ place + suc (length rest) → IsWithin (length rest) instr → LeadsForward place (length back) (forward (length back) instr)
leads back place (set value) rest left within = tt
leads back place (look check) rest left within = tt
leads back place flip rest left within = tt
leads back place (jump until) rest left within = (omega arith, omega arith)
leads back place (jump_if until) rest left within = (omega arith, omega arith)
leads back place (jump_unless until) rest left within = (omega arith, omega arith)
leads back place (I.act action) rest left within = tt
leads back place I.stop rest left within = tt

forward_at : (back : List Instruction) → AreWithin back → (place : ℕ) (instr : Instruction) (rest : List Instruction) → drop place back ≡ rest → slice_get (code_in_order back) place ≡ Some instr → LeadsForward place (length back) instr
forward_at back within place instr [] e here = absurd (none_is_some (sym (nothing_at back place e) ∙ here))
  where
    none_is_some : None ≡ Some instr → ⊥
    none_is_some e = cc
forward_at back within place instr (first ∷ rest) e here =
    let first_within = subst AreWithin e (within_drop place back within) in
    let same : forward (length back) first ≡ instr = same_Some _ _ (sym (something_at back place first rest e) ∙ here) in
    subst (LeadsForward place (length back)) same (leads back place first rest (left_at back place first rest e) first_within.0)

pub turned_forward : (commands : Commands) (code : List Instruction) → code ≡ code_in_order (commands_code commands []) → IsForward code
turned_forward commands code e place instr here =
    let back = commands_code commands [] in
    let long : length back ≡ length code = sym (ap length e ∙ length-map back (forward (length back))) in
    subst (λ n. LeadsForward place n instr) long (forward_at back (commands_within commands [] tt) place instr (drop place back) refl (sym (ap (λ l. slice_get l place) e) ∙ here))
