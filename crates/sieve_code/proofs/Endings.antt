-- Code whose jumps lead forward comes to an end in as many turns as it is long.
use Rattle.std.proofs.Common.{◌≡◌, ℕ, zero, suc, ◌+◌, ◌<◌, ◌≤◌, Bool, true, false, not, cond, List, length, Option, Some, None, refl, sym, ap, ◌∙◌, arith}
use Rattle.std.specs.Prelude.{slice_get}
use Rattle.std.proofs.lemmas.Option.{slice_get_past}
use Rattle.sieve_syntax.specs.declared.tree.checks.MailCheck.{MailCheck}
use Rattle.sieve_syntax.specs.Meaning.{TestAsking}
use Rattle.sieve_syntax.specs.RunState.{RunState, Flow, Going, Stopped, Failed, performed}
use Rattle.sieve_code.specs.Instructions.{Instruction, set, look, flip, jump, jump_if, jump_unless, act, stop}
use Rattle.sieve_code.specs.Jumps.{Course, course_of, with_work, Run, after_work, after_action, instr_work, turn, at_place, paid_turn, jumps_from, LeadsForward, IsForward}

-- a run is over
abbrev pub Ends : Option Course → Type 0
Ends given = (course : Course) × (given ≡ Some course)

module _ (asking : TestAsking) (work : RunState → MailCheck → ℕ) (code : List Instruction) where
  -- a turn ends where what is next ends from each place behind
  pub turn_ends : (next : Run) (place : ℕ) (instr : Instruction) → LeadsForward place (length code) instr → (flag : Bool) (so_far : RunState)
      → ((later : ℕ) (flag : Bool) (so_far : RunState) → place < later → Ends (next later flag so_far)) → Ends (turn asking next instr place flag so_far)
  turn_ends next place (set value) leads flag so_far later = later (place + 1) value so_far (omega arith)
  turn_ends next place (look check) leads flag so_far later = later (place + 1) (asking so_far check).is_held (asking so_far check).so_far (omega arith)
  turn_ends next place flip leads flag so_far later = later (place + 1) (not flag) so_far (omega arith)
  turn_ends next place (jump target) leads flag so_far later = later target flag so_far leads.0
  turn_ends next place (jump_if target) leads true so_far later = later target true so_far leads.0
  turn_ends next place (jump_if target) leads false so_far later = later (place + 1) false so_far (omega arith)
  turn_ends next place (jump_unless target) leads true so_far later = later (place + 1) true so_far (omega arith)
  turn_ends next place (jump_unless target) leads false so_far later = later target false so_far leads.0
  turn_ends next place (act action) leads flag so_far later = acts (performed action so_far)
    where
      acts : (flow : Flow) → Ends (after_action flow (next (place + 1) flag))
      acts (Going so_far) = later (place + 1) flag so_far (omega arith)
      acts (Stopped so_far) = (course_of (Stopped so_far), refl)
      acts (Failed failure) = (course_of (Failed failure), refl)
  turn_ends next place stop leads flag so_far later = (course_of (Stopped so_far), refl)

  -- so does code
  pub comes_to_an_end : IsForward code → (n place : ℕ) (flag : Bool) (so_far : RunState) → length code ≤ place + n → Ends (jumps_from asking work code n place flag so_far)
  comes_to_an_end forward zero place flag so_far enough =
      (course_of (Going so_far), ap (λ o. at_place o (λ instr. None) so_far) (slice_get_past code place (omega (arith, enough))))
  comes_to_an_end forward (suc n) place flag so_far enough =
      step (λ later flag so_far past. comes_to_an_end forward n later flag so_far (omega (arith, enough, past))) (slice_get code place) refl
    where
      step : ((later : ℕ) (flag : Bool) (so_far : RunState) → place < later → Ends (jumps_from asking work code n later flag so_far))
          → (here : Option Instruction) → slice_get code place ≡ here → Ends (at_place here (λ instr. paid_turn asking work (jumps_from asking work code n) instr place flag so_far) so_far)
      step later None here = (course_of (Going so_far), refl)
      step later (Some instr) here =
          let inner = turn_ends (jumps_from asking work code n) place instr (forward place instr here) flag so_far later in
          (with_work (instr_work work instr so_far) inner.0, ap (after_work (instr_work work instr so_far)) inner.1)
