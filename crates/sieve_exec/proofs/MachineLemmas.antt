-- Turn by turn the machine does what the code gives, and takes its work.
use Rattle.std.proofs.Common.{◌≡◌, ℕ, zero, suc, ◌+◌, ◌-◌, ◌<◌, ◌≤◌, Bool, true, false, cond, List, length, map, Option, Some, None, Result, Ok, Err, IfOk, get_or, refl, sym, ap, ◌∙◌, subst, arith, zero-add}
use Rattle.std.specs.Prelude.{nat_lt, slice_get}
use Rattle.std.specs.Option.{option_map}
use Rattle.std.specs.declared.alloc.AllocError.{AllocError}
use Rattle.std.proofs.lemmas.Bool.{lt-ltb, le-ltb}
use Rattle.std.proofs.lemmas.List.{length-map}
use Rattle.std.proofs.lemmas.Option.{same_Some, slice_get-map, slice_get_past, slice_get_read, slice_get_within}
use Rattle.sieve_syntax.specs.declared.tree.checks.MailCheck.{MailCheck}
use Rattle.sieve_syntax.specs.RunState.{RunState, at_first, TooMuchWork, Flow, Going}
use Rattle.sieve_syntax.specs.RunState as F
use Rattle.sieve_syntax.specs.Meaning.{TestAsking, asking_at, Outcome as OutcomeSpec, Failed, outcome_after}
use Rattle.sieve_syntax.specs.Work.{max_work, within_work}
use Rattle.sieve_code.specs.declared.instr.Instr.{Instr}
use Rattle.sieve_code.specs.Instructions.{Instruction, instr_view}
use Rattle.sieve_code.specs.Jumps.{Course, course_of, with_work, IsForward, LeadsForward, Run, after_work, instr_work, turn, at_place, paid_turn, jumps_from, outcome_of, RunEnd, Ended, Broken, end_by, end_within, ends_within, jumps}
use Rattle.sieve_code.proofs.Runs.{behind_none, behind_both}
use Rattle.sieve_code.proofs.Endings.{turn_ends, comes_to_an_end}
use Rattle.sieve_exec.specs.Mails.{MailSpec}
use Rattle.sieve_exec.specs.Truth.{truth_at}
use Rattle.sieve_exec.specs.Work.{work_at}
use Rattle.sieve_exec.specs.declared.outcome.Outcome.{Outcome}
use Rattle.sieve_exec.specs.declared.machine.InstrOutcome.{InstrOutcome}
use Rattle.sieve_exec.specs.declared.machine.InstrOutcome.TheVariants.{Next, Stopped}
use Rattle.sieve_exec.specs.declared.machine.InstrOutcome.TheVariants as T
use Rattle.sieve_exec.specs.Runs.{after_turn, failure_view, MovesOn, outcome_view}

-- no work, and work behind work
none_after : (given : Option Course) → after_work 0 given ≡ given
none_after None = refl
none_after (Some course) = ap Some (behind_none course)

both_after : (one two : ℕ) (given : Option Course) → after_work one (after_work two given) ≡ after_work (one + two) given
both_after one two None = refl
both_after one two (Some course) = ap Some (behind_both one two course)

-- with as many turns as there are places left, and so much work that was taken of what may be, the code gives this from here
pub record Gives (asking : TestAsking) (work : RunState → MailCheck → ℕ) (most : ℕ) (code : List Instruction) (whole : Option Course) (place : ℕ) (flag : Bool) (state : RunState) (left : ℕ) : Type 0 where
  pub turns : ℕ
  pub taken : ℕ
  pub enough : length code ≤ place + turns
  pub within : taken + left ≡ most
  pub is : after_work taken (jumps_from asking work code turns place flag state) ≡ whole

-- a run is over, and so much work is left of what may be
pub record IsOver (most : ℕ) (whole : Option Course) (flow : Flow) (left : ℕ) : Type 0 where
  pub taken : ℕ
  pub within : taken + left ≡ most
  pub is : Some (with_work taken (course_of flow)) ≡ whole

-- what a turn leaves to do
abbrev pub Leaves : TestAsking → (RunState → MailCheck → ℕ) → (most : ℕ) → List Instruction → Option Course → InstrOutcome → Bool → RunState → ℕ → Type 0
Leaves asking work most code whole (Next place) flag state left = Gives asking work most code whole place flag state left
Leaves asking work most code whole Stopped flag state left = IsOver most whole (F.Stopped state) left
Leaves asking work most code whole (T.Failed failure) flag state left = IsOver most whole (F.Failed (failure_view failure)) left

-- at first
pub gives_first : (asking : TestAsking) (work : RunState → MailCheck → ℕ) (most : ℕ) (code : List Instruction) (state : RunState) → Gives asking work most code (jumps_from asking work code (length code) 0 false state) 0 false state most
gives_first asking work most code state = record {
  turns = length code;
  taken = 0;
  enough = omega arith;
  within = zero-add most;
  is = none_after (jumps_from asking work code (length code) 0 false state);
}

module _ (asking : TestAsking) (work : RunState → MailCheck → ℕ) (most : ℕ) (code : List Instruction) (whole : Option Course) (place : ℕ) where
  -- the rest is what the turn leaves
  rest_of : (m taken left : ℕ) → length code ≤ place + suc m → taken + left ≡ most → (made : InstrOutcome) (flag : Bool) (state : RunState) → MovesOn place made
      → after_work taken (after_turn made (jumps_from asking work code m) flag state) ≡ whole → Leaves asking work most code whole made flag state left
  rest_of m taken left enough within (Next place') flag state forward e = record { turns = m; taken = taken; enough = omega (arith, enough, forward); within = within; is = e }
  rest_of m taken left enough within Stopped flag state forward e = record { taken = taken; within = within; is = e }
  rest_of m taken left enough within (T.Failed failure) flag state forward e = record { taken = taken; within = within; is = e }

  -- what the code gives here, where a turn is left
  here_given : (m : ℕ) (instr : Instruction) (flag : Bool) (state : RunState) → slice_get code place ≡ Some instr
      → jumps_from asking work code (suc m) place flag state ≡ after_work (instr_work work instr state) (turn asking (jumps_from asking work code m) instr place flag state)
  here_given m instr flag state here = ap (λ o. at_place o (λ instr. paid_turn asking work (jumps_from asking work code m) instr place flag state) state) here

  -- one turn, and its work
  one_turn : (instr : Instruction) (made : InstrOutcome) (flag flag' : Bool) (state state' : RunState) (before left : ℕ) → Gives asking work most code whole place flag state before → slice_get code place ≡ Some instr
      → left + instr_work work instr state ≡ before → ((next : Run) → turn asking next instr place flag state ≡ after_turn made next flag' state') → MovesOn place made → Leaves asking work most code whole made flag' state' left
  one_turn instr made flag flag' state state' before left gives here paid turned forward = step gives.turns gives.enough gives.is
    where
      step : (turns : ℕ) → length code ≤ place + turns → after_work gives.taken (jumps_from asking work code turns place flag state) ≡ whole → Leaves asking work most code whole made flag' state' left
      step zero enough e = let within = slice_get_within code place instr here in absurd (omega (arith, enough, within))
      step (suc m) enough e =
          let next = jumps_from asking work code m in
          let w = instr_work work instr state in
          rest_of m (gives.taken + w) left enough (omega (arith, gives.within, paid)) made flag' state' forward
          (ap (after_work (gives.taken + w)) (sym (turned next)) ∙ sym (both_after gives.taken w (turn asking next instr place flag state))
          ∙ ap (after_work gives.taken) (sym (here_given m instr flag state here)) ∙ e)

  -- an instruction whose work is more than is left
  too_much : (instr : Instruction) (flag : Bool) (state : RunState) (before : ℕ) → Gives asking work most code whole place flag state before → slice_get code place ≡ Some instr → IsForward code
      → before < instr_work work instr state → option_map (end_within most) whole ≡ Some (Broken TooMuchWork)
  too_much instr flag state before gives here forward more = step gives.turns gives.enough gives.is
    where
      step : (turns : ℕ) → length code ≤ place + turns → after_work gives.taken (jumps_from asking work code turns place flag state) ≡ whole → option_map (end_within most) whole ≡ Some (Broken TooMuchWork)
      step zero enough e = let within = slice_get_within code place instr here in absurd (omega (arith, enough, within))
      step (suc m) enough e =
          let next = jumps_from asking work code m in
          let w = instr_work work instr state in
          let inner = turn_ends asking work code next place instr (forward place instr here) flag state (λ later flag state past. comes_to_an_end asking work code forward m later flag state (omega (arith, enough, past))) in
          let all = gives.taken + (w + inner.0.work) in
          let high : nat_lt most all ≡ true = lt-ltb most all (omega (arith, gives.within, more)) in
          ap (option_map (end_within most)) (sym e ∙ ap (after_work gives.taken) (here_given m instr flag state here ∙ ap (after_work w) inner.1))
          ∙ ap (λ b. Some (cond b (Broken TooMuchWork) (end_by inner.0.flow all))) high

  -- after the last place
  pub at_end : (flag : Bool) (state : RunState) (left : ℕ) → Gives asking work most code whole place flag state left → length code ≤ place → IsOver most whole (Going state) left
  at_end flag state left gives end = step gives.turns gives.is
    where
      step : (turns : ℕ) → after_work gives.taken (jumps_from asking work code turns place flag state) ≡ whole → IsOver most whole (Going state) left
      step zero e = record {
        taken = gives.taken;
        within = gives.within;
        is = ap (after_work gives.taken) (sym (ap (λ o. at_place o (λ instr. None) state) (slice_get_past code place end))) ∙ e;
      }
      step (suc m) e = record {
        taken = gives.taken;
        within = gives.within;
        is = ap (after_work gives.taken) (sym (ap (λ o. at_place o (λ instr. paid_turn asking work (jumps_from asking work code m) instr place flag state) state) (slice_get_past code place end))) ∙ e;
      }

-- the instruction at a place of the code
at_the_place : (instrs : List Instr) (code : List Instruction) (place : ℕ) (instr : Instr) → map instr_view instrs ≡ code → place < length instrs → instr ≡ get_or instrs place instr → slice_get code place ≡ Some (instr_view instr)
at_the_place instrs code place instr seen within here =
    ap (λ l. slice_get l place) (sym seen) ∙ slice_get-map instr_view instrs place ∙ ap (option_map instr_view) (slice_get_read instrs (length instrs) place instr refl within here)

-- a turn of the machine that was paid for, with the clauses of what it calls; paying changes nothing but what is left
pub machine_turn : (mail cached paying : MailSpec) (most : ℕ) (instrs : List Instr) (code : List Instruction) (whole : Option Course) (place : ℕ) (instr : Instr) (made made' : InstrOutcome) (flag0 flag flag' : Bool) (state0 state state' : RunState) (before left left' : ℕ)
    → cached ≡ mail → paying ≡ mail → flag ≡ flag0 → state ≡ state0 → left' ≡ left → map instr_view instrs ≡ code → IsForward code → place < length instrs → instr ≡ get_or instrs place instr
    → left + instr_work (work_at paying) (instr_view instr) state0 ≡ before
    → ((next : Run) → turn (asking_at (truth_at cached)) next (instr_view instr) place flag state ≡ after_turn made next flag' state')
    → ((len : ℕ) → LeadsForward place len (instr_view instr) → MovesOn place made) → made ≡ made'
    → Gives (asking_at (truth_at mail)) (work_at mail) most code whole place flag0 state0 before → MovesOn place made' × Leaves (asking_at (truth_at mail)) (work_at mail) most code whole made' flag' state' left'
machine_turn mail cached paying most instrs code whole place instr made made' flag0 flag flag' state0 state state' before left left' same pays same_flag same_state same_left seen forward within here paid turned moves is gives =
    let asking = asking_at (truth_at mail) in
    let work = work_at mail in
    let at = at_the_place instrs code place instr seen within here in
    let on = moves (length code) (forward place (instr_view instr) at) in
    let paid' : left + instr_work work (instr_view instr) state ≡ before =
    ap (λ m. left + instr_work (work_at m) (instr_view instr) state) (sym pays) ∙ ap (λ s. left + instr_work (work_at paying) (instr_view instr) s) same_state ∙ paid in
    let turned' : (next : Run) → turn asking next (instr_view instr) place flag state ≡ after_turn made next flag' state' =
    λ next. ap (λ m. turn (asking_at (truth_at m)) next (instr_view instr) place flag state) (sym same) ∙ turned next in
    let gives' = subst (λ f. Gives asking work most code whole place f state before) (sym same_flag) (subst (λ s. Gives asking work most code whole place flag0 s before) (sym same_state) gives) in (
      subst (MovesOn place) is on,
      subst (λ n. Leaves asking work most code whole made' flag' state' n) (sym same_left)
          (subst (λ t. Leaves asking work most code whole t flag' state' left) is (one_turn asking work most code whole place (instr_view instr) made flag flag' state state' before left gives' at paid' turned' on)),
    )

-- one that can't be paid for
pub machine_fails : (mail paying : MailSpec) (most : ℕ) (instrs : List Instr) (code : List Instruction) (whole : Option Course) (place : ℕ) (instr : Instr) (flag : Bool) (state : RunState) (before : ℕ)
    → paying ≡ mail → map instr_view instrs ≡ code → IsForward code → place < length instrs → instr ≡ get_or instrs place instr
    → before < instr_work (work_at paying) (instr_view instr) state → Gives (asking_at (truth_at mail)) (work_at mail) most code whole place flag state before → option_map (end_within most) whole ≡ Some (Broken TooMuchWork)
machine_fails mail paying most instrs code whole place instr flag state before pays seen forward within here more gives =
    too_much (asking_at (truth_at mail)) (work_at mail) most code whole place (instr_view instr) flag state before gives (at_the_place instrs code place instr seen within here) forward
    (subst (λ m. before < instr_work (work_at m) (instr_view instr) state) pays more)

-- a place after all instructions
pub after_all : (instrs : List Instr) (code : List Instruction) (place : ℕ) → map instr_view instrs ≡ code → length instrs ≤ place → length code ≤ place
after_all instrs code place seen past = let long = length-map instrs instr_view in omega (arith, ap length seen)

-- how a run that is over ends
pub over_is : (most : ℕ) (whole : Option Course) (flow : Flow) (left : ℕ) → IsOver most whole flow left → option_map (end_within most) whole ≡ Some (end_by flow (most - left))
over_is most whole flow left is =
    let low : nat_lt most (is.taken + 0) ≡ false = le-ltb most (is.taken + 0) (omega (arith, is.within)) in
    let taken : is.taken + 0 ≡ most - left = omega (arith, is.within) in
    ap (option_map (end_within most)) (sym is.is)
    ∙ ap (λ b. Some (cond b (Broken TooMuchWork) (end_by flow (is.taken + 0)))) low
    ∙ ap (λ n. Some (end_by flow n)) taken

-- the outcome of a run that begins with nothing, by its end: that behind its implicit keep
abbrev pub outcome_by_end : RunEnd → OutcomeSpec
outcome_by_end (Ended so_far work) = outcome_after (Going so_far)
outcome_by_end (Broken failure) = Failed failure

by_end : (course : Course) → within_work course.work (outcome_after course.flow) ≡ outcome_by_end (end_within max_work course)
by_end course = step (nat_lt max_work course.work) course.flow
  where
    step : (much : Bool) (flow : Flow) → cond much (Failed TooMuchWork) (outcome_after flow) ≡ outcome_by_end (cond much (Broken TooMuchWork) (end_by flow course.work))
    step true flow = refl
    step false (Going state) = refl
    step false (F.Stopped state) = refl
    step false (F.Failed failure) = refl

outcome_is : (whole : Option Course) (end : RunEnd) → Some end ≡ option_map (end_within max_work) whole → outcome_of whole ≡ Some (outcome_by_end end)
outcome_is None end is = absurd (cc is)
outcome_is (Some course) end is = ap Some (by_end course ∙ ap outcome_by_end (sym (same_Some _ _ is)))

-- so that of code, by the end of its run that begins with nothing
pub comes_to : (asking : TestAsking) (work : RunState → MailCheck → ℕ) (code : List Instruction) (first : RunState) (end : RunEnd) → Some end ≡ ends_within asking work max_work code first → first ≡ at_first
    → jumps asking work code (length code) ≡ Some (outcome_by_end end)
comes_to asking work code first end is same = outcome_is (jumps_from asking work code (length code) 0 false at_first) end (is ∙ ap (ends_within asking work max_work code) same)

-- the outcome of a run that is over
pub over_so : (result : Result Outcome AllocError) (end : OutcomeSpec) (whole : Option Course) → outcome_of whole ≡ Some end → IfOk result (λ done. outcome_view done ≡ end) → IfOk result (λ done. Some (outcome_view done) ≡ outcome_of whole)
over_so (Ok done) end whole e h = ap Some h ∙ sym e
over_so (Err error) end whole e h = h
