-- What flat code does and the work that it takes, for any asking and any work of the tests that look at the message or at what the run has done.
use Rattle.std.specs.Prelude.{◌≡◌, ℕ, zero, suc, ◌+◌, ◌<◌, ◌≤◌, Bool, false, not, cond, List, length, nat_lt, Option, Some, None, slice_get}
use Rattle.std.specs.Option.{option_map}
use Rattle.sieve_syntax.specs.declared.tree.checks.MailCheck.{MailCheck}
use Rattle.sieve_syntax.specs.RunState.{RunState, at_first, Failure, TooMuchWork, Flow, Going, Stopped, Failed, performed}
use Rattle.sieve_syntax.specs.Tree.{Commands}
use Rattle.sieve_syntax.specs.Meaning.{TestAsking, does_all, Outcome, outcome_after}
use Rattle.sieve_syntax.specs.Work.{all_take, within_work}
use Rattle.sieve_code.specs.Instructions.{Instruction, set, look, flip, jump, jump_if, jump_unless, act, stop}

-- the state of a run that is over, and the work that it took
pub record Course : Type 0 where
  pub flow : Flow
  pub work : ℕ

-- over without work, and after some more work
abbrev pub course_of : Flow → Course
course_of flow = record { flow = flow; work = 0 }

abbrev pub with_work : ℕ → Course → Course
with_work work course = record course { work = work + course.work }

-- the course of a run from a place, a flag and what has been done so far; none if it is still going
abbrev pub Run : Type 0
Run = ℕ → Bool → RunState → Option Course

-- the same after some work
abbrev pub after_work : ℕ → Option Course → Option Course
after_work work None = None
after_work work (Some course) = Some (with_work work course)

-- a run goes on after an action that didn't fail
abbrev pub after_action : Flow → (RunState → Option Course) → Option Course
after_action (Going so_far) next = next so_far
after_action (Stopped so_far) next = Some (course_of (Stopped so_far))
after_action (Failed failure) next = Some (course_of (Failed failure))

-- the work of an instruction: that of the test that it asks
abbrev pub instr_work : (RunState → MailCheck → ℕ) → Instruction → RunState → ℕ
instr_work work (set value) so_far = 0
instr_work work (look check) so_far = work so_far check
instr_work work flip so_far = 0
instr_work work (jump target) so_far = 0
instr_work work (jump_if target) so_far = 0
instr_work work (jump_unless target) so_far = 0
instr_work work (act action) so_far = 0
instr_work work stop so_far = 0

-- one step, and then the run from the next place on: what a test comes to is the flag and what has been done behind it
abbrev pub turn : TestAsking → Run → Instruction → Run
turn asking next (set value) place flag so_far = next (place + 1) value so_far
turn asking next (look check) place flag so_far = next (place + 1) (asking so_far check).is_held (asking so_far check).so_far
turn asking next flip place flag so_far = next (place + 1) (not flag) so_far
turn asking next (jump target) place flag so_far = next target flag so_far
turn asking next (jump_if target) place flag so_far = next (cond flag target (place + 1)) flag so_far
turn asking next (jump_unless target) place flag so_far = next (cond flag (place + 1) target) flag so_far
turn asking next (act action) place flag so_far = after_action (performed action so_far) (next (place + 1) flag)
turn asking next stop place flag so_far = Some (course_of (Stopped so_far))

-- at the end of the code a run is over, without a step
abbrev pub at_place : Option Instruction → (Instruction → Option Course) → RunState → Option Course
at_place None go so_far = Some (course_of (Going so_far))
at_place (Some instr) go so_far = go instr

-- a step with its work, and then the run from the next place on
abbrev pub paid_turn : TestAsking → (RunState → MailCheck → ℕ) → Run → Instruction → Run
paid_turn asking work next instr place flag so_far = after_work (instr_work work instr so_far) (turn asking next instr place flag so_far)

-- the course of flat code from a place on in at most n steps, or none if it is still going
abbrev pub jumps_from : TestAsking → (RunState → MailCheck → ℕ) → List Instruction → ℕ → Run
jumps_from asking work code zero place flag so_far = at_place (slice_get code place) (λ instr. None) so_far
jumps_from asking work code (suc n) place flag so_far = at_place (slice_get code place) (λ instr. paid_turn asking work (jumps_from asking work code n) instr place flag so_far) so_far

-- the outcome of a run that is over
abbrev pub outcome_of : Option Course → Option Outcome
outcome_of None = None
outcome_of (Some course) = Some (within_work course.work (outcome_after course.flow))

-- the outcome of flat code in at most n steps, or none if it is still going
abbrev pub jumps : TestAsking → (RunState → MailCheck → ℕ) → List Instruction → ℕ → Option Outcome
jumps asking work code n = outcome_of (jumps_from asking work code n 0 false at_first)

-- how a run ends: in this state, before its implicit keep, behind so much work; or it failed
pub data RunEnd : Type 0 where
  Ended : RunState → (work : ℕ) → RunEnd
  Broken : Failure → RunEnd

abbrev pub end_by : Flow → (work : ℕ) → RunEnd
end_by (Going so_far) work = Ended so_far work
end_by (Stopped so_far) work = Ended so_far work
end_by (Failed failure) work = Broken failure

-- one that takes more work than `most` fails, whatever it comes to
abbrev pub end_within : (most : ℕ) → Course → RunEnd
end_within most course = cond (nat_lt most course.work) (Broken TooMuchWork) (end_by course.flow course.work)

-- the end of flat code that begins with what has been done so far, in as many steps as it is long, or none if it is still going
abbrev pub ends_within : TestAsking → (RunState → MailCheck → ℕ) → (most : ℕ) → List Instruction → RunState → Option RunEnd
ends_within asking work most code so_far = option_map (end_within most) (jumps_from asking work code (length code) 0 false so_far)

-- the course of a tree that begins with what has been done so far
abbrev pub tree_course : TestAsking → (RunState → MailCheck → ℕ) → Commands → RunState → Course
tree_course asking work tree so_far = record { flow = does_all asking tree so_far; work = all_take asking work tree so_far }

-- the code does what the tree does and takes the work that it takes, in at most as many steps as the code is long, however tests are asked and
-- whatever has been done so far
abbrev pub IsCodeOf : List Instruction → Commands → Type 0
IsCodeOf code tree = (asking : TestAsking) (work : RunState → MailCheck → ℕ) (so_far : RunState)
    → jumps_from asking work code (length code) 0 false so_far ≡ Some (tree_course asking work tree so_far)

-- a jump from this place leads past it, and not past the end of code of this length
abbrev pub LeadsForward : ℕ → ℕ → Instruction → Type 0
LeadsForward place len (jump target) = (place < target) × (target ≤ len)
LeadsForward place len (jump_if target) = (place < target) × (target ≤ len)
LeadsForward place len (jump_unless target) = (place < target) × (target ≤ len)
LeadsForward place len _ = Unit {0}

-- each jump leads past its own place, and at most to the end of the code
abbrev pub IsForward : List Instruction → Type 0
IsForward code = (place : ℕ) (instr : Instruction) → slice_get code place ≡ Some instr → LeadsForward place (length code) instr
