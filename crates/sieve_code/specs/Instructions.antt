-- Instructions, as contracts see them.
use Rattle.std.specs.Prelude.{ℕ, Bool, List, map, reverse}
use Rattle.sieve_syntax.specs.declared.tree.action.Action.{Action}
use Rattle.sieve_syntax.specs.declared.tree.checks.MailCheck.{MailCheck}
use Rattle.sieve_code.specs.declared.instr.Instr.{Instr}
use Rattle.sieve_code.specs.declared.instr.Instr.TheVariants.{Set, Look, Flip, Jump, JumpIf, JumpUnless, Act, Stop}

-- an instruction, with the test or the action that it refers to
pub data Instruction : Type 0 where
  set : Bool → Instruction
  look : MailCheck → Instruction
  flip : Instruction
  jump : ℕ → Instruction
  jump_if : ℕ → Instruction
  jump_unless : ℕ → Instruction
  act : Action → Instruction
  stop : Instruction

-- what a Rust value stands for
abbrev pub instr_view : Instr → Instruction
instr_view (Set value) = set value
instr_view (Look check) = look check.now
instr_view Flip = flip
instr_view (Jump target) = jump target
instr_view (JumpIf target) = jump_if target
instr_view (JumpUnless target) = jump_unless target
instr_view (Act action) = act action.now
instr_view Stop = stop

-- instructions that were written from the last to the first, in order
abbrev pub instructions_of : List Instr → List Instruction
instructions_of rows = map instr_view (reverse rows)
