use Rattle.std.proofs.Common.{ℕ}
use Rattle.sieve_lex.specs.declared.fault.ScriptError.{ScriptError}
use Rattle.sieve_lex.specs.declared.fault.ScriptError.TheVariants.{Memory, Fault}
use Rattle.sieve_lex.specs.Finding.{OnFault, OnFaultLine, on_line}

-- what follows from what holds at a fault holds there too
pub fault_on : (e : ScriptError) (P Q : Type 0) → (P → Q) → OnFault e P → OnFault e Q
fault_on Memory P Q f h = tt
fault_on (Fault _) P Q f h = f h

-- the same of what holds of the fault's line
pub fault_line_on : (e : ScriptError) (P Q : ℕ → Type 0) → ((n : ℕ) → P n → Q n) → OnFaultLine e P → OnFaultLine e Q
fault_line_on Memory P Q f h = tt
fault_line_on (Fault x) P Q f h = f x.line h

-- it holds on every line
pub fault_again : (line : ℕ) (e : ScriptError) (P : Type 0) → OnFault e P → OnFault (on_line line e) P
fault_again line Memory P h = tt
fault_again line (Fault _) P h = h
