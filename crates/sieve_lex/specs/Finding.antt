use Rattle.std.specs.Prelude.{◌≡◌, ℕ, Result, Ok, Err}
use Rattle.sieve_lex.specs.declared.fault.ScriptError.{ScriptError}
use Rattle.sieve_lex.specs.declared.fault.ScriptError.TheVariants.{Memory, Fault}

-- this holds if the error is a fault of the script; lack of memory says nothing
abbrev pub OnFault : ScriptError → Type 0 → Type 0
OnFault Memory p = Unit {0}
OnFault (Fault _) p = p

-- this holds of the line that the error names, if it is a fault of the script
abbrev pub OnFaultLine : ScriptError → (ℕ → Type 0) → Type 0
OnFaultLine Memory p = Unit {0}
OnFaultLine (Fault f) p = p f.line

-- the error; if it is a fault of the script, on this line
abbrev pub on_line : ℕ → ScriptError → ScriptError
on_line line Memory = Memory
on_line line (Fault f) = Fault (record { line = line; kind = f.kind })

-- this holds if a fault is returned
abbrev pub IfFault : {X : Type 0} → Result X ScriptError → Type 0 → Type 0
IfFault (Ok _) p = Unit {0}
IfFault (Err e) p = OnFault e p

-- this holds of the line of the fault, if one is returned
abbrev pub IfFaultLine : {X : Type 0} → Result X ScriptError → (ℕ → Type 0) → Type 0
IfFaultLine (Ok _) p = Unit {0}
IfFaultLine (Err e) p = OnFaultLine e p

-- the only x with P, or a fault if there is none
abbrev pub FindsOne : {X : Type 0} → (X → Type 0) → Result X ScriptError → Type 0
FindsOne {X} P (Ok x) = P x × ((y : X) → P y → y ≡ x)
FindsOne {X} P (Err e) = OnFault e ((y : X) → P y → ⊥)
