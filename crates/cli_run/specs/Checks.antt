-- What `check` says about a text.
use Rattle.std.specs.Prelude.{◌≡◌, ◌<◌, ◌≤◌, ◌⊎◌, ℕ, List, ◌++◌, codes, decimal, length, Option, Some, None, Result, Ok, Err}
use Rattle.std.specs.Io.KnownBytes.{Keeps}
use Rattle.sieve_lex.specs.Faults.{fault_line, fault_text}
use Rattle.sieve_lex.specs.declared.fault.FaultKind.{FaultKind}
use Rattle.sieve_lex.specs.declared.fault.ScriptFault.{ScriptFault}
use Rattle.sieve_places.specs.Places.{IsFaultPlace, place_shown}
use Rattle.sieve_places.specs.declared.find.FaultPlace.{FaultPlace}
use Rattle.store_accounts.specs.declared.refusal.Refusal.TheVariants.{ScriptTooLarge}
use Rattle.managesieve_sessions.specs.Limits.{script_limit}
use Rattle.managesieve_sessions.specs.Scripts.{IsValidScript, IsVerdict}
use Rattle.cli_reports.specs.Reports.{ended_line}
use Rattle.cli_run.specs.declared.fault.RunFault.{RunFault}
use Rattle.cli_run.specs.declared.fault.RunFault.TheVariants.{Refused, Stream}
use Rattle.cli_run.specs.Faults.{memory, status_of, run_fault_line, IsFailure, IsPrinted}
use Rattle.cli_run.specs.Streams.{InputFailed, IsWritten}
use Rattle.cli_run.specs.TryScript.{OfInput}

-- the line on a fault of a script: `line N: TEXT`, or `FILE:N: TEXT` if it is in a file
abbrev pub fault_in_file : Option (List ℕ) → ScriptFault → List ℕ
fault_in_file None fault = ended_line (fault_line fault.line fault.kind)
fault_in_file (Some file) fault =
    ended_line (file ++ (codes ":" ++ (decimal fault.line ++ (codes ": " ++ fault_text fault.kind))))

-- where a word is: `line N, column M`, or `FILE:N:M`
abbrev pub position_words : Option (List ℕ) → FaultPlace → List ℕ
position_words None place = codes "line " ++ (decimal place.line ++ (codes ", column " ++ decimal place.column))
position_words (Some file) place = file ++ (codes ":" ++ (decimal place.line ++ (codes ":" ++ decimal place.column)))

-- the line on a fault with the place of its word and the word: `line N, column M: TEXT "WORD"`, or `FILE:N:M: TEXT "WORD"`
abbrev pub fault_placed : Option (List ℕ) → FaultPlace → FaultKind → List ℕ
fault_placed file place kind =
    position_words file place ++ (codes ": " ++ (fault_text kind ++ (place_shown place ++ codes "\n")))

abbrev pub finding_by : Option (List ℕ) → ScriptFault → Option FaultPlace → List ℕ
finding_by file fault None = fault_in_file file fault
finding_by file fault (Some place) = fault_placed file place fault.kind

-- the line on a fault of a text: with the word's place, if it has one
abbrev pub IsFindingLine : Option (List ℕ) → List ℕ → ScriptFault → List ℕ → Type 0
IsFindingLine file text fault line = (place : Option FaultPlace) × IsFaultPlace text fault.kind place × (line ≡ finding_by file fault place)

-- such a line is printed
abbrev pub PrintsFault : Result (Unit {0}) RunFault → Option (List ℕ) → List ℕ → ScriptFault → Option (List ℕ) → Option (List ℕ)
    → Type 0
PrintsFault result file text fault old new = (line : List ℕ) × IsFindingLine file text fault line × IsPrinted result old new line

-- a text is longer than a script may be
abbrev pub script_too_large : RunFault
script_too_large = Refused ScriptTooLarge

-- what is reported of a fault: after the file's name if the file is too large
abbrev pub check_fault_line : Option (List ℕ) → RunFault → List ℕ
check_fault_line (Some file) (Refused ScriptTooLarge) = ended_line (file ++ codes ": script too large")
check_fault_line file fault = run_fault_line fault

-- what was found: nothing, why it is no valid script, or a fault that hid it
abbrev pub Finding : Type 0
Finding = Result (Option ScriptFault) RunFault

-- and its exit status
abbrev pub status_found : Finding → ℕ
status_found (Ok None) = 0
status_found (Ok (Some fault)) = 65
status_found (Err fault) = status_of fault

-- a text that isn't longer than a script may be, with this wrong with it
abbrev pub Has : List ℕ → Option ScriptFault → Type 0
Has text verdict = (length text ≤ script_limit) × IsVerdict text verdict

-- what is then on the output: for a valid script nothing; else the line on its fault, or if a write of it failed a prefix; a text
-- is too large only if it is
abbrev pub PrintsFinding : Option (List ℕ) → List ℕ → Option (List ℕ) → Option (List ℕ) → Finding → Type 0
PrintsFinding file text old new (Ok None) = Has text None × Keeps old new
PrintsFinding file text old new (Ok (Some fault)) = Has text (Some fault) × PrintsFault (Ok tt) file text fault old new
PrintsFinding file text old new (Err fault) =
    ((fault ≡ memory) × Keeps old new)
    ⊎ ((fault ≡ script_too_large) × (script_limit < length text) × Keeps old new)
    ⊎ ((verdict : ScriptFault) × Has text (Some verdict) × PrintsFault (Err fault) file text verdict old new)

-- what is reported on the errors
abbrev pub TellsFinding : Option (List ℕ) → Option (List ℕ) → Option (List ℕ) → Finding → Type 0
TellsFinding file old new (Ok verdict) = Keeps old new
TellsFinding file old new (Err fault) = IsWritten old new (check_fault_line file fault)

-- a text was checked
pub record IsChecked (file : Option (List ℕ)) (text : List ℕ) (out_old out_new err_old err_new : Option (List ℕ))
    (status : ℕ) : Type 0 where
  pub finding : Finding
  pub ended : status ≡ status_found finding
  pub printed : PrintsFinding file text out_old out_new finding
  pub told : TellsFinding file err_old err_new finding

-- the input couldn't be read, or there was no memory for it
pub record IsUnread (out_old out_new err_old err_new : Option (List ℕ)) (status : ℕ) : Type 0 where
  pub fault : RunFault
  pub failure : IsFailure fault
  pub cause : fault ≡ Stream → InputFailed
  pub ended : status ≡ status_of fault
  pub silent : Keeps out_old out_new
  pub told : IsWritten err_old err_new (run_fault_line fault)

-- the input was checked
abbrev pub ChecksInput : Option (List ℕ) → Option (List ℕ) → Option (List ℕ) → Option (List ℕ) → Option (List ℕ) → ℕ → Type 0
ChecksInput given out_old out_new err_old err_new status =
    IsUnread out_old out_new err_old err_new status
    ⊎ OfInput given (λ text. IsChecked None text out_old out_new err_old err_new status)
