-- What a run on an input leaves on the output.
use Rattle.std.specs.Prelude.{◌≡◌, ℕ, ◌+◌, ◌≤◌, ◌⊎◌, List, [], ◌∷◌, Option, Some, None, option_copied, Result, Ok, Err}
use Rattle.std.specs.Io.KnownBytes.{Keeps}
use Rattle.mail_head.specs.declared.size_count.SizeCount.{SizeCount}
use Rattle.sieve_lex.specs.declared.fault.FaultKind.{FaultKind}
use Rattle.sieve_lex.specs.Faults.{fault_line}
use Rattle.sieve_lex.specs.Text.{line_ends}
use Rattle.store_engine.specs.Tree.{Commands}
use Rattle.store_engine.specs.Means.{Means}
use Rattle.sieve_exec.specs.declared.envelope.Envelope.{Envelope}
use Rattle.store_engine.specs.declared.terms.Terms.{Terms}
use Rattle.cli_subcommands.specs.declared.subcommand.try_script.TryArgs.{TryArgs}
use Rattle.sieve_plan.specs.Sequences.{Settled}
use Rattle.store_engine.specs.Attempts.{IsValidOrNone, SettlesUnderTerms}
use Rattle.cli_run.specs.declared.fault.RunFault.{RunFault}
use Rattle.cli_run.specs.declared.host_texts.HostTexts.{HostTexts}
use Rattle.store_accounts.specs.declared.refusal.Refusal.TheVariants as refusal
use Rattle.cli_run.specs.declared.fault.RunFault.TheVariants.{Refused, Stream, BadInput, BadArgument}
use Rattle.cli_run.specs.declared.answer.TryAnswer.{TryAnswer}
use Rattle.cli_run.specs.declared.answer.TryAnswer.TheVariants.{Report, Refusal}
use Rattle.cli_run.specs.Faults.{status_of, run_fault_line, memory, IsPrinted, IsUnanswered}
use Rattle.cli_run.specs.Framing.{IsFramed}
use Rattle.cli_run.specs.KeptInputs.{KeepsInput}
use Rattle.cli_run.specs.Transitions.{StreamMove}
use Rattle.cli_run.specs.Values.{AreTerms, HasNoWhen, envelope_with}
use Rattle.cli_run.specs.Streams.{InputFailed, IsWriteCut, IsWritten}
use Rattle.cli_reports.specs.Reports.{ended_line, settled_report}

-- the user's script in an input: one of the length 0 says that the user has no active one
abbrev pub own_script : List ℕ → Option (List ℕ)
own_script [] = None
own_script (octet ∷ more) = Some (octet ∷ more)

-- the input has a valid script, or none, and the text is the report on what it and the host's scripts come to on the message with
-- the envelope
pub record ReportsInput (envelope : Envelope) (terms : Terms) (input text : List ℕ) : Type 0 where
  pub script : List ℕ
  pub message : List ℕ
  pub framed : IsFramed input script message
  pub valid : IsValidOrNone (own_script script)
  pub settled : Settled
  pub settles : SettlesUnderTerms terms envelope (own_script script) message settled
  pub told : text ≡ settled_report settled

-- the input has a script that is not valid, and the text is the line on a fault within it
pub record RefusesInput (input text : List ℕ) : Type 0 where
  pub script : List ℕ
  pub message : List ℕ
  pub framed : IsFramed input script message
  pub invalid : (tree : Commands) → Means script tree → ⊥
  pub line : ℕ
  pub kind : FaultKind
  pub counted : 1 ≤ line
  pub within : line ≤ 1 + line_ends script
  pub told : text ≡ ended_line (fault_line line kind)

-- the input isn't a script and a message
abbrev pub IsNoInput : List ℕ → Type 0
IsNoInput input = (script message : List ℕ) → IsFramed input script message → ⊥

-- of all that the reader gave: if that is not known, of some text
abbrev pub OfInput : Option (List ℕ) → (List ℕ → Type 0) → Type 0
OfInput None P = (input : List ℕ) × P input
OfInput (Some input) P = P input

-- there is no answer: what was read isn't a script and a message, memory was refused, or a read failed
abbrev pub HasNoAnswer : Option (List ℕ) → RunFault → Type 0
HasNoAnswer given fault = ((fault ≡ BadInput) × OfInput given IsNoInput) ⊎ (fault ≡ memory) ⊎ ((fault ≡ Stream) × InputFailed)

-- the answer is true of this input
abbrev pub AnswersInput : Envelope → Terms → List ℕ → TryAnswer → Type 0
AnswersInput envelope terms input (Report text) = ReportsInput envelope terms input text
AnswersInput envelope terms input (Refusal text) = RefusesInput input text

-- the answer is true of each input of which this is kept
abbrev pub AnswersKept : Envelope → Terms → List ℕ → Option SizeCount → TryAnswer → Type 0
AnswersKept envelope terms kept count answer =
    (came : List ℕ) → KeepsInput came kept count → AnswersInput envelope terms came answer

-- each input of which this is kept has no answer, for this fault
abbrev pub LeavesUnanswered : List ℕ → Option SizeCount → RunFault → Type 0
LeavesUnanswered kept count fault = (came : List ℕ) → KeepsInput came kept count → IsUnanswered (IsNoInput came) fault

-- the text of an answer
abbrev pub answer_text : TryAnswer → List ℕ
answer_text (Report text) = text
answer_text (Refusal text) = text

-- the exit status of a run that ended with an answer or with a fault
abbrev pub status_at : Result TryAnswer RunFault → ℕ
status_at (Ok (Report _)) = 0
status_at (Ok (Refusal _)) = 65
status_at (Err fault) = status_of fault

-- what is on the output in the end: the answer, or nothing, or if a write of it failed a prefix of the answer
abbrev pub LeavesOutput : Envelope → Terms → Option (List ℕ) → Option (List ℕ) → Option (List ℕ) → Result TryAnswer RunFault
    → Type 0
LeavesOutput envelope terms given old new (Ok answer) =
    OfInput given (λ input. AnswersInput envelope terms input answer) × IsPrinted (Ok tt) old new (answer_text answer)
LeavesOutput envelope terms given old new (Err BadInput) = OfInput given IsNoInput × Keeps old new
LeavesOutput envelope terms given old new (Err (Refused refusal.Memory)) = Keeps old new
LeavesOutput envelope terms given old new (Err Stream) =
    (Keeps old new × InputFailed) ⊎ ((answer : TryAnswer) × OfInput given (λ input. AnswersInput envelope terms input answer)
    × IsWriteCut old new (answer_text answer))
LeavesOutput envelope terms given old new (Err _) = ⊥

-- what is reported of a fault, or a prefix of it if a write of it failed
abbrev pub LeavesErrors : Option (List ℕ) → Option (List ℕ) → Result TryAnswer RunFault → Type 0
LeavesErrors old new (Ok _) = Keeps old new
LeavesErrors old new (Err fault) = IsWritten old new (run_fault_line fault)

-- a whole run: how it ended, its status, and what it left on the output and on the errors
pub record RunsTry (envelope : Envelope) (terms : Terms) (given : Option (List ℕ)) (output errors : StreamMove)
    (status : ℕ) : Type 0 where
  pub ending : Result TryAnswer RunFault
  pub told : status ≡ status_at ending
  pub left_output : LeavesOutput envelope terms given output.old output.new ending
  pub left_errors : LeavesErrors errors.old errors.new ending

-- nothing was tried or printed, and this fault is reported
abbrev pub TriesNothing : RunFault → StreamMove → StreamMove → ℕ → Type 0
TriesNothing fault output errors status =
    (status ≡ status_of fault) × (output.new ≡ output.old) × IsWritten errors.old errors.new (run_fault_line fault)

-- `try` with these arguments: a whole run at their moment, or else the clock's, in their zone, or in UTC, by a host
-- with these scripts; or one of them is wrong;
-- or they have no moment, and the clock has none
abbrev pub Tries : TryArgs → Option ℕ → HostTexts → Option (List ℕ) → StreamMove → StreamMove → ℕ → Type 0
Tries asked clock host given output errors status =
    ((terms : Terms) × AreTerms (option_copied asked.at) (option_copied asked.zone) clock host terms
    × RunsTry (envelope_with asked.from.now asked.to.now) terms given output errors status)
    ⊎ (HasNoWhen (option_copied asked.at) (option_copied asked.zone) × TriesNothing BadArgument output errors status)
    ⊎ ((option_copied asked.at ≡ None) × (clock ≡ None) × TriesNothing Stream output errors status)
