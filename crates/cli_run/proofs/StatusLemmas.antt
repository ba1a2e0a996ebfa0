-- Exit statuses.
use Rattle.std.proofs.Common.{◌≡◌, ◌<◌, lit<, Result, Ok, Err, OnOk, arith}
use Rattle.store_accounts.specs.declared.refusal.Refusal.TheVariants as refusal
use Rattle.cli_run.specs.declared.fault.RunFault.{RunFault}
use Rattle.cli_run.specs.declared.fault.RunFault.TheVariants.{Refused, Busy, Stream, NoMessage, NoMaildir, NoScript, ScriptActive, ScriptExists, Invalid, BadInput, BadArgument}
use Rattle.cli_run.specs.Faults.{status_of}
use Rattle.cli_run.specs.Promise.{status_after}

-- no fault has the status of what was done
pub status_some : (fault : RunFault) → 0 < status_of fault
status_some (Refused refusal.Memory) = lit< tt
status_some (Refused refusal.Store) = lit< tt
status_some (Refused refusal.NotOurs) = lit< tt
status_some (Refused refusal.NoUser) = lit< tt
status_some (Refused refusal.TooLarge) = lit< tt
status_some (Refused refusal.BadEnvelope) = lit< tt
status_some (Refused refusal.BadMoment) = lit< tt
status_some (Refused refusal.UserExists) = lit< tt
status_some (Refused refusal.BadUser) = lit< tt
status_some (Refused refusal.NoRow) = lit< tt
status_some (Refused refusal.AccountClosed) = lit< tt
status_some (Refused refusal.UserIsOpen) = lit< tt
status_some (Refused refusal.UserHasMail) = lit< tt
status_some (Refused refusal.BadScriptName) = lit< tt
status_some (Refused refusal.ScriptTooLarge) = lit< tt
status_some (Refused refusal.TooManyScripts) = lit< tt
status_some (Refused refusal.BadAccount) = lit< tt
status_some Busy = lit< tt
status_some Stream = lit< tt
status_some NoMessage = lit< tt
status_some NoMaildir = lit< tt
status_some NoScript = lit< tt
status_some ScriptActive = lit< tt
status_some ScriptExists = lit< tt
status_some Invalid = lit< tt
status_some BadInput = lit< tt
status_some BadArgument = lit< tt

-- so what was done alone has it
pub done_so : {X : Type 0} (r : Result X RunFault) (P : Type 0) → OnOk r P → status_after r ≡ 0 → P
done_so (Ok x) P p is = p
done_so (Err fault) P p is = absurd (omega (arith, status_some fault, is))
