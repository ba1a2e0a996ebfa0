-- What is reported of a store that is closed.
use Rattle.std.specs.Prelude.{◌≡◌, Option, Some, None, Result, Ok, Err}
use Rattle.sqlite.specs.declared.error.Error.{Error}
use Rattle.sqlite.specs.declared.error.ErrorCode.{ErrorCode}
use Rattle.store_accounts.specs.declared.refusal.Refusal.{Refusal}
use Rattle.store_accounts.specs.Refusals.{IsTransient, IsMemoryBy, code_in}

-- SQLite answered this when the connection was closed. The definition is opaque, and only the one function that closes says it: so whoever can
-- say it closed, and got this answer
pub WasAnswered : {C : Type 0} → C → Result (Unit {0}) Error → Type 0
WasAnswered conn closed = Unit {0}

-- for the proof of that function alone, `file::close`: it is public since that proof is in a file of its own
pub was_answered : {C : Type 0} (conn : C) (closed : Result (Unit {0}) Error) → WasAnswered conn closed
unfolding WasAnswered
was_answered conn closed = tt

-- what is reported of such an answer: nothing after Ok, and after an error a refusal, lack of memory exactly if SQLite says so
abbrev pub IsToldOf : Result (Unit {0}) Error → Option Refusal → Type 0
IsToldOf (Ok done) told = told ≡ None
IsToldOf (Err error) told = (refusal : Refusal) × (told ≡ Some refusal) × IsTransient refusal × IsMemoryBy (code_in error) refusal

-- what is reported of a connection that was closed
abbrev pub IsToldOfClosing : {C : Type 0} → C → Option Refusal → Type 0
IsToldOfClosing conn told = (closed : Result (Unit {0}) Error) × WasAnswered conn closed × IsToldOf closed told

-- what SQLite said of the store's calls, or else of closing it
abbrev pub code_at_end : Option ErrorCode → Result (Unit {0}) Error → Option ErrorCode
code_at_end (Some code) closed = Some code
code_at_end None (Ok done) = None
code_at_end None (Err error) = code_in error
