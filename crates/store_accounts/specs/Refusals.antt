-- Which refusals a call may have.
use Rattle.std.specs.Prelude.{◌≡◌, ◌≢◌, ◌↔◌, ◌⊎◌, Option, Some, None}
use Rattle.sqlite.specs.declared.error.Error.{Error}
use Rattle.sqlite.specs.declared.error.Error.TheVariants.{SqliteFailure}
use Rattle.sqlite.specs.declared.error.ErrorCode.{ErrorCode}
use Rattle.sqlite.specs.declared.error.ErrorCode.TheVariants.{OutOfMemory}
use Rattle.store_accounts.specs.declared.refusal.Refusal.{Refusal}
use Rattle.store_accounts.specs.declared.refusal.Refusal.TheVariants.{Memory, Store}

-- lack of memory, or a failure of the store: these may come without visible cause
abbrev pub IsTransient : Refusal → Type 0
IsTransient e = (e ≡ Memory) ⊎ (e ≡ Store)

-- what SQLite says of a failure, if it says something
abbrev pub code_in : Error → Option ErrorCode
code_in (SqliteFailure code) = Some code
code_in _ = None

-- the refusal is lack of memory exactly if SQLite says so
abbrev pub IsMemoryBy : Option ErrorCode → Refusal → Type 0
IsMemoryBy code e = (e ≡ Memory) ↔ (code ≡ Some OutOfMemory)

-- what may be kept of a refusal as Store, or none: SQLite doesn't say that memory ran out, since that is a refusal as Memory
abbrev pub IsStoreCause : Option ErrorCode → Type 0
IsStoreCause cause = cause ≢ Some OutOfMemory

-- what is kept of a refused write: what SQLite said of it, and none if it said that memory ran out
pub record IsCauseIn (said cause : Option ErrorCode) : Type 0 where
  pub store : IsStoreCause said → cause ≡ said
  pub memory : said ≡ Some OutOfMemory → cause ≡ None
