-- What `export` writes of an account's text, a part at a time, and where it breaks off.
use Rattle.std.specs.Prelude.{◌≡◌, ◌⊎◌, ◌+◌, ◌++◌, ℕ, List, length, Option, Some, Result, Ok, Err, OnOk}
use Rattle.std.specs.FinMap.{empty, get}
use Rattle.std.specs.List.{flat_map}
use Rattle.std.specs.Io.KnownBytes.{Appends}
use Rattle.store_text.specs.Text.{account_body, part_line, account_text}
use Rattle.store_text.specs.Writing.{HasWritten}
use Rattle.store_text.specs.declared.head.AccountHead.{AccountHead}
use Rattle.store_text.specs.declared.part.Part.{Part}
use Rattle.store_text.specs.declared.writing.Writer.{Writer}
use Rattle.store_export.specs.Reading.{AreRead}
use Rattle.store_export.specs.declared.contents.Contents.{Contents}
use Rattle.sqlite.specs.State.{State, HasCleanDisk}
use Rattle.store_accounts.specs.Account.{Account}
use Rattle.store_accounts.specs.Promises.{KeepsTables, OverAccounts}
use Rattle.store_accounts.specs.Whole.{whole}
use Rattle.cli_run.specs.Faults.{IsPrinted, IsTextPut, IsSudden}
use Rattle.cli_run.specs.Streams.{AppendsFront}
use Rattle.cli_run.specs.Transitions.{StreamMove, Transition}
use Rattle.cli_run.specs.declared.fault.RunFault.{RunFault}

-- ---- the text of an account, if writing broke off

-- what is in the text of this user's account was written like this
pub record HasTold (user : List ℕ) (Written : AccountHead → List Part → Type 0) (a : Account) : Type 0 where
  pub head : AccountHead
  pub parts : List Part
  pub named : head.owner.name ≡ user
  pub makes : whole head parts empty ≡ a
  pub written : Written head parts

-- a prefix of the text was written: before its sum, if memory was refused or the store failed; up to the write that failed
abbrev pub BrokeIn : Option (List ℕ) → Option (List ℕ) → RunFault → AccountHead → List Part → Type 0
BrokeIn old new fault head parts =
    (IsSudden ⊥ fault × AppendsFront old new (account_body head parts)) ⊎ IsPrinted (Err fault) old new (account_text head parts)

-- it broke off in the text of this account
abbrev pub IsCutOff : List ℕ → Option (List ℕ) → Option (List ℕ) → RunFault → Account → Type 0
IsCutOff user old new fault = HasTold user (BrokeIn old new fault)

-- ---- some of its parts

-- a text was written; or a prefix of it, since memory was refused, the store failed, or a write of it did
abbrev pub PutsSome : Result (Unit {0}) RunFault → Option (List ℕ) → Option (List ℕ) → List ℕ → Type 0
PutsSome (Ok done) old new text = Appends old new text
PutsSome (Err fault) old new text = (IsSudden ⊥ fault × AppendsFront old new text) ⊎ IsTextPut (Err fault) old new text

-- if the parts before this place were read, these are the next ones
abbrev pub PartsGoOn : Contents → ℕ → List Part → State → Type 0
PartsGoOn contents at parts old =
    OverAccounts old (λ accounts. (a : Account) → get accounts contents.head.owner.name ≡ Some a
    → (early : List Part) → length early ≡ at → AreRead contents early old.now a → AreRead contents (early ++ parts) old.now a)

-- the parts from one place to another were read and written; after a fault the first ones of them
pub record PutsParts (contents : Contents) (from until : ℕ) (writer : Transition Writer) (output : StreamMove)
    (store : Transition State) (result : Result (Unit {0}) RunFault) : Type 0 where
  pub keeps : KeepsTables store.old store.new result
  pub parts : List Part
  pub all : OnOk result (from + length parts ≡ until)
  pub read : HasCleanDisk store.new → PartsGoOn contents from parts store.old
  pub put : PutsSome result output.old output.new (flat_map part_line parts)
  pub hashed : OnOk result ((text : List ℕ) → HasWritten writer.old text
      → HasWritten writer.new (text ++ flat_map part_line parts))
