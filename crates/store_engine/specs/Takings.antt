-- Messages that leave a folder together, in one transaction.
use Rattle.std.specs.Prelude.{◌≡◌, ◌≢◌, ◌≤◌, ◌⊎◌, ℕ, zero, suc, List, [], ◌∷◌, map, take, length, slice_get, Ok, Err, Result, IfOk}
use Rattle.sqlite.specs.State.{State, HasCleanDisk}
use Rattle.store_tables.specs.Rows.{Tables}
use Rattle.store_accounts.specs.declared.taking.NumberedMessage.{NumberedMessage}
use Rattle.store_accounts.specs.declared.refusal.Refusal.{Refusal}
use Rattle.store_accounts.specs.declared.refusal.Refusal.TheVariants.{NoUser, NoRow}
use Rattle.store_accounts.specs.Account.{Account, Accounts, messages_in, folder_flags}
use Rattle.store_accounts.specs.CopyRows.{Copy, copies_in, numbered_of}
use Rattle.store_accounts.specs.Promises.{HasNoOpen, OfOpen, OverTables, ReadsOwn}
use Rattle.store_accounts.specs.Shows.{rows_of, OfCopies}
use Rattle.managesieve_sessions.specs.Acts.{Acts}
use Rattle.store_engine.specs.declared.answer.Answer.TheVariants.{MailTaken}
use Rattle.store_engine.specs.declared.event.Event.TheVariants.{TakeMail}
use Rattle.store_engine.specs.AccountEvents.{MailTaking}
use Rattle.store_engine.specs.World.{World, Runs}

-- how many messages leave together at most
abbrev pub max_together : ℕ
max_together = 64

-- ---- what they are to the accounts

-- so many events `TakeMail`, one after the other, each answered `MailTaken`
abbrev pub MailTakings : ℕ → List ℕ → List ℕ → Accounts → Accounts → Type 0
MailTakings zero user folder accounts later = later ≡ accounts
MailTakings (suc n) user folder accounts later = (next : Accounts) × MailTaking accounts user folder MailTaken next × MailTakings n user folder next later

-- the account's folder begins with these messages, in this order and with these flags
pub record HasFirstMails (folder : List ℕ) (mails : List NumberedMessage) (a : Account) : Type 0 where
  pub messages : take (length mails) (messages_in a.folders folder) ≡ map (λ m. m.message) mails
  pub flags : take (length mails) (folder_flags a.flags folder) ≡ map (λ m. m.flags) mails

-- the folder of the user's open account begins with them
abbrev pub AreFirstMails : Accounts → List ℕ → List ℕ → List NumberedMessage → Type 0
AreFirstMails accounts user folder mails = OfOpen accounts user (HasFirstMails folder mails)

-- the first n of these messages, with which the folder begins, leave it
pub record LosesMails (user folder : List ℕ) (mails : List NumberedMessage) (n : ℕ) (accounts later : Accounts) : Type 0 where
  pub some : 1 ≤ n
  pub told : n ≤ length mails
  pub few : n ≤ max_together
  pub first : AreFirstMails accounts user folder (take n mails)
  pub taken : MailTakings n user folder accounts later

-- nothing leaves; NoUser is answered only if the user has no open account
pub record KeepsMails (user : List ℕ) (refusal : Refusal) (accounts later : Accounts) : Type 0 where
  pub absent : refusal ≡ NoUser → HasNoOpen user accounts
  pub stays : later ≡ accounts

-- how the accounts turn where this is answered: as many leave as it says, or none
abbrev pub TurnsMailTakings : List ℕ → List ℕ → List NumberedMessage → Result ℕ Refusal → Accounts → Accounts → Type 0
TurnsMailTakings user folder mails (Ok n) accounts later = LosesMails user folder mails n accounts later
TurnsMailTakings user folder mails (Err refusal) accounts later = KeepsMails user refusal accounts later

-- what a crash may leave of it: as many have left as it says; where it was refused, as many as it was about to take
abbrev pub MayTurnMailTakings : List ℕ → List ℕ → List NumberedMessage → Result ℕ Refusal → Accounts → Accounts → Type 0
MayTurnMailTakings user folder mails (Ok n) accounts later = LosesMails user folder mails n accounts later
MayTurnMailTakings user folder mails (Err refusal) accounts later = (n : ℕ) × LosesMails user folder mails n accounts later

-- how taking these messages out of a folder changes the store
abbrev pub ActsMailTakings : List ℕ → List ℕ → List NumberedMessage → State → State → Result ℕ Refusal → Type 0
ActsMailTakings user folder mails old new result = Acts (TurnsMailTakings user folder mails result) (MayTurnMailTakings user folder mails result) old new result

-- ---- which they are, by their numbers

-- there the run ends: with the last of these messages, with as many as leave together, or where the folder has no more or another one
abbrev pub EndsRun : List NumberedMessage → List NumberedMessage → ℕ → Type 0
EndsRun there mails n = (n ≡ length mails) ⊎ (n ≡ max_together) ⊎ (slice_get there n ≢ slice_get mails n)

-- the first n of these messages are the folder's first, with their numbers and flags, and there are no more such
pub record IsLongestRun (there mails : List NumberedMessage) (n : ℕ) : Type 0 where
  pub same : take n there ≡ take n mails
  pub ends : EndsRun there mails n

-- the folder's messages, with the numbers of their copies and their flags
abbrev pub mails_in : List ℕ → List Copy → List NumberedMessage
mails_in folder copies = map numbered_of (copies_in folder copies)

-- by the user's rows the first n of these are the longest run
abbrev pub AreLongest : List ℕ → List ℕ → List NumberedMessage → ℕ → Tables → Type 0
AreLongest user folder mails n own = OfCopies user own (λ copies. IsLongestRun (mails_in folder copies) mails n)

-- how many of these messages are the folder's first, as a read of an open account's rows
pub record CountsFirst (user folder : List ℕ) (mails : List NumberedMessage) (old new : State) (result : Result ℕ Refusal) : Type 0 where
  pub reads : ReadsOwn user (AreLongest user folder mails) old new result
  pub few : IfOk result (λ n. n ≤ max_together)
  pub told : IfOk result (λ n. n ≤ length mails)

-- by the user's rows as they were: the messages that left are the longest run of these; NoRow is answered only if it is empty
abbrev pub TakesLongestRun : List ℕ → List ℕ → List NumberedMessage → State → State → Result ℕ Refusal → Type 0
TakesLongestRun user folder mails old new (Ok n) =
    HasCleanDisk new → OverTables old (λ tables. AreLongest user folder mails n (rows_of user tables))
TakesLongestRun user folder mails old new (Err refusal) =
    HasCleanDisk new → OverTables old (λ tables. refusal ≡ NoRow → OfCopies user (rows_of user tables) (λ copies. EndsRun (mails_in folder copies) mails 0))

-- ---- as a run of the machine

-- the same thing so many times
abbrev pub times : {X : Type 0} → ℕ → X → List X
times zero x = []
times (suc n) x = x ∷ times n x

-- from this world on, these events with these answers make of the accounts those, and the sessions stay
abbrev pub RunsMailTakings : ℕ → List ℕ → List ℕ → World → Accounts → Type 0
RunsMailTakings n user folder w later = Runs w (times n (TakeMail user folder)) (times n MailTaken) (record { accounts = later; sessions = w.sessions })
