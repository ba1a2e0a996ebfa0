-- Messages that move from a folder into a sink.
use Rattle.std.specs.Prelude.{◌≡◌, ◌⊎◌, ℕ, suc, ◌<◌, ◌≤◌, Bool, true, false, List, [], ◌∷◌, ◌++◌, codes, decimal, take, replicate, Option, Some, None, Result, Ok, Err, is_ok, IfErr, IsTrue, option_copied}
use Rattle.std.specs.Io.KnownBytes.{Keeps}
use Rattle.octets.specs.Decimal.{Writes}
use Rattle.sqlite.specs.Effect.{Database}
use Rattle.sqlite.specs.State.{State, HasCleanDisk, Survives}
use Rattle.store_accounts.specs.Account.{Account, Accounts, open_account_of, messages_in}
use Rattle.store_accounts.specs.Promises.{HasOpen, HasNoOpen}
use Rattle.store_accounts.specs.Schema.{no_schema}
use Rattle.store_tables.specs.Rows.{Tables}
use Rattle.maildir_files.specs.Kept.{kept_mail}
use Rattle.maildir_files.specs.declared.kept.KeptMail.{KeptMail}
use Rattle.maildir_files.specs.declared.sink.SinkError.{SinkError}
use Rattle.maildir_files.specs.declared.sink.SinkError.TheVariants as sink
use Rattle.store_accounts.specs.Shows.{Presents, OffersAccounts, ShowsAccounts, IsFirstOf, rows_of}
use Rattle.store_accounts.specs.declared.taking.NumberedMessage.{NumberedMessage}
use Rattle.managesieve_sessions.specs.Acts.{TurnsAccounts, CrashLeaves}
use Rattle.store_engine.specs.declared.event.Event.TheVariants.{TakeMail}
use Rattle.store_engine.specs.declared.answer.Answer.TheVariants.{MailTaken}
use Rattle.store_engine.specs.World.{Runs}
use Rattle.cli_subcommands.specs.declared.subcommand.drain.DrainArgs.{DrainArgs}
use Rattle.cli_reports.specs.Reports.{ended_line}
use Rattle.cli_run.specs.declared.fault.RunFault.{RunFault}
use Rattle.cli_run.specs.declared.fault.RunFault.TheVariants.{NoMaildir}
use Rattle.cli_run.specs.Faults.{no_user, status_of, IsHindered, IsPrinted}
use Rattle.cli_run.specs.Promise.{world_of_accounts}
use Rattle.cli_run.specs.Transitions.{StreamMove, TablesMove}
use Rattle.cli_run.specs.Values.{HasNoNumber}

-- the messages of an account's folder; none if there is no account
abbrev pub folder_mail : Option Account → List ℕ → List (List ℕ)
folder_mail None folder = []
folder_mail (Some a) folder = messages_in a.folders folder

-- the messages of the folder of the user's open account, in the order in which they came; none if there is no such account or
-- folder
abbrev pub mail_in : Accounts → List ℕ → List ℕ → List (List ℕ)
mail_in accounts user folder = folder_mail (open_account_of accounts user) folder

-- that many messages leave the user's folder, each the first of it: an event of the machine takes it, and is answered
abbrev pub Leave : List ℕ → List ℕ → ℕ → Accounts → Accounts → Type 0
Leave user folder count accounts later =
    Runs (world_of_accounts accounts) (replicate count (TakeMail user folder)) (replicate count MailTaken)
    (world_of_accounts later)

-- tables that show accounts have this as the first message of the user's folder, with this number
abbrev pub IsFirstMessage : List ℕ → List ℕ → NumberedMessage → Type 0
IsFirstMessage user folder first =
    (tables : Tables) × (accounts : Accounts) × ShowsAccounts tables accounts
    × IsFirstOf user folder (Some first) (rows_of user tables)

-- these are the messages, in order, each kept under its user, its folder and the number that it had in tables in which it was the
-- first there
abbrev pub AreFirsts : List ℕ → List ℕ → List KeptMail → List (List ℕ) → Type 0
AreFirsts user folder [] [] = Unit {0}
AreFirsts user folder (mail ∷ mails) (message ∷ messages) =
    (first : NumberedMessage) × IsFirstMessage user folder first
    × (mail ≡ kept_mail user folder first.number first.message first.flags) × (first.message ≡ message)
    × AreFirsts user folder mails messages
AreFirsts user folder mails messages = ⊥

-- what a sink keeps grew by these messages of the user's folder, at its end; if it doesn't tell what it keeps nothing is said
abbrev pub GrowsBy : List ℕ → List ℕ → Bool → List KeptMail → List KeptMail → List (List ℕ) → Type 0
GrowsBy user folder tells old new messages =
    IsTrue tells → (mails : List KeptMail) × (new ≡ old ++ mails) × AreFirsts user folder mails messages

-- it is as it was
abbrev pub StaysAsItWas : Bool → List KeptMail → List KeptMail → Type 0
StaysAsItWas tells old new = IsTrue tells → new ≡ old

-- tables of today's version show what the accounts became; or the tables are as they were, and so are the accounts
abbrev pub LeavesTables : Database → Database → Accounts → Accounts → Type 0
LeavesTables old new accounts later = Presents new later ⊎ ((new ≡ old) × (later ≡ accounts))

-- tables that offered accounts, of whichever version, then show what these became; a database without tables stays so
pub record TurnsTables (Became : Accounts → Accounts → Type 0) (old new : Database) : Type 0 where
  pub accounts : (accounts : Accounts) → OffersAccounts old accounts → (later : Accounts) × Became accounts later
      × LeavesTables old new accounts later
  pub none : old.schema ≡ no_schema → new.schema ≡ no_schema

-- ---- the user's folder, and a sink that grew by such messages
module _ (user folder : List ℕ) (Grew : List (List ℕ) → Type 0) where
  -- the first messages left the folder, that many, and the sink has exactly these more
  pub record Moved (count : ℕ) (accounts later : Accounts) : Type 0 where
    pub left : Leave user folder count accounts later
    pub kept : Grew (take count (mail_in accounts user folder))

  -- it ended early: the sink has those that left, and maybe the one after them, which is still in the folder
  pub record StoppedShort (count : ℕ) (accounts later : Accounts) : Type 0 where
    pub left : Leave user folder count accounts later
    pub kept : Grew (take count (mail_in accounts user folder)) ⊎ Grew (take (suc count) (mail_in accounts user folder))

  -- after a crash: each message that left is kept, maybe with others
  pub record LostNone (accounts later : Accounts) : Type 0 where
    pub count : ℕ
    pub left : Leave user folder count accounts later
    pub others : List (List ℕ)
    pub kept : Grew (take count (mail_in accounts user folder) ++ others)

  -- over a store: whatever accounts it showed, it then shows what these became; an open connection is still open if Ok was
  -- answered, and one that a fault of the disk has shut stays shut; and if it was open no crash loses a message
  pub record MovesMail (answers_ok : Bool) (Became : Accounts → Accounts → Type 0) (old new : State) : Type 0 where
    pub carries : TurnsAccounts Became old new
    pub live : IsTrue answers_ok → HasCleanDisk new → IsTrue old.is_open → IsTrue new.is_open
    pub shut : HasCleanDisk new → IsTrue new.is_open → IsTrue old.is_open
    pub crash : Survives old new (λ trees. IsTrue old.is_open → CrashLeaves LostNone old trees)

  -- ---- the first message

  -- it moved; or the folder has none; after a refusal it is still in the folder
  abbrev pub FirstMoved : Result Bool RunFault → Accounts → Accounts → Type 0
  FirstMoved (Ok true) accounts later = Moved 1 accounts later
  FirstMoved (Ok false) accounts later = Moved 0 accounts later × (mail_in accounts user folder ≡ [])
  FirstMoved (Err fault) accounts later = StoppedShort 0 accounts later

  -- ---- all of them, or as many of the first ones as are asked for

  pub record AllMoved (most count : ℕ) (accounts later : Accounts) : Type 0 where
    pub moved : Moved count accounts later
    pub at_most : count ≤ most
    pub whole : count < most → mail_in later user folder ≡ []

  -- after a refusal that many had moved
  abbrev pub AnyMoved : ℕ → Result ℕ RunFault → Accounts → Accounts → Type 0
  AnyMoved most (Ok count) accounts later = AllMoved most count accounts later
  AnyMoved most (Err fault) accounts later = (count : ℕ) × StoppedShort count accounts later × (count ≤ most)

  -- before any message has left, and none is kept
  abbrev pub NothingMoved : ℕ → Type 0
  NothingMoved count = (count ≡ 0) × Grew []

  -- it broke off with a fault, after no more messages than were asked for; a fault that another try can't help comes before
  -- anything moved
  abbrev pub BrokeOff : ℕ → RunFault → Accounts → Accounts → Type 0
  BrokeOff most fault accounts later =
      (count : ℕ) × StoppedShort count accounts later × (count ≤ most) × (NothingMoved count ⊎ (status_of fault ≡ 75))

  -- for a user who has an open account
  abbrev pub Drained : ℕ → Result ℕ RunFault → Accounts → Accounts → Type 0
  Drained most (Ok count) accounts later = HasOpen user accounts × AllMoved most count accounts later
  Drained most (Err fault) accounts later = BrokeOff most fault accounts later

-- ---- a call over a store, and a sink that tells what it keeps or doesn't, before and afterwards

-- whether a sink tells what it keeps, and what it kept before and afterwards
pub record SinkMails : Type 0 where
  pub tells : Bool
  pub had : List KeptMail
  pub has : List KeptMail

abbrev pub sink_mails : Bool → List KeptMail → List KeptMail → SinkMails
sink_mails tells had has = record { tells = tells; had = had; has = has }

-- it grew by such messages of the user's folder
abbrev pub SinkGrew : List ℕ → List ℕ → SinkMails → List (List ℕ) → Type 0
SinkGrew user folder sink = GrowsBy user folder sink.tells sink.had sink.has

abbrev pub DrainsFirst : List ℕ → List ℕ → SinkMails → Result Bool RunFault → State → State → Type 0
DrainsFirst user folder sink result =
    MovesMail user folder (SinkGrew user folder sink) (is_ok result) (FirstMoved user folder (SinkGrew user folder sink) result)

abbrev pub MovesAll : List ℕ → List ℕ → SinkMails → ℕ → Result ℕ RunFault → State → State → Type 0
MovesAll user folder sink most result =
    MovesMail user folder (SinkGrew user folder sink) (is_ok result)
    (AnyMoved user folder (SinkGrew user folder sink) most result)

-- and there is no such user if that is the fault
abbrev pub Drains : List ℕ → List ℕ → SinkMails → ℕ → Result ℕ RunFault → State → State → Type 0
Drains user folder sink most result =
    MovesMail user folder (SinkGrew user folder sink) (is_ok result)
    (λ accounts later. Drained user folder (SinkGrew user folder sink) most result accounts later
    × (result ≡ Err no_user → HasNoOpen user accounts))

-- ---- the subcommand

-- as many as the digits say; all without digits, but at most 18,446,744,073,709,551,615
abbrev pub IsMost : Option (List ℕ) → ℕ → Type 0
IsMost None most = most ≡ 18446744073709551615
IsMost (Some digits) most = Writes digits most

-- what is printed
abbrev pub drained_line : ℕ → List ℕ
drained_line count = ended_line (codes "drained " ++ decimal count)

-- some sink refused a call with this error
abbrev pub HasRefused : {T : Type 0} → (T → SinkError → Type 0) → SinkError → Type 0
HasRefused refuses error = (asked : _) × refuses asked error

-- a sink refused a call
abbrev pub IsUnkept : (SinkError → Type 0) → Type 0
IsUnkept Sunk = (error : SinkError) × Sunk error

-- why a folder isn't drained to its end: no open account has the name; the place for the messages is no Maildir; or the
-- subcommand is hindered, by the sink too
abbrev pub StopsDraining : (SinkError → Type 0) → Type 0 → (RunFault → Type 0) → List ℕ → RunFault → Accounts → Type 0
StopsDraining Sunk Wrong Denied user fault accounts =
    IsHindered (IsUnkept Sunk) Wrong Denied fault ⊎ ((fault ≡ NoMaildir) × Sunk sink.NoMaildir × (Wrong → ⊥))
    ⊎ ((fault ≡ no_user) × HasNoOpen user accounts × (Wrong → ⊥))

-- over tables: their store was drained, and if it wasn't to its end the cause is reported
abbrev pub MovesTables : (SinkError → Type 0) → (RunFault → Type 0) → DrainArgs → SinkMails → ℕ → Result ℕ RunFault → TablesMove
    → Type 0
MovesTables Sunk Denied asked sink most result tables =
    TurnsTables (λ accounts later. Drained asked.user.now asked.folder.now
    (SinkGrew asked.user.now asked.folder.now sink) most result accounts later
    × IfErr result (λ fault. StopsDraining Sunk ⊥ Denied asked.user.now fault accounts))
    tables.old tables.new

-- after Ok the subcommand did what it was asked for, and printed how many messages moved; after a fault those that moved stay
-- moved, nothing is printed, and the cause is reported; or that line wasn't printed whole
abbrev pub WordDrained : (SinkError → Type 0) → (RunFault → Type 0) → DrainArgs → (List (List ℕ) → Type 0) → Option (List ℕ)
    → Option (List ℕ) → Result (Unit {0}) RunFault → Accounts → Accounts → Type 0
WordDrained Sunk Denied asked Grew old new (Ok done) accounts later =
    (most : ℕ) × (count : ℕ) × IsMost (option_copied asked.most) most
    × Drained asked.user.now asked.folder.now Grew most (Ok count) accounts later × IsPrinted (Ok tt) old new (drained_line count)
WordDrained Sunk Denied asked Grew old new (Err fault) accounts later =
    (most : ℕ) × (IsMost (option_copied asked.most) most ⊎ (most ≡ 0))
    × (broke : BrokeOff asked.user.now asked.folder.now Grew most fault accounts later)
    × ((Keeps old new × StopsDraining Sunk (HasNoNumber (option_copied asked.most)) Denied asked.user.now fault accounts)
    ⊎ IsPrinted (Err fault) old new (drained_line broke.0))

-- and over tables
abbrev pub HasDrained : (SinkError → Type 0) → (RunFault → Type 0) → DrainArgs → SinkMails → StreamMove
    → Result (Unit {0}) RunFault → TablesMove → Type 0
HasDrained Sunk Denied asked sink output result tables =
    TurnsTables (WordDrained Sunk Denied asked (SinkGrew asked.user.now asked.folder.now sink) output.old output.new result)
    tables.old tables.new
