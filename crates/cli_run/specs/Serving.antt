-- One session over a reader, a writer and a keeper: in rounds, and what they leave.
use Rattle.std.specs.Prelude.{◌≡◌, ◌⊎◌, ℕ, ◌≤◌, Bool, true, false, List, [], ◌∷◌, ◌++◌, length, Option, Some, None, Result, Ok, Err, IfErr, IfSome, IsTrue, is_some}
use Rattle.std.specs.Option.{option_copied}
use Rattle.std.specs.List.{flat_map}
use Rattle.std.specs.Io.KnownBytes.{Appends, Consumes, IsAtEnd}
use Rattle.sqlite.specs.Effect.{Database}
use Rattle.managesieve_protocol.specs.Replies.{reply_octets}
use Rattle.store_accounts.specs.Account.{Accounts}
use Rattle.store_accounts.specs.Schema.{no_schema}
use Rattle.store_accounts.specs.Shows.{Presents, OffersAccounts}
use Rattle.store_accounts.specs.declared.refusal.Refusal.{Refusal}
use Rattle.managesieve_sessions.specs.declared.progress.Progress.{Progress}
use Rattle.managesieve_sessions.specs.Clients.{Client, new_client, client_given, is_ready}
use Rattle.managesieve_sessions.specs.GivenUp.{text_given_up, client_given_up}
use Rattle.managesieve_sessions.specs.Refusing.{WasRefused}
use Rattle.managesieve_sessions.specs.Replies.{capability_reply}
use Rattle.managesieve_sessions.specs.Steps.{IsStep}
use Rattle.store_lock.specs.declared.keeper.StoreUnavailable.{StoreUnavailable}
use Rattle.store_lock.specs.declared.keeper.StoreUnavailable.TheVariants.{Busy}
use Rattle.cli_subcommands.specs.declared.location.StoreLocation.{StoreLocation}
use Rattle.cli_run.specs.declared.fault.RunFault.{RunFault}
use Rattle.cli_run.specs.declared.fault.RunFault.TheVariants.{Refused}
use Rattle.cli_run.specs.Faults.{IsCutShort, cause_line, denial_fault, run_fault_line, store_failed}
use Rattle.cli_run.specs.Promise.{status_after}
use Rattle.cli_run.specs.Streams.{AppendsFront, InTurn, IsWritten}
use Rattle.cli_run.specs.Transitions.{StreamMove, TablesMove, Transition, from_to}
use Rattle.cli_run.specs.declared.fault_with_cause.FirstFault.{FirstFault}
use Rattle.cli_run.specs.declared.fault_with_cause.FaultWithCause.{FaultWithCause}

-- a piece of the client's octets has at most that many
abbrev pub max_client_piece : ℕ
max_client_piece = 4096

-- one round: what came from the client, what was said to it, and the accounts and the client after it
pub record Round : Type 0 where
  pub came : List ℕ
  pub said : List ℕ
  pub accounts : Accounts
  pub client : Client

-- a piece came to a session that isn't closed, while nothing was to be answered
pub record RoundHears (accounts : Accounts) (c : Client) (r : Round) : Type 0 where
  pub live : c.closed ≡ false
  pub waits : is_ready c ≡ false
  pub short : length r.came ≤ max_client_piece
  pub silent : r.said ≡ []
  pub joins : r.client ≡ client_given r.came c
  pub same : r.accounts ≡ accounts

-- a step has this answer whatever the accounts are, and changes none: it asks no store
abbrev pub AsksNothing : Client → List ℕ → Client → Type 0
AsksNothing c said d = (progress : Progress) × ((accounts : Accounts) → IsStep accounts c progress said d accounts)

-- the first item was answered by a step, over a store that was given if the step asks one
pub record RoundSteps (Given : Type 0) (accounts : Accounts) (c : Client) (r : Round) : Type 0 where
  pub ready : is_ready c ≡ true
  pub none : r.came ≡ []
  pub progress : Progress
  pub step : IsStep accounts c progress r.said r.client r.accounts
  pub reach : AsksNothing c r.said r.client ⊎ Given

-- some keeper that waits as the location says refused the lock, which wasn't out, or its store at this path
abbrev pub IsDenied : {K : Type 0} → (K → List ℕ → StoreUnavailable → Type 0) → (K → Bool) → StoreLocation → Type 0
IsDenied refuses waits location =
    (keeper : _) × (denial : StoreUnavailable) × refuses keeper location.path.now denial × (waits keeper ≡ location.waits)

-- some keeper refused this with this denial
abbrev pub IsDeniedBy : {K : Type 0} → (K → List ℕ → StoreUnavailable → Type 0) → (K → Bool) → StoreLocation → StoreUnavailable
    → Type 0
IsDeniedBy refuses waits location denial =
    (keeper : _) × refuses keeper location.path.now denial × (waits keeper ≡ location.waits)

-- the same, and this fault tells why
abbrev pub HasDenied : {K : Type 0} → (K → List ℕ → StoreUnavailable → Type 0) → (K → Bool) → StoreLocation → RunFault → Type 0
HasDenied refuses waits location fault =
    (keeper : _) × (denial : StoreUnavailable) × refuses keeper location.path.now denial × (waits keeper ≡ location.waits)
    × (fault ≡ denial_fault denial)

-- some keeper that waits as the location says gave its store out at this path
abbrev pub HasGiven : {K : Type 0} → (K → List ℕ → Type 0) → (K → Bool) → StoreLocation → Type 0
HasGiven gives waits location = (keeper : _) × gives keeper location.path.now × (waits keeper ≡ location.waits)

-- such a keeper did, and a store is open
abbrev pub HasOpenStore : {K X : Type 0} → (K → List ℕ → Type 0) → (K → Bool) → StoreLocation → Option X → Type 0
HasOpenStore gives waits location store = HasGiven gives waits location × IsTrue (is_some store)

-- a keeper took a store back and closed it; if it couldn't be closed this holds: it is noted, or reported
abbrev pub HasClosed : {K S : Type 0} → (K → S → Option Refusal → Type 0) → Type 0 → Type 0
HasClosed closes Told =
    (keeper : _) × (store : _) × (came : Option Refusal) × closes keeper store came × (IsTrue (is_some came) → Told)

-- a keeper that waits as the location says gave its store out at this path, and one took it back like this
abbrev pub WasOut : {K S : Type 0} → (K → List ℕ → Type 0) → (K → Bool) → (K → S → Option Refusal → Type 0) → StoreLocation
    → Type 0 → Type 0
WasOut gives waits closes location Told = HasGiven gives waits location × HasClosed closes Told

-- why the first item can't be answered: the lock or the store was denied, or its step was refused
abbrev pub Hinders : Type 0 → Client → Type 0
Hinders Denied c = Denied ⊎ WasRefused c

-- this many octets of answers, or more, aren't held back for those of other commands
abbrev pub largest_wait : ℕ
largest_wait = 65536

-- something was ready
abbrev pub StoodReady : Client → Client → Type 0
StoodReady c d = is_ready c ≡ true

-- when answering stops: nothing is ready, this much waits to be written, or the largest number of answers was given
abbrev pub StopsAt : Client → List ℕ → Client → Type 0
StopsAt c waits d = (is_ready d ≡ false) ⊎ (largest_wait ≤ length waits) ⊎ InTurn StoodReady c 18446744073709551615 d

-- of the faults of a connection the first is kept, and whether it was reported
abbrev pub KeepsFirst : FirstFault → FirstFault → Type 0
KeepsFirst old new = (new.is_told ≡ old.is_told) × IfSome old.fault (λ first. new.fault ≡ Some first)

-- a fault is noted
abbrev pub HasNoted : FirstFault → Type 0
HasNoted noted = IsTrue (is_some noted.fault)

-- a refusal of the store is the fault that is noted
abbrev pub IsRefusalNoted : FirstFault → Option Refusal → Type 0
IsRefusalNoted noted refusal = IfSome refusal (λ refusal. IfSome noted.fault (λ first. first.fault ≡ Refused refusal))

-- and if the store failed, what is said of that is noted as its cause
abbrev pub IsCauseNoted : Option (List ℕ) → FirstFault → Option Refusal → Type 0
IsCauseNoted said noted refusal =
    IfSome refusal (λ refusal. Refused refusal ≡ store_failed → IfSome noted.fault (λ first. option_copied first.cause ≡ said))

-- a fault is noted; or another process had the store, which is no fault
abbrev pub IsDenialNoted : (StoreUnavailable → Type 0) → FirstFault → Type 0
IsDenialNoted Denied noted = HasNoted noted ⊎ Denied Busy

-- a fault was reported this far: its lines were written, or writing broke off in them
abbrev pub IsTold : Option (List ℕ) → Option (List ℕ) → Type 0
IsTold old new =
    (fault : FaultWithCause) × IsWritten old new (run_fault_line fault.fault ++ cause_line (option_copied fault.cause))

-- at most one fault was reported
abbrev pub TellsOne : Option (List ℕ) → Option (List ℕ) → Type 0
TellsOne old new = (new ≡ old) ⊎ IsTold old new

-- why the session broke off was reported
abbrev pub TellsEnding : Result (Unit {0}) RunFault → Option (List ℕ) → Option (List ℕ) → Type 0
TellsEnding (Ok done) old new = new ≡ old
TellsEnding (Err fault) old new = IsWritten old new (run_fault_line fault)

-- a session ended with this status: at most one fault of the store was reported, and then why the session broke off, if it did
abbrev pub EndsSession : (Type 0 → Result (Unit {0}) RunFault → Type 0) → StreamMove → ℕ → Type 0
EndsSession Serves errors status =
    (ending : Result (Unit {0}) RunFault) × (told : Option (List ℕ)) × (status ≡ status_after ending) × IfErr ending IsCutShort
    × TellsOne errors.old told × TellsEnding ending told errors.new × Serves (IsTold errors.old told) ending

-- why the first item can't be answered, and this holds: it is noted, or reported; it needn't be if another process had the store
abbrev pub StopsServing : {K : Type 0} → (K → List ℕ → StoreUnavailable → Type 0) → (K → Bool) → StoreLocation → Type 0 → Client
    → Type 0
StopsServing refuses waits location Told c =
    Hinders (IsDenied refuses waits location) c × (Told ⊎ IsDeniedBy refuses waits location Busy)

-- nothing was given up
abbrev pub Unstopped : Client → Type 0
Unstopped c = ⊥

-- the first item can't be answered now, for such a cause, and was given up
pub record GivesUp (Stopped : Client → Type 0) (accounts : Accounts) (c : Client) (r : Round) : Type 0 where
  pub ready : is_ready c ≡ true
  pub none : r.came ≡ []
  pub cause : Stopped c
  pub told : r.said ≡ text_given_up c
  pub drops : r.client ≡ client_given_up c
  pub same : r.accounts ≡ accounts

abbrev pub IsRound : (Client → Type 0) → Type 0 → Accounts → Client → Round → Type 0
IsRound Stopped Given accounts c r = RoundHears accounts c r ⊎ (RoundSteps Given accounts c r ⊎ GivesUp Stopped accounts c r)

-- rounds in order lead from accounts and a client to these
abbrev pub RoundsLead : (Client → Type 0) → Type 0 → Accounts → Client → List Round → Accounts → Client → Type 0
RoundsLead Stopped Given accounts c [] later d = (later ≡ accounts) × (d ≡ c)
RoundsLead Stopped Given accounts c (r ∷ rounds) later d =
    IsRound Stopped Given accounts c r × RoundsLead Stopped Given r.accounts r.client rounds later d

-- all that came in the rounds, and all that was said
abbrev pub came_in : List Round → List ℕ
came_in rounds = flat_map (λ r. r.came) rounds

abbrev pub said_in : List Round → List ℕ
said_in rounds = flat_map (λ r. r.said) rounds

-- the octets that a reader had left begin with these
abbrev pub LeftBeginsWith : Option (List ℕ) → List ℕ → Type 0
LeftBeginsWith None text = Unit {0}
LeftBeginsWith (Some left) text = (rest : List ℕ) × (left ≡ text ++ rest)

-- rounds lead from accounts and a client to these, and this holds of the accounts
pub record RoundsPass (Stopped : Client → Type 0) (Given : Type 0) (accounts : Accounts) (c : Client) (rounds : List Round)
    (d : Client) (Shown : Accounts → Type 0) : Type 0 where
  pub later : Accounts
  pub leads : RoundsLead Stopped Given accounts c rounds later d
  pub shown : Shown later

-- rounds in which nothing came led here: what waits to be written grew by what was said
pub record RoundsAnswer (Stopped : Client → Type 0) (Given : Type 0) (accounts : Accounts) (client : Transition Client)
    (waits : Transition (List ℕ)) (Shown : Accounts → Type 0) : Type 0 where
  pub rounds : List Round
  pub passes : RoundsPass Stopped Given accounts client.old rounds client.new Shown
  pub none : came_in rounds ≡ []
  pub joins : waits.new ≡ waits.old ++ said_in rounds

-- rounds in which nothing came led here, the tables offer the accounts, and what was said is written
pub record RoundsWrite (Stopped : Client → Type 0) (Given : Type 0) (accounts : Accounts) (client : Transition Client)
    (output : StreamMove) (new : Database) : Type 0 where
  pub rounds : List Round
  pub passes : RoundsPass Stopped Given accounts client.old rounds client.new (OffersAccounts new)
  pub none : came_in rounds ≡ []
  pub written : Appends output.old output.new (said_in rounds)

-- the same if a write failed: a prefix is written
pub record Interrupted (Stopped : Client → Type 0) (Given : Type 0) (accounts : Accounts) (c : Client) (output : StreamMove)
    (new : Database) : Type 0 where
  pub rounds : List Round
  pub client : Client
  pub passes : RoundsPass Stopped Given accounts c rounds client (OffersAccounts new)
  pub none : came_in rounds ≡ []
  pub written : AppendsFront output.old output.new (said_in rounds)

-- the first item was answered and the answer written, or a write failed
abbrev pub WritesFirst : (Client → Type 0) → Type 0 → Accounts → Transition Client → StreamMove → Database
    → Result (Unit {0}) RunFault → Type 0
WritesFirst Stopped Given accounts client output new (Ok done) = RoundsWrite Stopped Given accounts client output new
WritesFirst Stopped Given accounts client output new (Err fault) = Interrupted Stopped Given accounts client.old output new

-- all complete items were answered and the answers written, or a write failed
abbrev pub WritesAll : (Client → Type 0) → Type 0 → Accounts → Transition Client → StreamMove → Database
    → Result (Unit {0}) RunFault → Type 0
WritesAll Stopped Given accounts client output new (Ok done) =
    RoundsWrite Stopped Given accounts client output new × (is_ready client.new ≡ false)
WritesAll Stopped Given accounts client output new (Err fault) = Interrupted Stopped Given accounts client.old output new

-- whatever accounts the tables offered, the first item was answered over them
abbrev pub AnswersFirst : (Client → Type 0) → Type 0 → Transition Client → StreamMove → TablesMove
    → Result (Unit {0}) RunFault → Type 0
AnswersFirst Stopped Given client output tables result =
    (accounts : Accounts) → OffersAccounts tables.old accounts
    → WritesFirst Stopped Given accounts client output tables.new result

-- whatever accounts the tables offered, all complete items were answered over them
abbrev pub AnswersAll : (Client → Type 0) → Type 0 → Transition Client → StreamMove → TablesMove
    → Result (Unit {0}) RunFault → Type 0
AnswersAll Stopped Given client output tables result =
    (accounts : Accounts) → OffersAccounts tables.old accounts
    → WritesAll Stopped Given accounts client output tables.new result

-- what is seen: what an open store sees, or else what is held
abbrev pub database_seen : {X : Type 0} → (X → Database) → Database → Option X → Database
database_seen sees held None = held
database_seen sees held (Some store) = sees store

-- what is seen shows accounts: an open store, which was given, presents them, or else what is held offers them
abbrev pub AreSeen : {X : Type 0} → Type 0 → (X → Database) → Database → Option X → Accounts → Type 0
AreSeen Given sees held None accounts = OffersAccounts held accounts
AreSeen Given sees held (Some store) accounts = Given × Presents (sees store) accounts

-- an open store was given, and presents whatever accounts were seen
abbrev pub PresentsSeen : Type 0 → (Accounts → Type 0) → Database → Type 0
PresentsSeen Given Seen now = (accounts : Accounts) → Seen accounts → Given × Presents now accounts

-- a step of the session was made, over a store that was given if it asks one, and its answer waits after those before; or nothing
-- changed
abbrev pub StepsOrStays : Type 0 → Accounts → Transition Client → Transition (List ℕ) → (Accounts → Type 0) → Bool → Type 0
StepsOrStays Given accounts client waits Shown true =
    (progress : Progress) × (octets : List ℕ) × (later : Accounts) × (waits.new ≡ waits.old ++ octets)
    × IsStep accounts client.old progress octets client.new later × Shown later
    × (AsksNothing client.old octets client.new ⊎ Given)
StepsOrStays Given accounts client waits Shown false = (client.new ≡ client.old) × (waits.new ≡ waits.old) × Shown accounts

-- whatever accounts were seen, a step was made over them, or nothing changed; afterwards those that they became are seen
abbrev pub StepsSeen : {X : Type 0} → Type 0 → Type 0 → (X → Database) → TablesMove → Transition (Option X) → Transition Client
    → Transition (List ℕ) → Bool → Type 0
StepsSeen Given Open sees tables store client waits made =
    (accounts : Accounts) → AreSeen Given sees tables.old store.old accounts
    → StepsOrStays Open accounts client waits (AreSeen Given sees tables.new store.new) made

-- the same of rounds in which nothing came: what was said in them waits to be written
abbrev pub AnswersSeen : {X : Type 0} → Type 0 → Type 0 → (X → Database) → TablesMove → Transition (Option X) → Transition Client
    → Transition (List ℕ) → Type 0
AnswersSeen Given Open sees tables store client waits =
    (accounts : Accounts) → AreSeen Given sees tables.old store.old accounts
    → RoundsAnswer Unstopped Open accounts client waits (AreSeen Given sees tables.new store.new)

-- a session led here from the greeting on: all that came was read and all that was said is written, and nothing that came is left
-- to be answered
pub record Served (Stopped : Client → Type 0) (Given : Type 0) (accounts : Accounts) (input output : StreamMove) (c : Client)
    (new : Database) : Type 0 where
  pub rounds : List Round
  pub passes : RoundsPass Stopped Given accounts new_client rounds c (OffersAccounts new)
  pub read : Consumes input.old input.new (came_in rounds)
  pub written : Appends output.old output.new (reply_octets (capability_reply None) ++ said_in rounds)
  pub answered : is_ready c ≡ false

-- the session ended: it is closed, or the input is at its end
pub record Ends (Stopped : Client → Type 0) (Given : Type 0) (accounts : Accounts) (input output : StreamMove)
    (new : Database) : Type 0 where
  pub client : Client
  pub served : Served Stopped Given accounts input output client new
  pub over : (client.closed ≡ true) ⊎ IsAtEnd input.new

-- the session broke off, for lack of memory, or by a read or a write that failed: a prefix of what was said is written
pub record BreaksOff (Stopped : Client → Type 0) (Given : Type 0) (accounts : Accounts) (came : Option (List ℕ))
    (output : StreamMove) (new : Database) : Type 0 where
  pub rounds : List Round
  pub client : Client
  pub passes : RoundsPass Stopped Given accounts new_client rounds client (OffersAccounts new)
  pub read : LeftBeginsWith came (came_in rounds)
  pub written : AppendsFront output.old output.new (reply_octets (capability_reply None) ++ said_in rounds)

-- one whole session over accounts
abbrev pub Converses : (Client → Type 0) → Type 0 → Accounts → StreamMove → StreamMove → Database → Result (Unit {0}) RunFault
    → Type 0
Converses Stopped Given accounts input output new (Ok done) = Ends Stopped Given accounts input output new
Converses Stopped Given accounts input output new (Err fault) = BreaksOff Stopped Given accounts input.old output new

-- a session that was served so far, whatever was read and written before, goes on to its end
abbrev pub GoesOnToEnd : (Client → Type 0) → Type 0 → Client → StreamMove → StreamMove → TablesMove → Result (Unit {0}) RunFault
    → Type 0
GoesOnToEnd Stopped Given c input output tables result =
    (accounts : Accounts) (first_in first_out : Option (List ℕ))
    → Served Unstopped ⊥ accounts (from_to first_in input.old) (from_to first_out output.old) c tables.old
    → Converses Stopped Given accounts (from_to first_in input.new) (from_to first_out output.new) tables.new result

-- a whole session over tables: accounts that they offered were served; a database without tables stays so
pub record ServesTables (Stopped : Client → Type 0) (Given : Type 0) (input output : StreamMove) (tables : TablesMove)
    (result : Result (Unit {0}) RunFault) : Type 0 where
  pub talks : (accounts : Accounts) → OffersAccounts tables.old accounts
      → Converses Stopped Given accounts input output tables.new result
  pub none : tables.old.schema ≡ no_schema → tables.new.schema ≡ no_schema
