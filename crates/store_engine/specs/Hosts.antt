-- How a store and a map of sessions implement the machine.
use Rattle.std.specs.Prelude.{◌≡◌, ℕ, true, ◌⊎◌, List, [], ◌∷◌, map, take, length, Some, None, Ok, Err, Result, IsTrue, IfSome, option_map}
use Rattle.std.specs.FinMap.{get, from_entries}
use Rattle.std.specs.Ordering.{nat_cmp}
use Rattle.std.specs.BTreeMap as tree
use Rattle.std.specs.BTreeMap.{BTreeMap}
use Rattle.store_text.specs.declared.head.AccountHead.{AccountHead}
use Rattle.store_text.specs.declared.part.Part.{Part}
use Rattle.sqlite_trees.specs.Tree.{Trees}
use Rattle.sqlite_trees.specs.declared.store.Store.{Ghosts}
use Rattle.sqlite.specs.Held.{Held, state}
use Rattle.sqlite.specs.State.{State, HasCleanDisk, Survives}
use Rattle.store_accounts.specs.Account.{Accounts}
use Rattle.store_accounts.specs.Refusals.{IsTransient}
use Rattle.store_accounts.specs.Shows.{Presents, ShowsIn}
use Rattle.sieve_exec.specs.declared.envelope.Envelope.{Envelope}
use Rattle.store_accounts.specs.declared.queue.QueuedMessage.{QueuedMessage}
use Rattle.store_accounts.specs.declared.report.Report.{Report}
use Rattle.store_accounts.specs.declared.refusal.Refusal.{Refusal}
use Rattle.store_accounts.specs.declared.refusal.Refusal.TheVariants.{Memory, Store, NoUser, UserExists, BadUser, NoRow, AccountClosed, UserHasMail, BadAccount}
use Rattle.managesieve_sessions.specs.Acts.{HasAccounts, Acts, Lasts}
use Rattle.managesieve_sessions.specs.Counts.{SessionView}
use Rattle.managesieve_sessions.specs.GivenUp.{text_given_up}
use Rattle.managesieve_sessions.specs.Steps.{may_fail}
use Rattle.store_engine.specs.declared.event.Event.TheVariants.{Open, Give, Step, Close, Deliver, GiveUp}
use Rattle.store_engine.specs.OwnActs.{IsAlone}
use Rattle.store_engine.specs.Spacing.{IsSpaced}
use Rattle.store_engine.specs.declared.event.Event.{Event}
use Rattle.store_engine.specs.declared.answer.Answer.{Answer}
use Rattle.store_engine.specs.declared.machine.World.{World as Machine}
use Rattle.store_engine.specs.declared.clients.Clients.{Clients as Sessions}
use Rattle.store_engine.specs.declared.answer.Answer.TheVariants.{Delivered, Added, Imported, Taken, MailTaken, Refused}
use Rattle.store_engine.specs.AccountEvents.{Delivery, Addition, IsImportable, Importing, Taking, MailTaking}
use Rattle.store_engine.specs.declared.upkeep.Upkeep.{Upkeep}
use Rattle.store_engine.specs.Upkeep.{Keeping, IsFit, MayLackFor}
use Rattle.store_engine.specs.Limits.{limit_refusal, IsNewUser}
use Rattle.store_engine.specs.declared.terms.Terms.{Terms}
use Rattle.store_engine.specs.World.{World, Clients, if_open, Next, Runs}

-- sessions by their numbers, as the code keeps them
abbrev pub SessionMap : Type 0
SessionMap = BTreeMap ℕ SessionView

-- the sessions that a map has, by their numbers
abbrev pub clients_of : SessionMap → Clients
clients_of kept = from_entries (map (λ entry. (entry.0, entry.1.client)) kept.entries)

-- under each number there is the same session, or none
abbrev pub HasClients : SessionMap → Clients → Type 0
HasClients kept clients = (s : ℕ) → option_map (λ session. session.client) (tree.get nat_cmp kept s) ≡ get clients s

-- a store and the sessions beside it
pub record Host : Type 1 where
  pub store : State
  pub sessions : SessionMap

abbrev pub host : State → SessionMap → Host
host store sessions = record { store = store; sessions = sessions }

-- from the values of the code
abbrev pub host_with : {S : Type 0} → Ghosts S → Held S → Sessions → Host
host_with g store clients = host (state g store) clients.sessions

-- from the values of the code
abbrev pub host_of : {S : Type 0} → Ghosts S → Machine S → Host
host_of g machine = host_with g machine.store machine.clients

-- the store shows the machine's accounts (`HasAccounts`: if a fault of the disk has shut the connection nothing is said), and the
-- sessions are the machine's
pub record Implements (h : Host) (w : World) : Type 0 where
  pub accounts : HasAccounts h.store w.accounts
  pub sessions : HasClients h.sessions w.sessions

-- ---- one event

-- the event, of sessions alone, with this answer, whatever the world was: no account changes
abbrev pub IsSessionEvent : Event → Answer → SessionMap → SessionMap → Type 0
IsSessionEvent event answer before after =
    (w : World) → HasClients before w.sessions
    → (clients : Clients) × Next w event answer (record { accounts = w.accounts; sessions = clients }) × HasClients after clients

-- whatever sessions there were are still there
abbrev pub KeepsClients : SessionMap → SessionMap → Type 0
KeepsClients before after = (clients : Clients) → HasClients before clients → HasClients after clients

-- the event asks a store: one of the accounts, or a step whose command does
abbrev pub EventAsksStore : Event → SessionMap → Type 0
EventAsksStore (Open s) kept = ⊥
EventAsksStore (Give s piece) kept = ⊥
EventAsksStore (GiveUp s) kept = ⊥
EventAsksStore (Close s) kept = ⊥
EventAsksStore (Step s) kept = if_open may_fail (option_map (λ session. session.client) (tree.get nat_cmp kept s)) ≡ true
EventAsksStore event kept = Unit {0}

-- a client's first item is given up
abbrev pub IsGivenUp : Event → Type 0
IsGivenUp (GiveUp s) = Unit {0}
IsGivenUp event = ⊥

-- the answer is no refusal
abbrev pub IsMade : Answer → Type 0
IsMade (Refused refusal) = ⊥
IsMade answer = Unit {0}

-- the event leads from this world to that, which the store and its sessions then implement; and if it was made, over a connection that was
-- open, the connection is still open, the store shows that world's accounts, and so does what a crash leaves (`Lasts`)
pub record EventLeads (w : World) (event : Event) (answer : Answer) (old new : Host) (next : World) : Type 0 where
  pub is_next : Next w event answer next
  pub implements : Implements new next
  pub lasts : IsMade answer → IsTrue old.store.is_open → Lasts w.accounts next.accounts old.store new.store

-- it leads from one store and its sessions to another by this event with this answer, whatever the world was
abbrev pub IsEvent : Event → Answer → Host → Host → Type 0
IsEvent event answer old new =
    HasCleanDisk new.store → (w : World) → Implements old w → (next : World) × EventLeads w event answer old new next

-- what a crash leaves of the event shows the accounts of a world after it, as a whole
abbrev pub EventCrashLeaves : Event → Host → Trees → Type 0
EventCrashLeaves event old trees =
    (w : World) → Presents old.store.now w.accounts → HasClients old.sessions w.sessions
    → (answer : Answer) × (next : World) × Next w event answer next × ShowsIn trees next.accounts

-- at the end a crash leaves what it left before the event, or this of it
abbrev pub SurvivesEvent : Event → Host → Host → Type 0
SurvivesEvent event old new = Survives old.store new.store (EventCrashLeaves event old)

-- a text that was prepared for the event: that of giving up, if it is one
abbrev pub IsPrepared : Event → SessionMap → List ℕ → Type 0
IsPrepared (GiveUp s) kept text = IfSome (tree.get nat_cmp kept s) (λ session. text ≡ text_given_up session.client)
IsPrepared event kept text = Unit {0}

-- ---- events in order

-- the events that were answered: the first ones, one for each answer
abbrev pub answered_events : List Event → List Answer → List Event
answered_events events answers = take (length answers) events

-- it leads from one store and its sessions to another by these events with these answers, whatever the world was
abbrev pub IsHostRun : List Event → List Answer → Host → Host → Type 0
IsHostRun events answers old new =
    HasCleanDisk new.store → (w : World) → Implements old w → (end : World) × Runs w events answers end × Implements new end

-- a run in which each user is alone: its account at the end is what its own acts make of the one at the start, and each answer among
-- them is allowed
abbrev pub IsRunAlone : List Event → List Answer → Host → Host → Type 0
IsRunAlone events answers old new =
    HasCleanDisk new.store → (w : World) → Implements old w
    → (end : World) × (run : Runs w events answers end) × Implements new end × IsAlone w events answers end run

-- a run whose replies to senders are spaced by their periods
abbrev pub IsRunSpaced : List Event → List Answer → Host → Host → Type 0
IsRunSpaced events answers old new =
    HasCleanDisk new.store → (w : World) → Implements old w
    → (end : World) × (run : Runs w events answers end) × Implements new end × IsSpaced w events answers end run

-- what a crash leaves of a run, if no fault of the disk has shut the connection at its end, shows the accounts of a world that some of
-- the first events lead to; what a run that goes on over a shut connection leaves is not said
abbrev pub RunCrashLeaves : List Event → Host → Host → Trees → Type 0
RunCrashLeaves events old new trees =
    IsTrue new.store.is_open → (w : World) → Presents old.store.now w.accounts → HasClients old.sessions w.sessions
    → (count : ℕ) × (told : List Answer) × (end : World) × Runs w (take count events) told end × ShowsIn trees end.accounts

-- at the end a crash leaves what it left before the run, or this of it
abbrev pub SurvivesRun : List Event → Host → Host → Type 0
SurvivesRun events old new = Survives old.store new.store (RunCrashLeaves events old new)

-- ---- the calls on accounts

-- the answer for what a call returns, or the refusal
abbrev pub answer_by : {X : Type 0} → (X → Answer) → Result X Refusal → Answer
answer_by told (Ok x) = told x
answer_by told (Err refusal) = Refused refusal

-- the answer, or the refusal
abbrev pub answer_of : Result Answer Refusal → Answer
answer_of = answer_by (λ answer. answer)

-- the row of an event of accounts: its answer, and what the accounts become
abbrev pub Row : Type 1
Row = Accounts → Answer → Accounts → Type 0

-- the accounts turn by the row with this answer, or the event is refused without visible cause, if it may be, and they stay
abbrev pub TurnsBy : Row → (Refusal → Type 0) → Answer → Accounts → Accounts → Type 0
TurnsBy By May answer accounts later =
    By accounts answer later ⊎ ((refusal : Refusal) × May refusal × (answer ≡ Refused refusal) × (later ≡ accounts))

-- the accounts may turn by the row, whatever is answered
abbrev pub MayTurnBy : Row → Accounts → Accounts → Type 0
MayTurnBy By accounts later = (answer : Answer) × By accounts answer later

-- how a call changes the store by the row, with this answer for its result
abbrev pub ActsBy : {X : Type 0} → Row → (Refusal → Type 0) → (X → Answer) → State → State → Result X Refusal → Type 0
ActsBy By May told old new result = Acts (TurnsBy By May (answer_by told result)) (MayTurnBy By) old new result

-- without visible cause a delivery is refused only if no limit forbids it
abbrev pub MayRefuseDelivery : Envelope → List ℕ → ℕ → Refusal → Type 0
MayRefuseDelivery envelope message moment refusal = IsTransient refusal × (limit_refusal envelope message moment ≡ None)

-- and a new user by the store only if the name, the address and the password are allowed
abbrev pub MayRefuseAddition : List ℕ → List ℕ → List ℕ → Refusal → Type 0
MayRefuseAddition name address password refusal = (refusal ≡ Memory) ⊎ ((refusal ≡ Store) × IsNewUser name address password)

-- and an account of a text by the store only if it may be kept
abbrev pub MayRefuseImport : AccountHead → List Part → Refusal → Type 0
MayRefuseImport head parts refusal = (refusal ≡ Memory) ⊎ ((refusal ≡ Store) × IsImportable head parts)

-- how a delivery changes the store
abbrev pub ActsDelivery : List ℕ → Envelope → List ℕ → Terms → State → State → Result Report Refusal → Type 0
ActsDelivery user envelope message terms =
    ActsBy (λ accounts. Delivery accounts user envelope message terms) (MayRefuseDelivery envelope message terms.when.moment) Delivered

-- a delivery is a run of one event, whatever sessions there are, and the reply that it sends, if it sends one, is spaced by its period
abbrev pub IsSpacedDelivery : List ℕ → Envelope → List ℕ → Terms → State → State → Result Report Refusal → Type 0
IsSpacedDelivery user envelope message terms old new result =
    let events = Deliver user envelope message terms ∷ [] in
    let told = answer_by Delivered result ∷ [] in
    HasCleanDisk new → (w : World) → HasAccounts old w.accounts
    → (end : World) × (run : Runs w events told end) × HasAccounts new end.accounts × IsSpaced w events told end run

-- how a new user changes it
abbrev pub ActsAddition : List ℕ → List ℕ → List ℕ → List ℕ → State → State → Result (Unit {0}) Refusal → Type 0
ActsAddition name address salt password =
    ActsBy (λ accounts. Addition accounts name address salt password) (MayRefuseAddition name address password) (λ done. Added)

-- how an account of a text changes it
abbrev pub ActsImport : AccountHead → List Part → State → State → Result (Unit {0}) Refusal → Type 0
ActsImport head parts = ActsBy (λ accounts. Importing accounts head parts) (MayRefuseImport head parts) (λ done. Imported)

-- how taking out a row changes it
abbrev pub ActsTaking : List ℕ → ℕ → State → State → Result QueuedMessage Refusal → Type 0
ActsTaking user id = ActsBy (λ accounts. Taking accounts user id) IsTransient Taken

-- how taking a message out of a folder changes it
abbrev pub ActsMailTaking : List ℕ → List ℕ → State → State → Result (Unit {0}) Refusal → Type 0
ActsMailTaking user folder = ActsBy (λ accounts. MailTaking accounts user folder) IsTransient (λ done. MailTaken)

-- without visible cause an administrator's act is refused only if nothing in its arguments forbids it
abbrev pub MayRefuseKeeping : Upkeep → Refusal → Type 0
MayRefuseKeeping upkeep refusal = ((refusal ≡ Memory) × MayLackFor upkeep) ⊎ ((refusal ≡ Store) × IsFit upkeep)

-- how such an act changes it
abbrev pub ActsKeeping : List ℕ → Upkeep → State → State → Result Answer Refusal → Type 0
ActsKeeping user upkeep = ActsBy (λ accounts. Keeping accounts user upkeep) (MayRefuseKeeping upkeep) (λ answer. answer)

-- ---- refusals, by name

-- a delivery is refused by the limit that forbids it; if none does, for lack of an open account, or without visible cause
abbrev pub RefusesDelivery : Envelope → List ℕ → ℕ → Refusal → Type 0
RefusesDelivery envelope message moment refusal =
    (limit_refusal envelope message moment ≡ Some refusal)
    ⊎ ((limit_refusal envelope message moment ≡ None) × ((refusal ≡ NoUser) ⊎ (refusal ≡ AccountClosed) ⊎ IsTransient refusal))

-- a new user is refused if the name, the address or the password isn't allowed, if the name has an open account, or a closed one
-- with mail, or without visible cause
abbrev pub RefusesAddition : List ℕ → List ℕ → List ℕ → Refusal → Type 0
RefusesAddition name address password refusal =
    ((refusal ≡ BadUser) × (IsNewUser name address password → ⊥))
    ⊎ ((refusal ≡ UserExists) × IsNewUser name address password)
    ⊎ ((refusal ≡ UserHasMail) × IsNewUser name address password)
    ⊎ MayRefuseAddition name address password refusal

-- an account of a text is refused if it may not be kept, if its name has an open account, or a closed one with mail, or without
-- visible cause
abbrev pub RefusesImport : AccountHead → List Part → Refusal → Type 0
RefusesImport head parts refusal =
    ((refusal ≡ BadAccount) × (IsImportable head parts → ⊥))
    ⊎ ((refusal ≡ UserExists) × IsImportable head parts)
    ⊎ ((refusal ≡ UserHasMail) × IsImportable head parts)
    ⊎ MayRefuseImport head parts refusal

-- taking out a row is refused if the user has no open account, if no row has the number, or without visible cause; taking out a message
-- likewise if the folder has none
abbrev pub RefusesTaking : Refusal → Type 0
RefusesTaking refusal = (refusal ≡ NoUser) ⊎ (refusal ≡ NoRow) ⊎ IsTransient refusal
