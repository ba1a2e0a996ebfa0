-- The machine: accounts and sessions, which events change one after the other.
use Rattle.std.specs.Prelude.{◌≡◌, ℕ, ◌⊎◌, Bool, true, false, List, [], ◌∷◌, Option, Some, None}
use Rattle.std.specs.FinMap.{FinMap, get, insert, remove}
use Rattle.std.specs.Ordering.{nat_cmp}
use Rattle.managesieve_protocol.specs.Replies.{reply_octets}
use Rattle.store_accounts.specs.Account.{Accounts}
use Rattle.store_accounts.specs.declared.refusal.Refusal.{Refusal}
use Rattle.store_accounts.specs.declared.refusal.Refusal.TheVariants.{Memory, Store}
use Rattle.managesieve_sessions.specs.Clients.{Client, new_client, client_given}
use Rattle.managesieve_sessions.specs.GivenUp.{text_given_up, client_given_up, progress_given_up}
use Rattle.managesieve_sessions.specs.Replies.{capability_reply}
use Rattle.managesieve_sessions.specs.Steps.{IsStep, progress_of, may_lack, may_fail}
use Rattle.managesieve_sessions.specs.declared.progress.Progress.{Progress}
use Rattle.managesieve_sessions.specs.declared.progress.Progress.TheVariants as progress
use Rattle.store_engine.specs.declared.event.Event.{Event}
use Rattle.store_engine.specs.declared.event.Event.TheVariants.{Open, Give, Step, GiveUp, Close, Deliver, AddUser, Import, TakeOut, TakeMail, DoUpkeep}
use Rattle.store_engine.specs.declared.answer.Answer.{Answer}
use Rattle.store_engine.specs.declared.answer.Answer.TheVariants.{Out, Ignored, Refused}
use Rattle.store_engine.specs.Limits.{limit_refusal, IsNewUser}
use Rattle.store_engine.specs.AccountEvents.{Delivery, Addition, IsImportable, Importing, Taking, MailTaking}
use Rattle.store_engine.specs.declared.terms.Terms.{Terms}
use Rattle.store_engine.specs.Upkeep.{Keeping, IsFit, MayLackFor}

-- open sessions by their numbers
abbrev pub Clients : Type 0
Clients = FinMap nat_cmp Client

-- the accounts by the names of their users, and the sessions by their numbers
pub record World : Type 0 where
  pub accounts : Accounts
  pub sessions : Clients

-- ---- events of a session

-- the session under a number becomes another, or is opened
abbrev pub with_session : ℕ → Client → World → World
with_session s c w = record { accounts = w.accounts; sessions = insert w.sessions s c }

-- the number is no longer in use
abbrev pub without_session : ℕ → World → World
without_session s w = record { accounts = w.accounts; sessions = remove w.sessions s }

-- the event isn't one for the number, and nothing changes
pub record Ignores (w : World) (answer : Answer) (next : World) : Type 0 where
  pub ignored : answer ≡ Ignored
  pub stays : next ≡ w

-- this is answered, and the world is this afterwards
pub record WorldBecomes (said : Answer) (later : World) (answer : Answer) (next : World) : Type 0 where
  pub says : answer ≡ said
  pub changed : next ≡ later

-- the greeting, and a new session; on a number that is open nothing
abbrev pub OpensSession : World → ℕ → Option Client → Answer → World → Type 0
OpensSession w s None answer next = WorldBecomes (Out progress.Done (reply_octets (capability_reply None))) (with_session s new_client w) answer next
OpensSession w s (Some c) answer next = Ignores w answer next

-- for an open session this; on a number that isn't open nothing
abbrev pub InSession : World → Option Client → (Client → Answer → World → Type 0) → Answer → World → Type 0
InSession w None row answer next = Ignores w answer next
InSession w (Some c) row answer next = row c answer next

-- the first item is taken off and answered; the accounts may change
pub record StepsSession (w : World) (s : ℕ) (c : Client) (answer : Answer) (next : World) : Type 0 where
  pub goes_on : Progress
  pub octets : List ℕ
  pub client : Client
  pub accounts : Accounts
  pub step : IsStep w.accounts c goes_on octets client accounts
  pub says : answer ≡ Out goes_on octets
  pub changed : next ≡ record { accounts = accounts; sessions = insert w.sessions s client }

-- ---- the table of events

-- the accounts become these
abbrev pub with_accounts : World → (Answer → Accounts → Type 0) → Answer → World → Type 0
with_accounts w row answer next = (later : Accounts) × row answer later × (next ≡ record { accounts = later; sessions = w.sessions })

-- what the machine answers to an event, and the world after it
abbrev pub EventHappens : World → Event → Answer → World → Type 0
EventHappens w (Open s) answer next = OpensSession w s (get w.sessions s) answer next
EventHappens w (Give s piece) answer next =
    InSession w (get w.sessions s) (λ c. WorldBecomes (Out (progress_of c) []) (with_session s (client_given piece c) w)) answer next
EventHappens w (Step s) answer next = InSession w (get w.sessions s) (StepsSession w s) answer next
EventHappens w (GiveUp s) answer next =
    InSession w (get w.sessions s) (λ c. WorldBecomes (Out (progress_given_up c) (text_given_up c)) (with_session s (client_given_up c) w)) answer next
EventHappens w (Close s) answer next = InSession w (get w.sessions s) (λ c. WorldBecomes (Out progress.Close []) (without_session s w)) answer next
EventHappens w (Deliver user envelope message terms) answer next =
    with_accounts w (Delivery w.accounts user envelope message terms) answer next
EventHappens w (AddUser name address salt password) answer next = with_accounts w (Addition w.accounts name address salt password) answer next
EventHappens w (Import file) answer next = with_accounts w (Importing w.accounts file.head file.parts) answer next
EventHappens w (TakeOut user id) answer next = with_accounts w (Taking w.accounts user id) answer next
EventHappens w (TakeMail user folder) answer next = with_accounts w (MailTaking w.accounts user folder) answer next
EventHappens w (DoUpkeep user upkeep) answer next = with_accounts w (Keeping w.accounts user upkeep) answer next

-- ---- refusals without a cause in the machine

-- whether an event of the session under a number may be refused, by what is tested of the session
abbrev pub if_open : (Client → Bool) → Option Client → Bool
if_open test None = false
if_open test (Some c) = test c

-- whether a number is free
abbrev pub is_free_number : Option Client → Bool
is_free_number None = true
is_free_number (Some c) = false

-- whether no limit forbids a delivery
abbrev pub is_within : Option Refusal → Bool
is_within None = true
is_within (Some refusal) = false

-- whether the event may be refused for lack of memory
abbrev pub MayLack : World → Event → Type 0
MayLack w (Open s) = is_free_number (get w.sessions s) ≡ true
MayLack w (Give s piece) = if_open (λ c. true) (get w.sessions s) ≡ true
MayLack w (Step s) = if_open may_lack (get w.sessions s) ≡ true
MayLack w (GiveUp s) = ⊥
MayLack w (Close s) = ⊥
MayLack w (Deliver user envelope message terms) = limit_refusal envelope message terms.when.moment ≡ None
MayLack w (AddUser name address salt password) = Unit {0}
MayLack w (Import file) = Unit {0}
MayLack w (TakeOut user id) = Unit {0}
MayLack w (TakeMail user folder) = Unit {0}
MayLack w (DoUpkeep user upkeep) = MayLackFor upkeep

-- whether the event may be refused by the store: only one that asks it
abbrev pub MayFail : World → Event → Type 0
MayFail w (Step s) = if_open may_fail (get w.sessions s) ≡ true
MayFail w (Deliver user envelope message terms) = limit_refusal envelope message terms.when.moment ≡ None
MayFail w (AddUser name address salt password) = IsNewUser name address password
MayFail w (Import file) = IsImportable file.head file.parts
MayFail w (TakeOut user id) = Unit {0}
MayFail w (TakeMail user folder) = Unit {0}
MayFail w (DoUpkeep user upkeep) = IsFit upkeep
MayFail w event = ⊥

abbrev pub MayRefuseEvent : World → Event → Refusal → Type 0
MayRefuseEvent w event Memory = MayLack w event
MayRefuseEvent w event Store = MayFail w event
MayRefuseEvent w event _ = ⊥

-- the event is refused for lack of memory or by the store, and nothing changes
pub record IsEventRefused (w : World) (event : Event) (answer : Answer) (next : World) : Type 0 where
  pub refusal : Refusal
  pub may : MayRefuseEvent w event refusal
  pub refused : answer ≡ Refused refusal
  pub stays : next ≡ w

-- ---- runs

-- one event
abbrev pub Next : World → Event → Answer → World → Type 0
Next w event answer next = EventHappens w event answer next ⊎ IsEventRefused w event answer next

-- events in order, each with its answer
abbrev pub Runs : World → List Event → List Answer → World → Type 0
Runs w [] [] end = end ≡ w
Runs w (event ∷ events) (answer ∷ told) end = (next : World) × Next w event answer next × Runs next events told end
Runs w [] (answer ∷ told) end = ⊥
Runs w (event ∷ events) [] end = ⊥
