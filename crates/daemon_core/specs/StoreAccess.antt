-- What applying an event to the store comes to.
use Rattle.std.specs.Prelude.{◌≡◌, ℕ, ◌||◌, Bool, List, [], ◌∷◌, Option, Some, None, IsSome, IsTrue}
use Rattle.lmtp_dialogue.specs.declared.receiver.Lookup.{Lookup}
use Rattle.lmtp_dialogue.specs.declared.receiver.Lookup.TheVariants.{Known, Unknown, Away as Absent}
use Rattle.std.specs.FinMap.{get}
use Rattle.sqlite_trees.specs.Tree.{Trees}
use Rattle.store_accounts.specs.Account.{Accounts, known_one}
use Rattle.mail_dates.specs.HostZones.{IsOffsetAt}
use Rattle.sieve_exec.specs.declared.when.When.{When}
use Rattle.sqlite.specs.State.{State, HasCleanDisk}
use Rattle.store_engine.specs.Hosts.{SessionMap, HasClients, KeepsClients}
use Rattle.store_engine.specs.Terms.{terms}
use Rattle.store_engine.specs.declared.terms.HostSettings.{HostSettings}
use Rattle.store_engine.specs.declared.terms.Terms.{Terms}
use Rattle.store_engine.specs.World.{World, Clients, Next, Runs}
use Rattle.store_engine.specs.declared.answer.Answer.{Answer}
use Rattle.store_engine.specs.declared.event.Event.{Event}
use Rattle.store_engine.specs.declared.event.Event.TheVariants.{Open, Give, Step, GiveUp, Close, Deliver}
use Rattle.maildir_files.specs.declared.kept.KeptMail.{KeptMail}
use Rattle.maildir_moves.specs.Enduring.{Endures, MayLeave, ShowsTried, none_tried}
use Rattle.maildir_moves.specs.declared.moving.Moving.{Moving}
use Rattle.managesieve_sessions.specs.Acts.{HasAccounts}
use Rattle.lmtp_connections.specs.declared.demand.DeliveryRequest.{DeliveryRequest}
use Rattle.net_loop.specs.declared.act.Act.TheVariants.{Noted, Worked}
use Rattle.net_loop.specs.Told.{Telling, TellsIf}
use Rattle.daemon_core.specs.declared.note.Note.{Note}
use Rattle.daemon_core.specs.declared.note.Note.TheVariants.{Did, Away, Asked, Looked}

-- which accounts a store shows, and what an open after a crash at this moment may find, while it is held and no fault of the disk has
-- shut it
pub record View (R : Type 0) : Type 1 where
  pub shows : R → Accounts → Type 0
  pub leaves : R → Trees → Type 0

-- what is known of a store R that an outside O accesses
pub record StoreFacts (O R : Type 0) : Type 1 where
  pub view : View R
  -- the disk returned what was written
  pub clean : R → Type 0
  -- what the host says of each delivery
  pub host : O → HostSettings
  -- which messages the sink has, if mail moves on; of one that doesn't tell them this may be any
  pub has : R → List KeptMail → Type 0
  -- the sink was at the place of the user's folder as each message was put that moved on
  pub there : R → Moving → Type 0
  -- it is held, so that no other process can change it
  pub had : R → Type 0
  -- the clock gives this moment, in seconds since 1970, the next time that it is read
  pub gave : O → ℕ → Type 0

-- an outside that accesses a store, and the sessions of its clients
pub record AccessState (O : Type 0) : Type 0 where
  pub outside : O
  pub sessions : SessionMap

-- from the values of the code
abbrev pub access_state : {O : Type 0} → O → SessionMap → AccessState O
access_state outside sessions = record { outside = outside; sessions = sessions }

-- whatever accounts were shown, they are shown; and a crash leaves them, or what it might leave before
abbrev pub ViewStillShows : {R : Type 0} → View R → R → R → Type 0
ViewStillShows view r q = (accounts : Accounts) → view.shows r accounts → view.shows q accounts × MayLeave (view.leaves r) accounts (view.leaves q) accounts none_tried

-- an event of another process: it names no session that there is
abbrev pub IsOthers : Clients → Event → Type 0
IsOthers sessions (Open s) = get sessions s ≡ None
IsOthers sessions (Give s piece) = get sessions s ≡ None
IsOthers sessions (Step s) = get sessions s ≡ None
IsOthers sessions (GiveUp s) = get sessions s ≡ None
IsOthers sessions (Close s) = get sessions s ≡ None
IsOthers sessions event = Unit {0}

abbrev pub AreOthers : Clients → List Event → Type 0
AreOthers sessions [] = Unit {0}
AreOthers sessions (event ∷ events) = IsOthers sessions event × AreOthers sessions events

-- from a world others' events, with whatever they were answered, lead to accounts: sessions of their own come and go in them, and the
-- existing ones stay. From there the event with this answer leads to a next world
pub record DoneAt (others : List Event) (event : Event) (answer : Answer) (w next : World) : Type 0 where
  pub strangers : AreOthers w.sessions others
  pub told : List Answer
  pub between : World
  pub theirs : Runs w others told between
  pub apart : between.sessions ≡ w.sessions
  pub ours : Next between event answer next

-- the same of events that are one act, each with its answer
pub record AllDoneAt (others events : List Event) (answers : List Answer) (w next : World) : Type 0 where
  pub strangers : AreOthers w.sessions others
  pub told : List Answer
  pub between : World
  pub theirs : Runs w others told between
  pub apart : between.sessions ≡ w.sessions
  pub ours : Runs between events answers next

-- the store shows the accounts of a world, and the sessions are its own
pub record IsWorld {R : Type 0} (view : View R) (r : R) (kept : SessionMap) (w : World) : Type 0 where
  pub shown : view.shows r w.accounts
  pub sessions : HasClients kept w.sessions

-- after a call, from a world to the next one: a crash leaves the accounts of that, or, if they are as they were, what it might leave
-- before, or what was tried in the call
pub record ComesTo {R : Type 0} (view : View R) (r : R) (w : World) (Tried : Trees → Type 0) (q : R) (kept : SessionMap) (next : World) : Type 0 where
  pub is : IsWorld view q kept next
  pub left : MayLeave (view.leaves r) w.accounts (view.leaves q) next.accounts Tried

-- the event with this answer was done, after those of others, whatever accounts the store showed. If it was refused it was tried, at
-- the world that it met; of what others tried nothing is left
abbrev pub IsEventDone : {R : Type 0} → View R → List Event → Event → Answer → R → SessionMap → R → SessionMap → Type 0
IsEventDone view others event answer r before q after =
    (w : World) → IsWorld view r before w
    → (next : World) × (done : DoneAt others event answer w next) × ComesTo view r w (ShowsTried (event ∷ []) answer done.between) q after next

-- all accounts and sessions that there were are still there
pub record NothingDone {R : Type 0} (view : View R) (r : R) (before : SessionMap) (q : R) (after : SessionMap) : Type 0 where
  pub shown : ViewStillShows view r q
  pub kept : KeepsClients before after

-- others' events came before it only where the store wasn't held
abbrev pub NoneWhileHad : {O R : Type 0} → Telling O Note R → StoreFacts O R → AccessState O → List Event → Type 0
NoneWhileHad told store before others = store.had (told.rest before.outside) → others ≡ []

-- an event was done and answered, or the store wasn't available and nothing was; if something is told, it is that
abbrev pub AppliesEvent : {O R : Type 0} → Telling O Note R → StoreFacts O R → ℕ → Event → AccessState O → Option Answer → AccessState O → Type 0
AppliesEvent told store id event before (Some answer) after =
    (others : List Event)
    × (store.clean (told.rest after.outside)
    → IsEventDone store.view others event answer (told.rest before.outside) before.sessions (told.rest after.outside) after.sessions)
    × TellsIf told before.outside (Noted id (Did others event answer)) after.outside
    × NoneWhileHad told store before others
AppliesEvent told store id event before None after =
    (store.clean (told.rest after.outside) → NothingDone store.view (told.rest before.outside) before.sessions (told.rest after.outside) after.sessions)
    × TellsIf told before.outside (Noted id Away) after.outside

-- it was looked whether somebody waits; the store was given back if somebody does, or if it `rests`; no account changed
abbrev pub Looks : {O R : Type 0} → Telling O Note R → StoreFacts O R → O → Bool → Bool → O → Type 0
Looks told store old rests gave new =
    (store.clean (told.rest new) → ViewStillShows store.view (told.rest old) (told.rest new))
    × ((wanted : Bool) × (gave ≡ (rests || wanted)) × TellsIf told old (Worked (Looked wanted)) new)

-- the same, if it is told
abbrev pub StillShowsIf : {O R : Type 0} → Telling O Note R → View R → O → O → Type 0
StillShowsIf told view old new = IsTrue (told.tells new) → ViewStillShows view (told.rest old) (told.rest new)

-- what was found of an account of that name, among these; one that was removed isn't there
abbrev pub IsFoundIn : Accounts → List ℕ → Lookup → Type 0
IsFoundIn accounts user Known = IsSome (known_one (get accounts user))
IsFoundIn accounts user Unknown = known_one (get accounts user) ≡ None
IsFoundIn accounts user Absent = ⊥
IsFoundIn accounts user lookup = Unit {0}

-- the same of a store, as it is after that: it shows what it showed, and a crash leaves that, or what it left before
abbrev pub StoreFindsAccount : List ℕ → Lookup → State → State → Type 0
StoreFindsAccount user lookup old new = HasCleanDisk new → (accounts : Accounts) → HasAccounts old accounts → IsFoundIn accounts user lookup × Endures old accounts new accounts none_tried

-- from a world others' events lead to accounts, and that was found in them; nothing else changes
pub record FindsAt (others : List Event) (user : List ℕ) (lookup : Lookup) (w next : World) : Type 0 where
  pub strangers : AreOthers w.sessions others
  pub told : List Answer
  pub theirs : Runs w others told next
  pub apart : next.sessions ≡ w.sessions
  pub found : IsFoundIn next.accounts user lookup

abbrev pub IsAccountAsked : {R : Type 0} → View R → List Event → List ℕ → Lookup → R → SessionMap → R → SessionMap → Type 0
IsAccountAsked view others user lookup r before q after =
    (w : World) → IsWorld view r before w → (next : World) × FindsAt others user lookup w next × ComesTo view r w none_tried q after next

-- an account was looked for after others' events, and this was found; or nothing was asked
abbrev pub FindsAccount : {O R : Type 0} → Telling O Note R → StoreFacts O R → ℕ → List ℕ → AccessState O → Option Lookup → AccessState O → Type 0
FindsAccount told store id user before (Some lookup) after =
    (others : List Event)
    × (store.clean (told.rest after.outside)
    → IsAccountAsked store.view others user lookup (told.rest before.outside) before.sessions (told.rest after.outside) after.sessions)
    × TellsIf told before.outside (Noted id (Asked others user lookup)) after.outside
    × NoneWhileHad told store before others
FindsAccount told store id user before None after =
    (store.clean (told.rest after.outside) → NothingDone store.view (told.rest before.outside) before.sessions (told.rest after.outside) after.sessions)
    × TellsIf told before.outside (Noted id Away) after.outside

-- the event of a message for one recipient, on these terms
abbrev pub delivery_of : DeliveryRequest → Terms → Event
delivery_of request terms = Deliver request.user (record { from = request.sender; to = request.recipient }) request.message terms

-- at the moment that the clock gives in a call, in the zone that the host says
abbrev pub IsNow : {O R : Type 0} → StoreFacts O R → O → When → Type 0
IsNow store before when = store.gave before when.moment × IsOffsetAt (store.host before).zone when.moment when.zone

-- the same as `AppliesEvent`, at such a moment, under what the store's host says
abbrev pub DeliversMessage : {O R : Type 0} → Telling O Note R → StoreFacts O R → ℕ → DeliveryRequest → AccessState O → Option Answer → AccessState O → Type 0
DeliversMessage told store id request before answer after =
    (when : When) × IsNow store before.outside when × AppliesEvent told store id (delivery_of request (terms when (store.host before.outside))) before answer after
