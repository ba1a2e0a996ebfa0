-- What notes tell of a client of LMTP.
use Rattle.std.specs.Prelude.{◌≡◌, ◌⊎◌, ℕ, ◌-◌, ◌==◌, if◌then◌else◌, List, [], ◌∷◌, ◌++◌, length, map, take, Bool, true, false, cond, Option, Some, IsTrue}
use Rattle.std.specs.List.{flat_map}
use Rattle.lmtp_dialogue.specs.declared.reply.LmtpReply.{LmtpReply}
use Rattle.lmtp_dialogue.specs.declared.reply.LmtpReply.TheVariants.{NoSuchUser, AccountClosed, MessageTooLarge, BadSender, BadRecipient, NoRoom, LocalFault}
use Rattle.store_accounts.specs.declared.refusal.Refusal.{Refusal}
use Rattle.store_accounts.specs.declared.refusal.Refusal.TheVariants.{Memory, NoUser, AccountClosed as ClosedAccount, TooLarge, BadEnvelope}
use Rattle.store_engine.specs.Hosts.{SessionMap}
use Rattle.store_engine.specs.Limits.{is_envelope_address}
use Rattle.store_engine.specs.declared.answer.Answer.{Answer}
use Rattle.store_engine.specs.declared.answer.Answer.TheVariants as answer
use Rattle.store_engine.specs.declared.event.Event.{Event}
use Rattle.lmtp_connections.specs.Connections.{LmtpStep, Answered, Declined, Asked, Away, Gathered, Brought}
use Rattle.lmtp_dialogue.specs.declared.recipient_reply.RecipientReply.{RecipientReply}
use Rattle.lmtp_dialogue.specs.declared.recipient_reply.RecipientReply.TheVariants.{Delivered, Refused}
use Rattle.lmtp_connections.specs.declared.demand.DeliveryRequest.{DeliveryRequest}
use Rattle.lmtp_connections.specs.Stands.{ConnectionDoes, ConnectionHoldsNoMore, IsRequested}
use Rattle.lmtp_connections.specs.declared.connection.LmtpConnection.{LmtpConnection}
use Rattle.cli_reports.specs.Reports.{delivery_report}
use Rattle.net_loop.specs.Rules.{OneStep}
use Rattle.net_loop.specs.Talk.{is_same_id}
use Rattle.net_loop.specs.Told.{Telling}
use Rattle.net_loop.specs.declared.act.Act.TheVariants.{Noted}
use Rattle.daemon_core.specs.Holds.{holding_behind}
use Rattle.daemon_core.specs.StoreAccess.{View, IsEventDone, IsAccountAsked, NothingDone, delivery_of}
use Rattle.daemon_core.specs.declared.daemon.Daemon.{Daemon}
use Rattle.daemon_core.specs.declared.note.Note.{Note}
use Rattle.daemon_core.specs.declared.note.ToldDelivery.{ToldDelivery}
use Rattle.store_engine.specs.declared.terms.Terms.{Terms}
use Rattle.daemon_core.specs.declared.note.Note.TheVariants as note

-- the lines of a report as one line: a comma and a space for each line end but the last one
abbrev pub joined_octet : ℕ → List ℕ
joined_octet octet = if octet == 10 then 44 ∷ 32 ∷ [] else octet ∷ []

abbrev pub one_line : List ℕ → List ℕ
one_line lines = flat_map joined_octet (take (length lines - 1) lines)

-- of whom a refusal of the envelope is: of the sender if that address may not be in a store, otherwise of the recipient
abbrev pub envelope_reply : Bool → LmtpReply
envelope_reply true = BadRecipient
envelope_reply false = BadSender

-- how a recipient is told that a delivery was refused; for a fault of the host it is told to try again
abbrev pub refusal_reply : List ℕ → Refusal → LmtpReply
refusal_reply sender NoUser = NoSuchUser
refusal_reply sender ClosedAccount = AccountClosed
refusal_reply sender TooLarge = MessageTooLarge
refusal_reply sender BadEnvelope = envelope_reply (is_envelope_address sender)
refusal_reply sender Memory = NoRoom
refusal_reply sender refusal = LocalFault

-- what became of a message that was to be delivered: a delivery is reported, or if memory was lacking for the report just told
abbrev pub IsDeliveryReply : List ℕ → Answer → RecipientReply → Type 0
IsDeliveryReply sender (answer.Delivered report) became = (became ≡ Delivered (one_line (delivery_report report))) ⊎ (became ≡ Delivered [])
IsDeliveryReply sender (answer.Refused refusal) became = became ≡ Refused (refusal_reply sender refusal)
IsDeliveryReply sender other became = became ≡ Refused LocalFault

-- the step that a note tells; a MAIL that is refused for lack of room is answered too
abbrev pub IsLmtpStep : Note → LmtpStep → Type 0
IsLmtpStep note.Answered lmtp_step = (lmtp_step ≡ Answered) ⊎ ((size : ℕ) × (lmtp_step ≡ Declined size))
IsLmtpStep (note.Asked others user lookup) lmtp_step = lmtp_step ≡ Asked user lookup
IsLmtpStep note.Away lmtp_step = lmtp_step ≡ Away
IsLmtpStep note.Gathered lmtp_step = lmtp_step ≡ Gathered
IsLmtpStep (note.Did others event told) lmtp_step =
    (request : DeliveryRequest) × (terms : Terms) × (became : RecipientReply) × (event ≡ delivery_of request terms) × IsDeliveryReply request.sender told became × (lmtp_step ≡ Brought request became)
IsLmtpStep other lmtp_step = ⊥

-- and what it makes of the store
abbrev pub StepStores : {R : Type 0} → View R → R → SessionMap → Note → R → SessionMap → Type 0
StepStores view r before (note.Did others event told) q after = IsEventDone view others event told r before q after
StepStores view r before (note.Asked others user lookup) q after = IsAccountAsked view others user lookup r before q after
StepStores view r before other q after = NothingDone view r before q after

-- ---- steps of several clients in one act

-- of which connection what is noted, if the note tells of several
abbrev pub note_of : ToldDelivery → ℕ × Note
note_of it = (it.id, note.Did [] it.event it.answer)

abbrev pub steps_of : Note → List (ℕ × Note)
steps_of (note.Delivered others told) = map note_of told
steps_of (note.PutOff ids) = map (λ id. (id, note.Away)) ids
steps_of other = []

-- what is known of each connection of a client of LMTP, by its number
abbrev pub Connections : Type 0
Connections = ℕ → Option LmtpConnection

-- a note tells a step for one of them, with which nothing is said; nothing of another one changes
pub record StepsOne (now id : ℕ) (note : Note) (before after : Connections) : Type 0 where
  pub connection : LmtpConnection
  pub was : before id ≡ Some connection
  pub later : LmtpConnection
  pub lmtp_step : LmtpStep
  pub is : IsLmtpStep note lmtp_step
  pub does : ConnectionDoes now lmtp_step [] connection later
  pub held : ConnectionHoldsNoMore connection later
  pub changes : (other : ℕ) → after other ≡ cond (is_same_id id other) (Some later) (before other)

-- one after the other
abbrev pub StepsEach : ℕ → List (ℕ × Note) → Connections → Connections → Type 0
StepsEach now [] before after = (other : ℕ) → after other ≡ before other
StepsEach now (it ∷ more) before after = (mid : Connections) × StepsOne now it.0 it.1 before mid × StepsEach now more mid after

-- each is the delivery of a message
abbrev pub AreToldDeliveries : List ToldDelivery → Type 0
AreToldDeliveries [] = Unit {0}
AreToldDeliveries (it ∷ more) = ((request : DeliveryRequest) × (terms : Terms) × (it.event ≡ delivery_of request terms)) × AreToldDeliveries more

-- it is the delivery of the message that the store is given next for one of the connections
pub record IsMessageAsked (now : ℕ) (at : Connections) (event : Event) : Type 0 where
  pub id : ℕ
  pub connection : LmtpConnection
  pub there : at id ≡ Some connection
  pub request : DeliveryRequest
  pub requested : IsRequested now connection request
  pub terms : Terms
  pub is : event ≡ delivery_of request terms

abbrev pub AreMessagesAsked : ℕ → Connections → List Event → Type 0
AreMessagesAsked now at [] = Unit {0}
AreMessagesAsked now at (event ∷ more) = IsMessageAsked now at event × AreMessagesAsked now at more

-- what is only tried is such, if the note tells of it
abbrev pub TriesAsked : ℕ → Connections → Note → Type 0
TriesAsked now at (note.Parted others events) = AreMessagesAsked now at events
TriesAsked now at other = Unit {0}

-- ---- one step of a client of LMTP, apart from others

-- its note tells a step for it, of which the store and the sessions have their part; there is room for this many octets. It holds no more
-- after it
pub record DoesOne {R : Type 0} (view : View R) (room : ℕ) (d : Daemon) (r : R) (before : LmtpConnection) (now : ℕ) (note : Note) (said : List ℕ) (e : Daemon) (q : R) (after : LmtpConnection) : Type 0 where
  pub lmtp_step : LmtpStep
  pub is : IsLmtpStep note lmtp_step
  pub does : ConnectionDoes now lmtp_step said before after
  pub spare : (size : ℕ) → lmtp_step ≡ Declined size → size ≡ room
  pub held : ConnectionHoldsNoMore before after
  pub stores : StepStores view r d.clients.sessions note q e.clients.sessions
  pub states : e.states ≡ d.states
  pub holding : e.holding ≡ holding_behind now note d.holding

-- the outside, the daemon and one of its connections
pub record LmtpMoment (O : Type 0) : Type 0 where
  pub outside : O
  pub daemon : Daemon
  pub connection : LmtpConnection

abbrev pub lmtp_moment : {O : Type 0} → O → Daemon → LmtpConnection → LmtpMoment O
lmtp_moment outside daemon connection = record { outside = outside; daemon = daemon; connection = connection }

-- one step, if it is told
abbrev pub DoesOneIf : {O R : Type 0} → Telling O Note R → View R → ℕ → LmtpMoment O → OneStep → LmtpMoment O → Type 0
DoesOneIf told view room before step after =
    IsTrue (told.tells after.outside)
    → (note : Note) × (told.seen after.outside ≡ told.seen before.outside ++ Noted step.id note ∷ [])
    × DoesOne view room before.daemon (told.rest before.outside) before.connection step.now note step.said after.daemon (told.rest after.outside) after.connection
