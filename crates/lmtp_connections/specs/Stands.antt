-- For which connection the code stands, and what its calls make of that.
use Rattle.std.specs.Prelude.{◌≡◌, ◌⊎◌, ◌<◌, ℕ, ◌+◌, Bool, true, false, if◌then◌else◌, List, [], ◌∷◌, ◌++◌, length, take, ◌≤◌, slice_get, Option, Some, None, option_map}
use Rattle.std.specs.Vec.{vec_len, vec_capacity}
use Rattle.lmtp_dialogue.specs.Dialogues.{Asking, Dialogue}
use Rattle.lmtp_dialogue.specs.Receivers.{StandsIn, ComesNext, ReceiverHoldsNoMore as ReceiverHolds}
use Rattle.lmtp_dialogue.specs.declared.receiver.Next.{Next}
use Rattle.lmtp_dialogue.specs.declared.receiver.Next.TheVariants as next
use Rattle.lmtp_dialogue.specs.declared.receiver.Lookup.{Lookup}
use Rattle.lmtp_dialogue.specs.declared.receiver.LmtpStage.{LmtpStage}
use Rattle.lmtp_dialogue.specs.declared.receiver.LmtpStage.TheVariants as stage
use Rattle.lmtp_dialogue.specs.RecipientReplies.{recipient_lines}
use Rattle.lmtp_dialogue.specs.Turns.{Declines, Resolves, max_text}
use Rattle.lmtp_dialogue.specs.declared.reply.LmtpReply.{LmtpReply}
use Rattle.lmtp_dialogue.specs.declared.reply.LmtpReply.TheVariants.{MessageTooLarge, NoRoom}
use Rattle.lmtp_dialogue.specs.declared.message_text.TextFault.{TextFault}
use Rattle.lmtp_dialogue.specs.declared.message_text.TextFault.TheVariants.{TooLarge, Memory}
use Rattle.lmtp_connections.specs.Connections.{LmtpState, became_of, has_some, lmtp_state_after, lmtp_state_heard, LmtpStep, Declined, LmtpGoes, LmtpAsksStore, IsFormAsked, first_form, IsOwed, IsReplyOwed, AsksDelivery, IsDeliveryDue, lmtp_state_told, IsDeliveryRequest}
use Rattle.lmtp_connections.specs.Progress.{MayAskStore, HasWaited, progress_settled, wanted}
use Rattle.lmtp_connections.specs.declared.addressee.Addressee.{Addressee}
use Rattle.lmtp_dialogue.specs.declared.recipient_reply.RecipientReply.{RecipientReply}
use Rattle.lmtp_connections.specs.declared.demand.DeliveryRequest.{DeliveryRequest}
use Rattle.lmtp_connections.specs.declared.demand.Demand.{Demand}
use Rattle.lmtp_connections.specs.declared.demand.Demand.TheVariants as demand
use Rattle.lmtp_connections.specs.declared.connection.LmtpConnection.{LmtpConnection as Code}
use Rattle.lmtp_connections.specs.declared.progress.Wanted.{Wanted}
use Rattle.lmtp_connections.specs.declared.progress.Wanted.TheVariants.{More, Step, Until, Done}

-- what a dialogue wants, by what comes next in it
abbrev pub wanted_for : Next → Wanted
wanted_for next.Need = More
wanted_for next.Line = Step
wanted_for (next.Recipient address) = Step
wanted_for (next.Delivery received) = Step
wanted_for next.Over = Done

abbrev pub Wants : Dialogue → Wanted → Type 0
Wants d wanted = (what : Next) × ComesNext d what × (wanted ≡ wanted_for what)

-- all but what is wanted of it
pub record ConnectionHolds (c : Code) (p : LmtpState) : Type 0 where
  pub names : c.names ≡ p.names
  pub hello : c.receiver.talk.hello ≡ p.hello
  pub dialogue : StandsIn c.receiver p.dialogue
  pub addressees : c.addressees.items ≡ p.addressees
  pub progress : c.progress ≡ p.progress

-- the connection for which it stands
pub record ConnectionStands (c : Code) (p : LmtpState) : Type 0 where
  pub holds : ConnectionHolds c p
  pub comes : Wants p.dialogue c.comes

-- since when no recipient is taken, if its client owes octets; none if one is, or if something is owed to the client
abbrev pub owed_by : List Addressee → Wanted → ℕ → Option ℕ
owed_by [] More since = Some since
owed_by [] Step since = None
owed_by [] (Until moment) since = None
owed_by [] Done since = None
owed_by (it ∷ others) wanted since = None

abbrev pub owed_since : Code → Option ℕ
owed_since c = owed_by c.addressees.items (wanted c.comes c.progress) c.progress.claim_since

-- its client has said LHLO
abbrev pub has_said_at : LmtpStage → Bool
has_said_at stage.Greeted = false
has_said_at stage.Ready = true
has_said_at stage.Opened = true
has_said_at stage.Asking = true
has_said_at stage.Sending = true
has_said_at stage.Over = true

abbrev pub has_said_hello : Code → Bool
has_said_hello c = has_said_at c.receiver.talk.stage

-- ---- what its calls make of it

abbrev pub is_open_at : LmtpStage → Bool
is_open_at stage.Greeted = false
is_open_at stage.Ready = false
is_open_at stage.Opened = true
is_open_at stage.Asking = true
is_open_at stage.Sending = true
is_open_at stage.Over = false

abbrev pub is_sending_at : LmtpStage → Bool
is_sending_at stage.Sending = true
is_sending_at other = false

-- of a transaction that isn't open any more nothing is left
pub record Settles (now : ℕ) (c e : Code) : Type 0 where
  pub names : e.names ≡ c.names
  pub receiver : e.receiver ≡ c.receiver
  pub addressees : e.addressees.items ≡ (if is_open_at c.receiver.talk.stage then c.addressees.items else [])
  pub progress : e.progress ≡ progress_settled now (is_open_at c.receiver.talk.stage) (has_some c.addressees.items) c.progress

-- what follows from what goes on in the dialogue
abbrev pub ConnectionGoesOn : ℕ → Code → Code → Type 0
ConnectionGoesOn now c e = (p : LmtpState) → ConnectionHolds c p → ConnectionStands e (lmtp_state_after now p.dialogue p.addressees p.progress p)

-- a recipient is asked for
abbrev pub AsksRecipient : LmtpState → Type 0
AsksRecipient p = (sender : List ℕ) × (taken : List (List ℕ)) × (address : List ℕ) × (p.dialogue.phase ≡ Asking sender taken address)

-- the recipient is answered
abbrev pub ResolvesIt : ℕ → Lookup → List ℕ → Code → Code → Type 0
ResolvesIt now lookup said c e =
    (p : LmtpState) → ConnectionHolds c p → AsksRecipient p
    → (later : Dialogue) × Resolves p.dialogue lookup said later × ConnectionStands e (lmtp_state_after now later p.addressees (first_form p.progress) p)

-- the next recipient gets its reply
abbrev pub TellsIt : ℕ → RecipientReply → List ℕ → Code → Code → Type 0
TellsIt now became said c e =
    (p : LmtpState) → ConnectionStands c p → (before : List Addressee) (it : Addressee) (after : List Addressee) (sender text : List ℕ) (is : IsOwed p before it after sender text)
    → (said ≡ recipient_lines became) × ConnectionStands e (lmtp_state_told now became p before it after sender text is)

-- what became of the message is noted at the next recipient, and at no other
abbrev pub NotesBecame : RecipientReply → Code → Code → Type 0
NotesBecame became c e =
    (before after : List Addressee) (it : Addressee) → c.addressees.items ≡ before ++ it ∷ after → length before ≡ c.progress.told → e.addressees.items ≡ before ++ record it { became = Some became } ∷ after

-- what became of the message for the recipient to whom a reply is owed next, if that was noted
abbrev pub noted : Code → Option RecipientReply
noted c = became_of (slice_get c.addressees.items c.progress.told)

-- the next recipient gets its reply by what was noted
abbrev pub TellsNoted : ℕ → List ℕ → Code → Code → Type 0
TellsNoted now said c e = (became : RecipientReply) → noted c ≡ Some became → TellsIt now became said c e

-- it stands for the same connection
abbrev pub ConnectionKeeps : Code → Code → Type 0
ConnectionKeeps c e = (p : LmtpState) → ConnectionStands c p → ConnectionStands e p

-- they stand for the same connections
abbrev pub StandsAlike : Code → Code → Type 0
StandsAlike c e = ConnectionKeeps c e × ConnectionKeeps e c

-- it stands for the connection that heard these octets
abbrev pub ConnectionHears : ℕ → List ℕ → Code → Code → Type 0
ConnectionHears now piece c e = (p : LmtpState) → ConnectionStands c p → ConnectionStands e (lmtp_state_heard now piece p)

-- no more octets of lines and of a text are held
abbrev pub ConnectionHoldsNoMore : Code → Code → Type 0
ConnectionHoldsNoMore c e = ReceiverHolds c.receiver e.receiver

-- this was done for it, and said
abbrev pub ConnectionDoes : ℕ → LmtpStep → List ℕ → Code → Code → Type 0
ConnectionDoes now lmtp_step said c e = (p : LmtpState) → ConnectionStands c p → (q : LmtpState) × LmtpGoes now p lmtp_step said q × ConnectionStands e q

-- there is room for this many octets: a MAIL that announces more came next and was refused; or none did, and nothing changed
abbrev pub ConnectionRefuses : ℕ → ℕ → List ℕ → Bool → Code → Code → Type 0
ConnectionRefuses now room said true c e = ConnectionDoes now (Declined room) said c e
ConnectionRefuses now room said false c e =
    (said ≡ []) × (e ≡ c) × ((p : LmtpState) → ConnectionStands c p → (octets : List ℕ) (later : Dialogue) → Declines room p.dialogue octets later → ⊥)

-- ---- what is to be done

abbrev pub IsNextForm : ℕ → Option ℕ → List (List ℕ) → Type 0
IsNextForm tried None others = others ≡ []
IsNextForm tried (Some count) others = (count ≡ tried + 1) × ((form : List ℕ) × (more : List (List ℕ)) × (others ≡ form ∷ more))

-- one form was asked for more than before, if another one follows
abbrev pub FormFollows : ℕ → ℕ → Option ℕ → Type 0
FormFollows tried count None = count ≡ tried + 1
FormFollows tried count (Some next) = (next ≡ tried + 1) × (next < count)

abbrev pub IsDemand : ℕ → LmtpState → Demand → Type 0
IsDemand now p demand.Nothing = ComesNext p.dialogue next.Need ⊎ ComesNext p.dialogue next.Over
IsDemand now p demand.Line = ComesNext p.dialogue next.Line
IsDemand now p demand.PutOff = HasWaited now p.progress × AsksRecipient p
IsDemand now p (demand.Account question) =
    MayAskStore now p.progress × ((others : List (List ℕ)) × IsFormAsked p question.address question.user others × IsNextForm p.progress.tried question.next others)
IsDemand now p (demand.Reply became) =
    (before : List Addressee) × (it : Addressee) × (after : List Addressee) × (sender text : List ℕ)
    × IsOwed p before it after sender text × IsReplyOwed now p before it text became
IsDemand now p demand.Noted =
    (before : List Addressee) × (it : Addressee) × (after : List Addressee) × (sender text : List ℕ) × (became : RecipientReply)
    × IsOwed p before it after sender text × (it.became ≡ Some became)
IsDemand now p demand.Delivery = MayAskStore now p.progress × AsksDelivery p

-- what is to be done next, whatever connection it stands for
abbrev pub Demands : ℕ → Code → Demand → Type 0
Demands now c demand = (p : LmtpState) → ConnectionStands c p → IsDemand now p demand

-- the store may be asked, and this is the request that it is given next, whatever connection it stands for
abbrev pub IsRequested : ℕ → Code → DeliveryRequest → Type 0
IsRequested now c request =
    (p : LmtpState) → ConnectionStands c p
    → MayAskStore now p.progress × ((before : List Addressee) × (it : Addressee) × (after : List Addressee) × (text : List ℕ) × IsDeliveryRequest p before it after text request)

-- those to whom a reply was made after the text
abbrev pub told_before : Code → List Addressee
told_before c = take c.progress.told c.addressees.items

-- a reply is owed to this recipient next, and the text is kept
abbrev pub Owes : Code → Addressee → List ℕ → List ℕ → Type 0
Owes c it sender text =
    (p : LmtpState) → ConnectionStands c p → (after : List Addressee) × IsOwed p (told_before c) it after sender text × (length text ≤ max_text)

-- the user of the recipient to whom a reply is owed next
abbrev pub next_user : Code → Option (List ℕ)
next_user c = option_map (λ (it : Addressee). it.user) (slice_get c.addressees.items c.progress.told)

-- the store may be asked for it, and may be given the text for this recipient
abbrev pub IsMessageDue : ℕ → Code → Addressee → List ℕ → List ℕ → Type 0
IsMessageDue now c it sender text =
    (p : LmtpState) → ConnectionStands c p → MayAskStore now p.progress × ((after : List Addressee) × IsDeliveryDue p (told_before c) it after sender text)

-- what becomes of the text for the recipient to whom a reply is owed next: that without the store, or else it is due
abbrev pub BecomesFor : ℕ → Code → Addressee → List ℕ → Option RecipientReply → Type 0
BecomesFor now c it text (Some became) = (sender : List ℕ) → Owes c it sender text → Demands now c (demand.Reply became)
BecomesFor now c it text None = (sender : List ℕ) → Owes c it sender text → IsMessageDue now c it sender text

-- what is said if the text isn't kept
abbrev pub reply_for : TextFault → LmtpReply
reply_for TooLarge = MessageTooLarge
reply_for Memory = NoRoom

-- there is memory for one more recipient
abbrev pub HasSlot : Code → Type 0
HasSlot c = vec_len c.addressees < vec_capacity c.addressees

-- the store is asked for
abbrev pub AsksIt : ℕ → Code → Type 0
AsksIt now c = (p : LmtpState) → ConnectionStands c p → MayAskStore now p.progress × LmtpAsksStore p
