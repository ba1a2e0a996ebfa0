-- One connection of LMTP, as a daemon serves it: what goes on in it, and what may be done for it.
use Rattle.std.specs.Prelude.{◌≡◌, ◌⊎◌, ℕ, ◌+◌, ◌<◌, ◌≤◌, ◌&&◌, nat_eq, nat_lt, Bool, true, false, if◌then◌else◌, List, [], ◌∷◌, ◌++◌, length, find, Option, Some, None}
use Rattle.std.specs.Cmp.Lexicographic.{pointwise}
use Rattle.mail_head.specs.Heads.{body_start}
use Rattle.lmtp_dialogue.specs.Copies.{IsCopy, was_delivered}
use Rattle.lmtp_dialogue.specs.Dialogues.{DialoguePhase, Greeted, Ready, Opened, Asking, Sending, Over, Dialogue, new_dialogue, dialogue_given, Message, IsNextItem}
use Rattle.lmtp_dialogue.specs.Names.{AreForms}
use Rattle.lmtp_dialogue.specs.RecipientReplies.{recipient_lines}
use Rattle.lmtp_dialogue.specs.Replies.{lmtp_capabilities}
use Rattle.lmtp_dialogue.specs.Turns.{max_text, DialogueAnswers, Declines, Resolves, replied}
use Rattle.lmtp_dialogue.specs.declared.name.Names.{Names}
use Rattle.lmtp_dialogue.specs.declared.receiver.Lookup.{Lookup}
use Rattle.lmtp_dialogue.specs.declared.receiver.Lookup.TheVariants.{Known, Unknown, Away as Absent}
use Rattle.lmtp_dialogue.specs.declared.reply.LmtpReply.TheVariants.{MessageTooLarge, HeaderTooLarge, NoRoom, MailLoop, StoreAway}
use Rattle.lmtp_connections.specs.declared.addressee.Addressee.{Addressee}
use Rattle.lmtp_dialogue.specs.declared.recipient_reply.RecipientReply.{RecipientReply}
use Rattle.lmtp_dialogue.specs.declared.recipient_reply.RecipientReply.TheVariants.{Refused}
use Rattle.lmtp_connections.specs.declared.demand.DeliveryRequest.{DeliveryRequest}
use Rattle.lmtp_connections.specs.declared.progress.LmtpProgress.{LmtpProgress}
use Rattle.lmtp_connections.specs.Progress.{new_progress, MayAskStore, HasWaited, progress_away, progress_done, progress_settled, progress_heard}

-- ---- its state

-- what names an account; what is said to LHLO; the dialogue (its client's octets, and what was answered); the recipients that were taken,
-- each with its account, while a transaction is open; how far that has come
pub record LmtpState : Type 0 where
  pub names : Names
  pub hello : List ℕ
  pub dialogue : Dialogue
  pub addressees : List Addressee
  pub progress : LmtpProgress

-- one that has just come
abbrev pub new_lmtp_state : Names → List ℕ → ℕ → LmtpState
new_lmtp_state names host now =
    record { names = names; hello = lmtp_capabilities host; dialogue = new_dialogue; addressees = []; progress = new_progress now }

-- a transaction is open, until the last reply after its text
abbrev pub is_transaction_open : DialoguePhase → Bool
is_transaction_open Greeted = false
is_transaction_open Ready = false
is_transaction_open (Opened sender taken) = true
is_transaction_open (Asking sender taken address) = true
is_transaction_open (Sending sender left) = true
is_transaction_open Over = false

abbrev pub is_sending : DialoguePhase → Bool
is_sending (Sending sender left) = true
is_sending phase = false

-- octets came
abbrev pub lmtp_state_heard : ℕ → List ℕ → LmtpState → LmtpState
lmtp_state_heard now piece p = record p { dialogue = dialogue_given piece p.dialogue; progress = progress_heard now (is_sending p.dialogue.phase) (length piece) p.progress }

abbrev pub has_some : List Addressee → Bool
has_some [] = false
has_some (it ∷ others) = true

-- the dialogue goes on so, with these recipients; if no transaction is open any more nothing of it is left
abbrev pub lmtp_state_after : ℕ → Dialogue → List Addressee → LmtpProgress → LmtpState → LmtpState
lmtp_state_after now later addressees progress p = record p {
  dialogue = later;
  addressees = if is_transaction_open later.phase then addressees else [];
  progress = progress_settled now (is_transaction_open later.phase) (has_some addressees) progress;
}

-- ---- what is done for it

pub data LmtpStep : Type 0 where
  -- what comes first was answered without the store
  Answered : LmtpStep
  -- a MAIL came first that announces more octets than that, for which there was room, and it was refused (RFC 1870, section 6.1)
  Declined : ℕ → LmtpStep
  -- the store was asked whether there is an account of that name, and this was found
  Asked : List ℕ → Lookup → LmtpStep
  -- the store was asked for, and wasn't available
  Away : LmtpStep
  -- a message is to be delivered by the store, with those of others that are; nothing is said before it was
  Gathered : LmtpStep
  -- the store was to deliver a message, and this became of it; the reply follows
  Brought : DeliveryRequest → RecipientReply → LmtpStep

-- ---- a line

pub record AnswersLine (now : ℕ) (p : LmtpState) (said : List ℕ) (q : LmtpState) : Type 0 where
  pub later : Dialogue
  pub answers : DialogueAnswers p.hello p.dialogue said later
  pub leaves : q ≡ lmtp_state_after now later p.addressees p.progress p

-- there was room for this many octets, and the MAIL that comes first announces more
pub record DeclinesLine (now room : ℕ) (p : LmtpState) (said : List ℕ) (q : LmtpState) : Type 0 where
  pub later : Dialogue
  pub declines : Declines room p.dialogue said later
  pub leaves : q ≡ lmtp_state_after now later p.addressees p.progress p

-- ---- a recipient

-- the form of its name that is looked for next, and the forms after that
pub record IsFormAsked (p : LmtpState) (address user : List ℕ) (others : List (List ℕ)) : Type 0 where
  pub sender : List ℕ
  pub taken : List (List ℕ)
  pub asks : p.dialogue.phase ≡ Asking sender taken address
  pub before : List (List ℕ)
  pub forms : AreForms p.names address (before ++ user ∷ others)
  pub count : length before ≡ p.progress.tried

abbrev pub next_form : LmtpProgress → LmtpProgress
next_form t = record t { tried = t.tried + 1 }

abbrev pub first_form : LmtpProgress → LmtpProgress
first_form t = record t { tried = 0 }

-- if there is an account the recipient is taken, with the name under which it was found
abbrev pub taken_with : Lookup → List ℕ → List ℕ → List Addressee → List Addressee
taken_with Known user address addressees = addressees ++ record { user = user; address = address; became = None } ∷ []
taken_with lookup user address addressees = addressees

-- the recipient is answered
pub record Resolved (now : ℕ) (p : LmtpState) (lookup : Lookup) (addressees : List Addressee) (said : List ℕ) (q : LmtpState) : Type 0 where
  pub later : Dialogue
  pub resolves : Resolves p.dialogue lookup said later
  pub leaves : q ≡ lmtp_state_after now later addressees (first_form p.progress) p

-- the store has said what is found; only if there is none under the last form there is none
abbrev pub LookupFinds : ℕ → LmtpState → List ℕ → List ℕ → List (List ℕ) → Lookup → List ℕ → LmtpState → Type 0
LookupFinds now p address user (next ∷ others) Unknown said q = (said ≡ []) × (q ≡ record p { progress = next_form (progress_done now p.progress) })
LookupFinds now p address user others lookup said q = Resolved now p lookup (taken_with lookup user address p.addressees) said q

-- the store's absence is no finding
abbrev pub IsFinding : Lookup → Type 0
IsFinding Absent = ⊥
IsFinding lookup = Unit {0}

-- ---- the text

-- the recipient to whom a reply is owed next, with those before it and after it; the text is whole
pub record IsOwed (p : LmtpState) (before : List Addressee) (it : Addressee) (after : List Addressee) (sender text : List ℕ) : Type 0 where
  pub left : List (List ℕ)
  pub rest : List ℕ
  pub owed : p.dialogue.phase ≡ Sending sender (it.address ∷ left)
  pub first : IsNextItem p.dialogue (Message text) rest
  pub addressees : p.addressees ≡ before ++ it ∷ after
  pub count : length before ≡ p.progress.told

-- the same account, with the same address
abbrev pub is_same : Addressee → Addressee → Bool
is_same it other = pointwise nat_eq other.user it.user && pointwise nat_eq other.address it.address

abbrev pub became_of : Option Addressee → Option RecipientReply
became_of None = None
became_of (Some other) = other.became

-- what became of the message for the same recipient among those before it
abbrev pub earlier : List Addressee → Addressee → Option RecipientReply
earlier before it = became_of (find (is_same it) before)

-- the most octets of a text's header, with the empty line that ends it: a message's own, 1,048,576, less 2,200 for the two fields that a
-- delivery has at its start
abbrev pub max_text_header : ℕ
max_text_header = 1046376

-- whether a text's header has more: if no line is empty all of the text is its header
abbrev pub has_long_text_header : List ℕ → Bool
has_long_text_header text = nat_lt max_text_header (body_start text)

-- a message that the store may be given: nothing became of it yet; it is kept, was delivered for no such recipient before, its header is no
-- longer than one may be, and it didn't come to that recipient before
pub record IsNewDelivery (before : List Addressee) (it : Addressee) (text : List ℕ) : Type 0 where
  pub fresh : it.became ≡ None
  pub small : length text ≤ max_text
  pub once : earlier before it ≡ None
  pub headed : has_long_text_header text ≡ false
  pub straight : was_delivered it.address text ≡ false

-- what became of it without the store: it is too large; memory was lacking for it; it was delivered or refused already, for the same
-- recipient; its header is too large; it went in a circle; or the store was away for too long
pub data BecomesWithoutStore (now : ℕ) (p : LmtpState) (before : List Addressee) (it : Addressee) (text : List ℕ) (became : RecipientReply) : Type 0 where
  TooLarge : max_text < length text → became ≡ Refused MessageTooLarge → BecomesWithoutStore now p before it text became
  Lacked : became ≡ Refused NoRoom → BecomesWithoutStore now p before it text became
  Again : earlier before it ≡ Some became → BecomesWithoutStore now p before it text became
  LongHeader : has_long_text_header text ≡ true → became ≡ Refused HeaderTooLarge → BecomesWithoutStore now p before it text became
  Circles : was_delivered it.address text ≡ true → became ≡ Refused MailLoop → BecomesWithoutStore now p before it text became
  PutOff : IsNewDelivery before it text → HasWaited now p.progress → became ≡ Refused StoreAway → BecomesWithoutStore now p before it text became

-- the reply that is owed: what became of the message, if something did; otherwise what becomes of it without the store
abbrev pub IsReplyOwed : ℕ → LmtpState → List Addressee → Addressee → List ℕ → RecipientReply → Type 0
IsReplyOwed now p before it text became = (it.became ≡ Some became) ⊎ ((it.became ≡ None) × BecomesWithoutStore now p before it text became)

abbrev pub next_recipient : LmtpProgress → LmtpProgress
next_recipient t = record t { told = t.told + 1 }

-- after the reply: what became of the message is noted
abbrev pub lmtp_state_told : ℕ → RecipientReply → (p : LmtpState) (before : List Addressee) (it : Addressee) (after : List Addressee) (sender text : List ℕ) → IsOwed p before it after sender text → LmtpState
lmtp_state_told now became p before it after sender text is =
    lmtp_state_after now (replied sender is.left p.dialogue is.rest) (before ++ record it { became = Some became } ∷ after) (next_recipient p.progress) p

-- the reply is made
pub record Replied (now : ℕ) (p : LmtpState) (became : RecipientReply) (said : List ℕ) (q : LmtpState) : Type 0 where
  pub before : List Addressee
  pub it : Addressee
  pub after : List Addressee
  pub sender : List ℕ
  pub text : List ℕ
  pub is : IsOwed p before it after sender text
  pub says : said ≡ recipient_lines became
  pub leaves : q ≡ lmtp_state_told now became p before it after sender text is

-- the store may be given the message, for the recipient to whom a reply is owed next
pub record IsDeliveryDue (p : LmtpState) (before : List Addressee) (it : Addressee) (after : List Addressee) (sender text : List ℕ) : Type 0 where
  pub is : IsOwed p before it after sender text
  pub new : IsNewDelivery before it text

-- the message that is delivered: to the account of the recipient to whom a reply is owed next, from the sender, and its copy
pub record IsDeliveryRequest (p : LmtpState) (before : List Addressee) (it : Addressee) (after : List Addressee) (text : List ℕ) (request : DeliveryRequest) : Type 0 where
  pub is : IsOwed p before it after request.sender text
  pub user : request.user ≡ it.user
  pub recipient : request.recipient ≡ it.address
  pub copy : IsCopy request.sender request.recipient text request.message
  pub new : IsNewDelivery before it text

-- what became of it is noted, and no reply is made yet
abbrev pub lmtp_state_brought : ℕ → RecipientReply → LmtpState → List Addressee → Addressee → List Addressee → LmtpState
lmtp_state_brought now became p before it after = record p {
  addressees = before ++ record it { became = Some became } ∷ after;
  progress = progress_settled now true true p.progress;
}

-- the store was given the request, and this became of it
pub record BroughtFor (now : ℕ) (p : LmtpState) (request : DeliveryRequest) (became : RecipientReply) (q : LmtpState) : Type 0 where
  pub before : List Addressee
  pub it : Addressee
  pub after : List Addressee
  pub text : List ℕ
  pub is : IsDeliveryRequest p before it after text request
  pub leaves : q ≡ lmtp_state_brought now became p before it after

-- ---- one step

-- a message is to be delivered by the store
abbrev pub AsksDelivery : LmtpState → Type 0
AsksDelivery p = (before : List Addressee) × (it : Addressee) × (after : List Addressee) × (sender text : List ℕ) × IsDeliveryDue p before it after sender text

-- the store is asked for: for an account, or for a delivery
abbrev pub LmtpAsksStore : LmtpState → Type 0
LmtpAsksStore p = ((address user : List ℕ) × (others : List (List ℕ)) × IsFormAsked p address user others) ⊎ AsksDelivery p

-- a line is answered; a recipient is put off if the store was away for too long; or a reply is made after the text
abbrev pub AnswersWithoutStore : ℕ → LmtpState → List ℕ → LmtpState → Type 0
AnswersWithoutStore now p said q =
    AnswersLine now p said q
    ⊎ ((HasWaited now p.progress × Resolved now p Absent p.addressees said q)
    ⊎ ((became : RecipientReply) × (replies : Replied now p became said q) × IsReplyOwed now p replies.before replies.it replies.text became))

abbrev pub LmtpGoes : ℕ → LmtpState → LmtpStep → List ℕ → LmtpState → Type 0
LmtpGoes now p Answered said q = AnswersWithoutStore now p said q
LmtpGoes now p (Declined room) said q = DeclinesLine now room p said q
LmtpGoes now p (Asked user lookup) said q =
    MayAskStore now p.progress × IsFinding lookup
    × ((address : List ℕ) × (others : List (List ℕ)) × IsFormAsked p address user others × LookupFinds now p address user others lookup said q)
LmtpGoes now p Away said q = MayAskStore now p.progress × LmtpAsksStore p × (said ≡ []) × (q ≡ record p { progress = progress_away now p.progress })
LmtpGoes now p Gathered said q = MayAskStore now p.progress × AsksDelivery p × (said ≡ []) × (q ≡ p)
LmtpGoes now p (Brought request became) said q = MayAskStore now p.progress × (said ≡ []) × BroughtFor now p request became q
