-- For which dialogue a receiver stands, and what its calls make of that.
use Rattle.std.specs.Prelude.{◌≡◌, ◌≢◌, ◌⊎◌, ℕ, ◌+◌, ◌<◌, ◌≤◌, Bool, true, false, List, [], ◌∷◌, ◌++◌, length, take, Result, Ok, Err, IsSome}
use Rattle.std.specs.Borrow.{Bor}
use Rattle.lmtp_dialogue.specs.Dialogues.{DialoguePhase, Asking, Sending, Over, Dialogue, dialogue_given, Item, Message, IsNextItem, DialogueWaits}
use Rattle.lmtp_dialogue.specs.Lines.{line_end, HasNoLineEnd, max_line, LineFinds}
use Rattle.lmtp_dialogue.specs.ReadCommands.{ReadsLmtpCommand}
use Rattle.lmtp_dialogue.specs.Talks.{phase_of, IsTalkSound}
use Rattle.lmtp_dialogue.specs.Texts.{TextStandsFor, held_text}
use Rattle.lmtp_dialogue.specs.Turns.{DialogueAnswers, Resolves, DialogueReplies, max_text, Declines, announced_size, lacks_room}
use Rattle.lmtp_dialogue.specs.declared.command_line.Found.TheVariants.{TooLong}
use Rattle.lmtp_dialogue.specs.declared.command.LmtpCommand.{LmtpCommand}
use Rattle.lmtp_dialogue.specs.declared.receiver.ReceivedMessage.{ReceivedMessage}
use Rattle.lmtp_dialogue.specs.declared.receiver.Lookup.{Lookup}
use Rattle.lmtp_dialogue.specs.declared.receiver.Next.{Next}
use Rattle.lmtp_dialogue.specs.declared.receiver.Next.TheVariants as next
use Rattle.lmtp_dialogue.specs.declared.receiver.Receiver.{Receiver}
use Rattle.lmtp_dialogue.specs.declared.receiver.LmtpStage.{LmtpStage}
use Rattle.lmtp_dialogue.specs.declared.receiver.LmtpStage.TheVariants as stage
use Rattle.lmtp_dialogue.specs.declared.recipient_reply.RecipientReply.{RecipientReply}
use Rattle.lmtp_dialogue.specs.declared.talk.Talk.{Talk}
use Rattle.lmtp_dialogue.specs.declared.message_text.TextState.TheVariants.{Ended}
use Rattle.lmtp_dialogue.specs.declared.message_text.Text.{Text}
use Rattle.lmtp_dialogue.specs.declared.message_text.TextFault.{TextFault}
use Rattle.lmtp_dialogue.specs.declared.message_text.TextFault.TheVariants.{TooLarge, Memory}

-- ---- what a receiver has heard

-- a stream that begins so: with these octets and more, or with a prefix of them
abbrev pub AgreesWithStream : List ℕ → List ℕ → Type 0
AgreesWithStream octets stream = ((more : List ℕ) × (stream ≡ octets ++ more)) ⊎ ((more : List ℕ) × (octets ≡ stream ++ more))

-- octets which make no line end with a stream that begins so
abbrev pub JoinsNone : List ℕ → List ℕ → Type 0
JoinsNone gone unread = (stream : List ℕ) → AgreesWithStream unread stream → HasNoLineEnd stream → HasNoLineEnd (gone ++ stream)

-- octets of a line which aren't held: none, or all but the last ones if there are too many
abbrev pub IsLineGone : Bool → List ℕ → List ℕ → Type 0
IsLineGone false unread gone = gone ≡ []
IsLineGone true unread gone = JoinsNone gone unread × (unread ≢ []) × (max_line < length gone + 2)

-- octets of the item that comes first which aren't held as they came: those of a text, or of a line
abbrev pub IsItemGone : LmtpStage → Bool → Text → List ℕ → List ℕ → Type 0
IsItemGone stage.Sending long text unread gone = (long ≡ false) × TextStandsFor text gone
IsItemGone stage.Over long text unread gone = Unit {0}
IsItemGone other long text unread gone = IsLineGone long unread gone

-- these octets came after the items that were answered
pub record HasHeard (r : Receiver) (octets : List ℕ) : Type 0 where
  pub gone : List ℕ
  pub is : IsItemGone r.talk.stage r.long r.talk.text r.unread gone
  pub written : octets ≡ gone ++ r.unread

-- this goes on in it, and it has heard the octets that are unread
pub record HoldsDialogue (r : Receiver) (d : Dialogue) : Type 0 where
  pub phase : d.phase ≡ phase_of r.talk
  pub heard : HasHeard r d.unread
  pub sound : IsTalkSound r.talk
  pub limit : r.talk.text.limit ≡ max_text

-- of a line that has too many octets the last one is held, or its CRLF and what follows it
abbrev pub IsLineTaken : Bool → List ℕ → Type 0
IsLineTaken false unread = LineFinds TooLong unread → ⊥
IsLineTaken true unread = ((octet : ℕ) × (unread ≡ octet ∷ [])) ⊎ ((rest : List ℕ) × (unread ≡ line_end ++ rest))

-- nothing of a text that goes on, and nothing after QUIT
abbrev pub IsItemTaken : LmtpStage → Bool → Text → List ℕ → Type 0
IsItemTaken stage.Sending long text unread = text.place ≢ Ended → unread ≡ []
IsItemTaken stage.Over long text unread = unread ≡ []
IsItemTaken other long text unread = IsLineTaken long unread

-- the dialogue for which it stands
pub record StandsIn (r : Receiver) (d : Dialogue) : Type 0 where
  pub holds : HoldsDialogue r d
  pub taken : IsItemTaken r.talk.stage r.long r.talk.text r.unread

-- ---- what its calls make of it

-- octets came
abbrev pub ReceiverHears : Receiver → List ℕ → Receiver → Type 0
ReceiverHears r piece s = (d : Dialogue) → StandsIn r d → StandsIn s (dialogue_given piece d)

-- what is held was taken in
abbrev pub ReceiverTakesIn : Receiver → Receiver → Type 0
ReceiverTakesIn r s = (d : Dialogue) → HoldsDialogue r d → StandsIn s d

-- it happens, or it can't and nothing does
abbrev pub HappensOrNothing : (Dialogue → List ℕ → Dialogue → Type 0) → Dialogue → List ℕ → Dialogue → Type 0
HappensOrNothing Is d said e = Is d said e ⊎ (((octets : List ℕ) (later : Dialogue) → Is d octets later → ⊥) × (said ≡ []) × (e ≡ d))

-- what was said between two outputs, and the dialogue for which it stands then
pub record GoesFrom (Is : Dialogue → List ℕ → Dialogue → Type 0) (d : Dialogue) (s : Receiver) (before after : List ℕ) : Type 0 where
  pub said : List ℕ
  pub next : Dialogue
  pub happens : HappensOrNothing Is d said next
  pub written : after ≡ before ++ said
  pub stands : StandsIn s next

-- what a call makes of a receiver, whatever dialogue it stands for
abbrev pub ReceiverGoes : (Dialogue → List ℕ → Dialogue → Type 0) → Receiver → Receiver → List ℕ → List ℕ → Type 0
ReceiverGoes Is r s before after = (d : Dialogue) → StandsIn r d → GoesFrom Is d s before after

-- the same, and it happens
pub record DoesFrom (Is : Dialogue → List ℕ → Dialogue → Type 0) (d : Dialogue) (s : Receiver) (before after : List ℕ) : Type 0 where
  pub said : List ℕ
  pub next : Dialogue
  pub does : Is d said next
  pub written : after ≡ before ++ said
  pub stands : StandsIn s next

-- it was found whether there is an account for the recipient that comes next, and the caller says it; if none does, nothing changes
abbrev pub ReceiverAdmits : Lookup → Receiver → Receiver → Type 0
ReceiverAdmits lookup r s = (said : List ℕ) × ReceiverGoes (λ d. Resolves d lookup) r s [] said

-- a reply is made to the next recipient to whom the message is to be delivered, whatever it says; if there is none, nothing changes
abbrev pub ReceiverPasses : Receiver → Receiver → Type 0
ReceiverPasses r s = (outcome : RecipientReply) → (said : List ℕ) × ReceiverGoes (λ d. DialogueReplies d outcome) r s [] said

-- if a text is sent, nothing of it is kept, and its recipients are told why
abbrev pub IsDropped : Talk → Type 0
IsDropped t = t.stage ≡ stage.Sending → (t.text.kept ≡ []) × IsSome t.text.fault

-- how many octets of lines and of a text it holds
abbrev pub held_by : Receiver → ℕ
held_by r = length r.unread + held_text r.talk.text

-- no more than that
abbrev pub ReceiverHoldsNoMore : Receiver → Receiver → Type 0
ReceiverHoldsNoMore r s = held_by s ≤ held_by r

-- ---- what comes next

abbrev pub reads_lines : LmtpStage → Bool
reads_lines stage.Greeted = true
reads_lines stage.Ready = true
reads_lines stage.Opened = true
reads_lines other = false

-- and a line that is too long may be dropped
abbrev pub takes_lines : LmtpStage → Bool
takes_lines stage.Asking = true
takes_lines other = reads_lines other

-- octets of the client are read
abbrev pub is_heard : DialoguePhase → Bool
is_heard (Asking sender taken address) = false
is_heard Over = false
is_heard phase = true

abbrev pub is_line : Item → Bool
is_line (Message text) = false
is_line item = true

-- the text as it is kept, or why it isn't: it has too many octets, or memory was lacking
abbrev pub IsKept : List ℕ → Result (Bor (List ℕ)) TextFault → Type 0
IsKept text (Ok kept) = (kept.now ≡ text) × (length text ≤ max_text)
IsKept text (Err TooLarge) = max_text < length text
IsKept text (Err Memory) = Unit {0}

-- the text is whole, and this is the first recipient for whom a reply is owed
pub record IsDelivery (d : Dialogue) (received : ReceivedMessage) : Type 0 where
  pub left : List (List ℕ)
  pub text : List ℕ
  pub rest : List ℕ
  pub owed : d.phase ≡ Sending received.sender.now (received.recipient.now ∷ left)
  pub first : IsNextItem d (Message text) rest
  pub kept : IsKept text received.text

-- what comes next: more octets, a line, a recipient to look up, a delivery
abbrev pub ComesNext : Dialogue → Next → Type 0
ComesNext d next.Need = (is_heard d.phase ≡ true) × DialogueWaits d
ComesNext d next.Line = (item : Item) × (rest : List ℕ) × IsNextItem d item rest × (is_line item ≡ true)
ComesNext d (next.Recipient address) = (sender : List ℕ) × (taken : List (List ℕ)) × (d.phase ≡ Asking sender taken address.now)
ComesNext d (next.Delivery received) = IsDelivery d received
ComesNext d next.Over = d.phase ≡ Over

-- a line that comes next was answered
abbrev pub SaysNext : Receiver → Receiver → List ℕ → List ℕ → Type 0
SaysNext r s before after = (d : Dialogue) → StandsIn r d → ComesNext d next.Line → DoesFrom (DialogueAnswers r.talk.hello) d s before after

-- a MAIL for whose size there is no room came next and was refused, or none did and nothing changed
abbrev pub ReceiverRefuses : ℕ → Receiver → Receiver → List ℕ → List ℕ → Bool → Type 0
ReceiverRefuses room r s before after true = (d : Dialogue) → StandsIn r d → DoesFrom (Declines room) d s before after
ReceiverRefuses room r s before after false =
    (s ≡ r) × (after ≡ before) × ((d : Dialogue) → StandsIn r d → (said : List ℕ) (next : Dialogue) → Declines room d said next → ⊥)

-- whether the line of this many octets that comes next is such a MAIL
abbrev pub IsOverRoom : ℕ → Receiver → ℕ → Bool → Type 0
IsOverRoom room r count over =
    ((r.long ≡ true) × (over ≡ false)) ⊎ ((r.long ≡ false) × ((asked : LmtpCommand) × ReadsLmtpCommand (take count r.unread) asked × (over ≡ lacks_room room (announced_size asked))))
