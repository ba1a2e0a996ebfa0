-- What is answered in a dialogue, and how it goes on: the table of docs/LMTP.md.
use Rattle.std.specs.Prelude.{◌≡◌, ℕ, nat_le, nat_lt, Bool, true, false, ◌&&◌, if◌then◌else◌, List, [], ◌∷◌, ◌++◌, length, Option, Some, None}
use Rattle.lmtp_dialogue.specs.Dialogues.{DialoguePhase, Greeted, Ready, Opened, Asking, Sending, Over, Dialogue, dialogue_given, Item, Command, LongLine, Message, IsNextItem}
use Rattle.lmtp_dialogue.specs.ReadCommands.{ReadsLmtpCommand}
use Rattle.lmtp_dialogue.specs.Replies.{lmtp_line_of}
use Rattle.lmtp_dialogue.specs.RecipientReplies.{recipient_lines}
use Rattle.lmtp_dialogue.specs.declared.command.LmtpCommand.{LmtpCommand}
use Rattle.lmtp_dialogue.specs.declared.command.LmtpCommand.TheVariants as command
use Rattle.lmtp_dialogue.specs.declared.recipient_reply.RecipientReply.{RecipientReply}
use Rattle.lmtp_dialogue.specs.declared.reply.LmtpReply.{LmtpReply}
use Rattle.lmtp_dialogue.specs.declared.reply.LmtpReply.TheVariants as reply
use Rattle.lmtp_dialogue.specs.declared.receiver.Lookup.{Lookup}
use Rattle.lmtp_dialogue.specs.declared.receiver.Lookup.TheVariants.{Known, Unknown, Away, Fault, NoRoom}

-- ---- limits, this project's own

-- the most octets of a message
abbrev pub max_text : ℕ
max_text = 33552232

-- the most recipients of one
abbrev pub max_recipients : ℕ
max_recipients = 1000

-- ---- a command's turn

-- what is said to it, and what goes on then
pub record LmtpTurn : Type 0 where
  pub said : List ℕ
  pub phase : DialoguePhase

-- an answer of one line
abbrev pub says : LmtpReply → DialoguePhase → LmtpTurn
says answer phase = record { said = lmtp_line_of answer; phase = phase }

-- a size was announced that no message may have
abbrev pub is_too_large : Option ℕ → Bool
is_too_large None = false
is_too_large (Some size) = nat_lt max_text size

abbrev pub hello_turn : List ℕ → LmtpTurn
hello_turn hello = record { said = hello; phase = Ready }

abbrev pub opened_turn : List ℕ → LmtpTurn
opened_turn sender = says reply.SenderTaken (Opened sender [])

abbrev pub mail_turn : DialoguePhase → List ℕ → Option ℕ → LmtpTurn
mail_turn Ready sender size = if is_too_large size then says reply.MessageTooLarge Ready else opened_turn sender
mail_turn phase sender size = says reply.OutOfOrder phase

-- it is asked whether there is an account for one more recipient
abbrev pub asked_for : DialoguePhase → List ℕ → DialoguePhase
asked_for (Opened sender taken) address = Asking sender taken address
asked_for phase address = phase

-- nothing is said before that is known
abbrev pub rcpt_turn : DialoguePhase → List ℕ → LmtpTurn
rcpt_turn (Opened sender taken) address =
    if nat_le max_recipients (length taken) then says reply.TooManyRecipients (Opened sender taken)
    else record { said = []; phase = asked_for (Opened sender taken) address }
rcpt_turn phase address = says reply.OutOfOrder phase

abbrev pub data_turn : DialoguePhase → LmtpTurn
data_turn (Opened sender []) = says reply.NoRecipient (Opened sender [])
data_turn (Opened sender (recipient ∷ others)) = says reply.GoAhead (Sending sender (recipient ∷ others))
data_turn phase = says reply.OutOfOrder phase

-- a transaction is dropped
abbrev pub phase_reset : DialoguePhase → DialoguePhase
phase_reset Greeted = Greeted
phase_reset phase = Ready

abbrev pub reset_turn : DialoguePhase → LmtpTurn
reset_turn phase = says reply.Done (phase_reset phase)

abbrev pub quit_turn : LmtpTurn
quit_turn = says reply.Goodbye Over

-- the turn of a command, if `hello` is said to LHLO
abbrev pub command_turn : List ℕ → DialoguePhase → LmtpCommand → LmtpTurn
command_turn hello phase (command.Lhlo name) = hello_turn hello
command_turn hello phase (command.Mail mail) = mail_turn phase mail.from.now mail.size
command_turn hello phase (command.Rcpt address) = rcpt_turn phase address.now
command_turn hello phase command.Data = data_turn phase
command_turn hello phase command.Rset = reset_turn phase
command_turn hello phase command.Noop = says reply.Done phase
command_turn hello phase command.Vrfy = says reply.Unverified phase
command_turn hello phase command.Help = says reply.Helped phase
command_turn hello phase command.Quit = quit_turn
command_turn hello phase (command.Refused answer) = says answer phase

-- ---- what happens in a dialogue

-- the turn of a line
abbrev pub IsLineTurn : List ℕ → DialoguePhase → Item → LmtpTurn → Type 0
IsLineTurn hello phase (Command line) turn = (asked : LmtpCommand) × ReadsLmtpCommand line asked × (turn ≡ command_turn hello phase asked)
IsLineTurn hello phase LongLine turn = turn ≡ says reply.LineTooLong phase
IsLineTurn hello phase (Message text) turn = ⊥

-- the line that comes first is taken off and answered so
pub record DialogueAnswers (hello : List ℕ) (d : Dialogue) (said : List ℕ) (e : Dialogue) : Type 0 where
  pub item : Item
  pub rest : List ℕ
  pub turn : LmtpTurn
  pub first : IsNextItem d item rest
  pub takes : IsLineTurn hello d.phase item turn
  pub told : said ≡ turn.said
  pub leaves : e ≡ record { phase = turn.phase; unread = rest }

-- the size that a MAIL announces
abbrev pub announced_size : LmtpCommand → Option ℕ
announced_size (command.Mail mail) = mail.size
announced_size asked = None

-- more is announced than there is room for, and no more than a message may have
abbrev pub lacks_room : ℕ → Option ℕ → Bool
lacks_room room None = false
lacks_room room (Some size) = nat_lt room size && nat_le size max_text

-- there is room for a message of this many octets, and the MAIL that comes first and may come now announces more: it is taken off and
-- refused
pub record Declines (room : ℕ) (d : Dialogue) (said : List ℕ) (e : Dialogue) : Type 0 where
  pub line : List ℕ
  pub rest : List ℕ
  pub asked : LmtpCommand
  pub ready : d.phase ≡ Ready
  pub first : IsNextItem d (Command line) rest
  pub reads : ReadsLmtpCommand line asked
  pub lacks : lacks_room room (announced_size asked) ≡ true
  pub told : said ≡ lmtp_line_of reply.NoRoom
  pub leaves : e ≡ record d { unread = rest }

-- the reply to a recipient
abbrev pub lookup_reply : Lookup → LmtpReply
lookup_reply Known = reply.RecipientTaken
lookup_reply Unknown = reply.NoSuchUser
lookup_reply Away = reply.StoreAway
lookup_reply Fault = reply.LocalFault
lookup_reply NoRoom = reply.NoRoom

-- the recipients that are taken then
abbrev pub taken_by : Lookup → List (List ℕ) → List ℕ → List (List ℕ)
taken_by Known taken address = taken ++ address ∷ []
taken_by lookup taken address = taken

-- whether there is an account was asked, and this is the answer
pub record Resolves (d : Dialogue) (lookup : Lookup) (said : List ℕ) (e : Dialogue) : Type 0 where
  pub sender : List ℕ
  pub taken : List (List ℕ)
  pub address : List ℕ
  pub asked : d.phase ≡ Asking sender taken address
  pub told : said ≡ lmtp_line_of (lookup_reply lookup)
  pub leaves : e ≡ record d { phase = Opened sender (taken_by lookup taken address) }

-- one recipient's reply is no longer owed; with the last one the text is taken off
abbrev pub replied : List ℕ → List (List ℕ) → Dialogue → List ℕ → Dialogue
replied sender [] d rest = record { phase = Ready; unread = rest }
replied sender (next ∷ left) d rest = record d { phase = Sending sender (next ∷ left) }

-- the text is whole, and this became of it for the first recipient for whom a reply is owed
pub record DialogueReplies (d : Dialogue) (outcome : RecipientReply) (said : List ℕ) (e : Dialogue) : Type 0 where
  pub sender : List ℕ
  pub recipient : List ℕ
  pub left : List (List ℕ)
  pub text : List ℕ
  pub rest : List ℕ
  pub owed : d.phase ≡ Sending sender (recipient ∷ left)
  pub first : IsNextItem d (Message text) rest
  pub told : said ≡ recipient_lines outcome
  pub leaves : e ≡ replied sender left d rest

-- ---- dialogues

pub data DialogueAct : Type 0 where
  -- octets of the client come
  Hears : List ℕ → DialogueAct
  -- a line is answered
  Says : List ℕ → DialogueAct
  -- it is found whether there is an account, and said
  Tells : Lookup → List ℕ → DialogueAct
  -- a message was delivered to one recipient, or wasn't, and this is said
  Reports : RecipientReply → List ℕ → DialogueAct

abbrev pub DialogueGoes : List ℕ → Dialogue → DialogueAct → Dialogue → Type 0
DialogueGoes hello d (Hears piece) e = e ≡ dialogue_given piece d
DialogueGoes hello d (Says octets) e = DialogueAnswers hello d octets e
DialogueGoes hello d (Tells lookup octets) e = Resolves d lookup octets e
DialogueGoes hello d (Reports outcome octets) e = DialogueReplies d outcome octets e

-- these acts, one after another
abbrev pub DialogueTalks : List ℕ → Dialogue → List DialogueAct → Dialogue → Type 0
DialogueTalks hello d [] e = e ≡ d
DialogueTalks hello d (act ∷ acts) e = (next : Dialogue) × DialogueGoes hello d act next × DialogueTalks hello next acts e

-- a line has one answer, and what is answered stays so, whatever follows
pub record AnswersStand : Type 0 where
  pub one : (hello : List ℕ) (d e f : Dialogue) (said other : List ℕ) → DialogueAnswers hello d said e → DialogueAnswers hello d other f → (said ≡ other) × (e ≡ f)
  pub line : (hello : List ℕ) (d e : Dialogue) (said more : List ℕ) → DialogueAnswers hello d said e → DialogueAnswers hello (dialogue_given more d) said (dialogue_given more e)
  pub lookup : (d e : Dialogue) (lookup : Lookup) (said more : List ℕ) → Resolves d lookup said e → Resolves (dialogue_given more d) lookup said (dialogue_given more e)
  pub outcome : (d e : Dialogue) (outcome : RecipientReply) (said more : List ℕ) → DialogueReplies d outcome said e → DialogueReplies (dialogue_given more d) outcome said (dialogue_given more e)
