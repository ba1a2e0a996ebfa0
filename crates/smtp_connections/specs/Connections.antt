-- One connection to a server of SMTP: what is written, and what is made of what comes.
use Rattle.std.specs.Prelude.{◌≡◌, ◌⊎◌, ℕ, ◌+◌, ◌<◌, ◌≤◌, ◌||◌, Bool, true, false, List, [], ◌∷◌, ◌++◌, length, take, drop, codes, Option, Some, None}
use Rattle.lmtp_dialogue.specs.Lines.{LineFinds, line_end}
use Rattle.lmtp_dialogue.specs.declared.command_line.Found.{Found}
use Rattle.lmtp_dialogue.specs.declared.command_line.Found.TheVariants.{Need, Line, TooLong}
use Rattle.smtp_dialogue.specs.Messages.{SmtpMail, IsMailAddressed, IsOffered, mail_line, rcpt_line, data_line, rset_line, quit_line, ehlo_line}
use Rattle.smtp_dialogue.specs.Sent.{sent_from, sent_start}
use Rattle.smtp_dialogue.specs.Extensions.{OffersExtensions, no_extensions}
use Rattle.smtp_dialogue.specs.declared.extension.Extensions.{Extensions}
use Rattle.smtp_dialogue.specs.declared.dialogue.SmtpStage.TheVariants.{Sender, Recipient, Data, Text}
use Rattle.smtp_dialogue.specs.declared.dialogue.Ending.{Ending}
use Rattle.smtp_dialogue.specs.declared.dialogue.Ending.TheVariants.{Sent, Refused, Delayed, OutOfPlace, Lost, Undeclared, Unaddressed}
use Rattle.smtp_send.specs.declared.peer.Patience.{Patience}
use Rattle.smtp_send.specs.declared.peer.Patience.TheVariants as patience
use Rattle.smtp_connections.specs.Answers.{Answers}
use Rattle.smtp_connections.specs.Exchanges.{lost_at, phase_after, ending_by}
use Rattle.smtp_connections.specs.declared.answer.SmtpAnswer.{SmtpAnswer}
use Rattle.smtp_connections.specs.declared.answer.SmtpAnswer.TheVariants.{Part, Whole, NoReply, LongLine}
use Rattle.smtp_connections.specs.declared.end.SmtpEnd.{SmtpEnd}
use Rattle.smtp_connections.specs.declared.end.SmtpEnd.TheVariants as ends
use Rattle.smtp_connections.specs.declared.exchange.SmtpExchange.{SmtpExchange}
use Rattle.smtp_connections.specs.declared.exchange.SmtpExchange.TheVariants.{Greeting, Ehlo, Helo, Message, Reset, Quit}
use Rattle.smtp_connections.specs.declared.exchange.SmtpPhase.{SmtpPhase}
use Rattle.smtp_connections.specs.declared.exchange.SmtpPhase.TheVariants.{Writing, Awaiting, Ready, Over}
use Rattle.smtp_connections.specs.declared.lines.MessageLines.{MessageLines}
use Rattle.smtp_connections.specs.declared.wanted.SmtpWanted.{SmtpWanted}
use Rattle.smtp_connections.specs.declared.wanted.SmtpWanted.TheVariants as wanted
use Rattle.smtp_connections.specs.declared.connection.SmtpConnection.{SmtpConnection}

-- ---- what is written

-- HELO with the name of this host (RFC 5321, section 4.1.1.1)
abbrev pub helo_line : List ℕ → List ℕ
helo_line host = codes "HELO " ++ (host ++ line_end)

abbrev pub no_lines : MessageLines
no_lines = record { mail = []; rcpt = []; text = [] }

-- those of a message, to a server that offers this
abbrev pub message_lines : Extensions → SmtpMail → MessageLines
message_lines offered mail = record { mail = mail_line offered mail; rcpt = rcpt_line mail; text = sent_from sent_start mail.text }

-- all that is written of an exchange
abbrev pub line_in : SmtpConnection → SmtpExchange → List ℕ
line_in c Greeting = []
line_in c Ehlo = c.ehlo
line_in c Helo = c.helo
line_in c (Message Sender) = c.lines.mail
line_in c (Message Recipient) = c.lines.rcpt
line_in c (Message Data) = data_line
line_in c (Message Text) = c.lines.text
line_in c Reset = rset_line
line_in c Quit = quit_line

abbrev pub left_at : SmtpConnection → SmtpPhase → List ℕ
left_at c (Writing exchange count) = drop count (line_in c exchange)
left_at c (Awaiting exchange) = []
left_at c Ready = []
left_at c (Over end) = []

-- what isn't written yet
abbrev pub left_to_write : SmtpConnection → List ℕ
left_to_write c = left_at c c.phase

-- ---- a new one

-- the greeting is awaited
pub record IsNewConnection (host : List ℕ) (may_eight_bit : Bool) (c : SmtpConnection) : Type 0 where
  pub ehlo : c.ehlo ≡ ehlo_line host
  pub helo : c.helo ≡ helo_line host
  pub may : c.may_eight_bit ≡ may_eight_bit
  pub phase : c.phase ≡ Awaiting Greeting
  pub heard : c.heard ≡ []

-- ---- what is waited for

-- how long the reply is (RFC 5321, section 4.5.3.2)
abbrev pub patience_in : SmtpExchange → Patience
patience_in (Message Sender) = patience.Command
patience_in (Message Recipient) = patience.Command
patience_in (Message Data) = patience.Data
patience_in (Message Text) = patience.Text
patience_in Greeting = patience.Command
patience_in Ehlo = patience.Command
patience_in Helo = patience.Command
patience_in Reset = patience.Command
patience_in Quit = patience.Command

abbrev pub wanted_at : SmtpPhase → SmtpWanted
wanted_at (Writing exchange count) = wanted.Write patience.Piece
wanted_at (Awaiting exchange) = wanted.Reply (patience_in exchange)
wanted_at Ready = wanted.Message
wanted_at (Over end) = wanted.Nothing end

-- ---- octets are written

-- some are left; or it is the server's turn, of which nothing is heard yet
abbrev pub WritesIn : ℕ → SmtpPhase → SmtpConnection → SmtpConnection → Type 0
WritesIn count (Writing exchange before) c e =
    ((count < length (left_to_write c)) × (e ≡ record c { phase = Writing exchange (before + count) }))
    ⊎ ((length (left_to_write c) ≤ count) × (e ≡ record c { phase = Awaiting exchange; heard = [] }))
WritesIn count (Awaiting exchange) c e = e ≡ c
WritesIn count Ready c e = e ≡ c
WritesIn count (Over end) c e = e ≡ c

-- so many octets of what is left were written
abbrev pub WritesSome : ℕ → SmtpConnection → SmtpConnection → Type 0
WritesSome count c e = WritesIn count c.phase c e

-- ---- a message begins

-- a message that goes out: its addresses are mailboxes, what it needs is offered, and MAIL is written first
pub record BeginsMessage (mail : SmtpMail) (c e : SmtpConnection) : Type 0 where
  pub addressed : IsMailAddressed mail
  pub needs : IsOffered c.offered c.may_eight_bit mail
  pub begun : e ≡ record c { lines = message_lines c.offered mail; phase = Writing (Message Sender) 0 }

-- it goes out; or nothing is written for it, for a cause
abbrev pub Begins : SmtpMail → SmtpConnection → Option Ending → SmtpConnection → Type 0
Begins mail c None e = BeginsMessage mail c e
Begins mail c (Some Unaddressed) e = (IsMailAddressed mail → ⊥) × (e ≡ c)
Begins mail c (Some Undeclared) e = IsMailAddressed mail × (IsOffered c.offered c.may_eight_bit mail → ⊥) × (e ≡ c)
Begins mail c (Some Sent) e = ⊥
Begins mail c (Some (Refused code)) e = ⊥
Begins mail c (Some (Delayed code)) e = ⊥
Begins mail c (Some (OutOfPlace code)) e = ⊥
Begins mail c (Some Lost) e = ⊥

abbrev pub quitting : SmtpPhase
quitting = Writing Quit 0

-- ---- it ends

abbrev pub ended_in : SmtpEnd → SmtpPhase → SmtpConnection → SmtpConnection
ended_in end (Writing exchange count) c = record c { phase = Over end; lines = no_lines }
ended_in end (Awaiting exchange) c = record c { phase = Over end; lines = no_lines }
ended_in end Ready c = record c { phase = Over end; lines = no_lines }
ended_in end (Over before) c = c

-- one that is at its end stays so
abbrev pub ended : SmtpEnd → SmtpConnection → SmtpConnection
ended end c = ended_in end c.phase c

-- ---- octets come

-- the most octets of a reply, with the CRLF of each line
abbrev pub max_smtp_reply : ℕ
max_smtp_reply = 65536

abbrev pub has_octets : List ℕ → Bool
has_octets [] = false
has_octets (octet ∷ rest) = true

-- when it isn't the server's turn an octet ends the connection, and with it the message that is under way
abbrev pub interrupted : Bool → SmtpConnection → SmtpConnection
interrupted false c = c
interrupted true c = ended ends.OutOfTurn c

abbrev pub ending_interrupted : Bool → SmtpConnection → Option Ending
ending_interrupted false c = None
ending_interrupted true c = lost_at c.phase

pub record Interrupts (is_more : Bool) (c : SmtpConnection) (ending : Option Ending) (e : SmtpConnection) : Type 0 where
  pub tells : ending ≡ ending_interrupted is_more c
  pub leaves : e ≡ interrupted is_more c

-- a fault ends it, and of what came nothing is kept
pub record BreaksConnection (end : SmtpEnd) (c : SmtpConnection) (ending : Option Ending) (e : SmtpConnection) : Type 0 where
  pub tells : ending ≡ lost_at c.phase
  pub leaves : e ≡ record (ended end c) { heard = [] }

-- what the server offers is what its reply to EHLO says; after HELO it is nothing
abbrev pub OffersBy : SmtpExchange → List ℕ → Extensions → Extensions → Type 0
OffersBy Ehlo reply before after = OffersExtensions reply after
OffersBy Helo reply before after = after ≡ no_extensions
OffersBy Greeting reply before after = after ≡ before
OffersBy (Message stage) reply before after = after ≡ before
OffersBy Reset reply before after = after ≡ before
OffersBy Quit reply before after = after ≡ before

-- after a message nothing of it is kept
abbrev pub lines_after : Option Ending → MessageLines → MessageLines
lines_after None lines = lines
lines_after (Some ending) lines = no_lines

-- what a reply makes of it
abbrev pub after_reply : SmtpExchange → ℕ → List ℕ → Extensions → SmtpConnection → SmtpConnection
after_reply exchange code reply offered c =
    record c { phase = phase_after exchange code; offered = offered; lines = lines_after (ending_by exchange code) c.lines; heard = reply }

abbrev pub first_ending : Option Ending → Option Ending → Option Ending
first_ending None other = other
first_ending (Some ending) other = Some ending

pub record Follows (exchange : SmtpExchange) (code : ℕ) (reply : List ℕ) (c e : SmtpConnection) : Type 0 where
  pub offered : Extensions
  pub offers : OffersBy exchange reply c.offered offered
  pub leaves : e ≡ after_reply exchange code reply offered c

-- a reply came, and perhaps octets behind it, which are out of turn
pub record RepliesAndMore (exchange : SmtpExchange) (code : ℕ) (reply : List ℕ) (is_more : Bool) (c : SmtpConnection) (ending : Option Ending) (e : SmtpConnection) : Type 0 where
  pub next : SmtpConnection
  pub follows : Follows exchange code reply c next
  pub behind : Option Ending
  pub interrupts : Interrupts is_more next behind e
  pub tells : ending ≡ first_ending (ending_by exchange code) behind

abbrev pub TakesReply : SmtpExchange → ℕ → ℕ → List ℕ → SmtpConnection → Option Ending → SmtpConnection → Type 0
TakesReply exchange code count all c ending e = RepliesAndMore exchange code (take count all) (has_octets (drop count all)) c ending e

-- a reply isn't whole: more is awaited; or it would have too many octets
abbrev pub AwaitsMore : List ℕ → SmtpConnection → Option Ending → SmtpConnection → Type 0
AwaitsMore all c ending e =
    ((length all < max_smtp_reply) × (ending ≡ None) × (e ≡ record c { heard = all }))
    ⊎ ((max_smtp_reply ≤ length all) × BreaksConnection ends.LongReply c ending e)

abbrev pub HearsAnswer : SmtpAnswer → SmtpExchange → List ℕ → SmtpConnection → Option Ending → SmtpConnection → Type 0
HearsAnswer Part exchange all c ending e = AwaitsMore all c ending e
HearsAnswer (Whole code count) exchange all c ending e = TakesReply exchange code count all c ending e
HearsAnswer NoReply exchange all c ending e = BreaksConnection ends.NoReply c ending e
HearsAnswer LongLine exchange all c ending e = BreaksConnection ends.LongLine c ending e

-- these came since all of the exchange was written; the first 65,536 of them are looked at
pub record HearsReplyTo (exchange : SmtpExchange) (all : List ℕ) (c : SmtpConnection) (ending : Option Ending) (e : SmtpConnection) : Type 0 where
  pub answer : SmtpAnswer
  pub answers : Answers (take max_smtp_reply all) answer
  pub hears : HearsAnswer answer exchange all c ending e

abbrev pub HearsIn : SmtpPhase → List ℕ → SmtpConnection → Option Ending → SmtpConnection → Type 0
HearsIn (Awaiting exchange) piece c ending e = HearsReplyTo exchange (c.heard ++ piece) c ending e
HearsIn (Writing exchange count) piece c ending e = Interrupts (has_octets piece) c ending e
HearsIn Ready piece c ending e = Interrupts (has_octets piece) c ending e
HearsIn (Over end) piece c ending e = Interrupts (has_octets piece) c ending e

-- these octets came, and the message that was under way ended so, if it did
abbrev pub Hears : List ℕ → SmtpConnection → Option Ending → SmtpConnection → Type 0
Hears piece c ending e = HearsIn c.phase piece c ending e

-- ---- the same, if what came is kept already

-- a reply isn't whole
abbrev pub WaitsOn : SmtpConnection → Option Ending → SmtpConnection → Type 0
WaitsOn c ending e =
    ((length c.heard < max_smtp_reply) × (ending ≡ None) × (e ≡ c))
    ⊎ ((max_smtp_reply ≤ length c.heard) × BreaksConnection ends.LongReply c ending e)

abbrev pub JudgesAnswer : SmtpAnswer → SmtpExchange → Bool → SmtpConnection → Option Ending → SmtpConnection → Type 0
JudgesAnswer Part exchange is_over c ending e = WaitsOn c ending e
JudgesAnswer (Whole code count) exchange is_over c ending e = RepliesAndMore exchange code (take count c.heard) (has_octets (drop count c.heard) || is_over) c ending e
JudgesAnswer NoReply exchange is_over c ending e = BreaksConnection ends.NoReply c ending e
JudgesAnswer LongLine exchange is_over c ending e = BreaksConnection ends.LongLine c ending e

-- all that came is kept, but for others behind it if that is so
pub record Judges (exchange : SmtpExchange) (is_over : Bool) (c : SmtpConnection) (ending : Option Ending) (e : SmtpConnection) : Type 0 where
  pub answer : SmtpAnswer
  pub answers : Answers (take max_smtp_reply c.heard) answer
  pub judges : JudgesAnswer answer exchange is_over c ending e

-- ---- what is shown

abbrev pub first_line_by : Found → List ℕ → List ℕ
first_line_by (Line count) heard = take count heard
first_line_by Need heard = []
first_line_by TooLong heard = []

-- the first line of a reply, without its CRLF; nothing if there is none
abbrev pub ShowsFirstLine : List ℕ → List ℕ → Type 0
ShowsFirstLine heard line = (found : Found) × LineFinds found heard × (line ≡ first_line_by found heard)
