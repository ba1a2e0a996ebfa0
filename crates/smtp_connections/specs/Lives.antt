-- All that may happen to a connection, and what passed over it.
use Rattle.std.specs.Prelude.{◌≡◌, ◌≤◌, ℕ, Bool, List, [], ◌∷◌, ◌++◌, length, take, Option, Some, None}
use Rattle.std.specs.List.{All}
use Rattle.smtp_dialogue.specs.Messages.{SmtpMail, IsMailAddressed, IsOffered}
use Rattle.smtp_dialogue.specs.Dialogues.{Speaks, stage_text, IsMessageTaken}
use Rattle.smtp_dialogue.specs.declared.extension.Extensions.{Extensions}
use Rattle.smtp_dialogue.specs.declared.dialogue.SmtpStage.{SmtpStage}
use Rattle.smtp_dialogue.specs.declared.dialogue.SmtpStage.TheVariants.{Sender}
use Rattle.smtp_dialogue.specs.declared.dialogue.Ending.{Ending}
use Rattle.smtp_dialogue.specs.declared.dialogue.Ending.TheVariants.{Sent}
use Rattle.smtp_send.specs.Talks.{SendTalk, talk, Treats}
use Rattle.smtp_send.specs.Wires.{WirePasses}
use Rattle.smtp_connections.specs.Exchanges.{lost_at}
use Rattle.smtp_connections.specs.Connections.{IsNewConnection, left_to_write, message_lines, WritesSome, Hears, Begins, quitting, ended, max_smtp_reply}
use Rattle.smtp_connections.specs.Cuts.{stage_at}
use Rattle.smtp_connections.specs.declared.end.SmtpEnd.{SmtpEnd}
use Rattle.smtp_connections.specs.declared.exchange.SmtpExchange.{SmtpExchange}
use Rattle.smtp_connections.specs.declared.exchange.SmtpPhase.{SmtpPhase}
use Rattle.smtp_connections.specs.declared.exchange.SmtpPhase.TheVariants.{Writing, Awaiting, Ready, Over}
use Rattle.smtp_connections.specs.declared.connection.SmtpConnection.{SmtpConnection}

-- ---- what passed

-- a message that was handed over, and what the server offered then
pub record SmtpHandover : Type 0 where
  pub mail : SmtpMail
  pub offered : Extensions

-- and how it ended
pub record SmtpDeal : Type 0 where
  pub handover : SmtpHandover
  pub ending : Ending

-- all that was written and all that came; what came since the last octet was written; the messages that ended, the last one first; and
-- the one that is under way
pub record SmtpPassed : Type 0 where
  pub sent : List ℕ
  pub came : List ℕ
  pub since : List ℕ
  pub deals : List SmtpDeal
  pub goes : Option SmtpHandover

abbrev pub nothing_passed : SmtpPassed
nothing_passed = record { sent = []; came = []; since = []; deals = []; goes = None }

abbrev pub passed_written : List ℕ → SmtpPassed → SmtpPassed
passed_written octets p = record p { sent = p.sent ++ octets; since = [] }

abbrev pub passed_heard : List ℕ → SmtpPassed → SmtpPassed
passed_heard piece p = record p { came = p.came ++ piece; since = p.since ++ piece }

-- the message that is under way, if one is, ended so
abbrev pub passed_with : Option SmtpHandover → Ending → SmtpPassed → SmtpPassed
passed_with (Some handover) ending p = record p { deals = record { handover = handover; ending = ending } ∷ p.deals; goes = None }
passed_with None ending p = p

abbrev pub passed_ended : Option Ending → SmtpPassed → SmtpPassed
passed_ended (Some ending) p = passed_with p.goes ending p
passed_ended None p = p

-- a message was handed over, and has ended so if nothing is written for it
abbrev pub passed_begun : SmtpHandover → Option Ending → SmtpPassed → SmtpPassed
passed_begun handover ending p = passed_ended ending (record p { goes = Some handover })

-- ---- all that may happen

pub data SmtpLives : SmtpConnection → SmtpPassed → Type 0 where
  -- it is new
  life_new : (host : List ℕ) (may : Bool) (c : SmtpConnection) → IsNewConnection host may c → SmtpLives c nothing_passed
  -- some of what is left was written
  life_wrote : (count : ℕ) (exchange : SmtpExchange) (before : ℕ) (c e : SmtpConnection) (p : SmtpPassed) → SmtpLives c p → c.phase ≡ Writing exchange before
      → count ≤ length (left_to_write c) → WritesSome count c e → SmtpLives e (passed_written (take count (left_to_write c)) p)
  -- octets came
  life_heard : (piece : List ℕ) (c e : SmtpConnection) (ending : Option Ending) (p : SmtpPassed) → SmtpLives c p → Hears piece c ending e
      → SmtpLives e (passed_ended ending (passed_heard piece p))
  -- a message was handed over
  life_begun : (mail : SmtpMail) (c e : SmtpConnection) (ending : Option Ending) (p : SmtpPassed) → SmtpLives c p → c.phase ≡ Ready → Begins mail c ending e
      → SmtpLives e (passed_begun (record { mail = mail; offered = c.offered }) ending p)
  -- QUIT is said
  life_quit : (c : SmtpConnection) (p : SmtpPassed) → SmtpLives c p → c.phase ≡ Ready → SmtpLives (record c { phase = quitting }) p
  -- it was ended
  life_ended : (end : SmtpEnd) (c : SmtpConnection) (p : SmtpPassed) → SmtpLives c p → SmtpLives (ended end c) (passed_ended (lost_at c.phase) p)

-- ---- what holds of it

-- each message was dealt with as `Treats` has it, one after the other
abbrev pub DealsLead : Bool → List SmtpDeal → SendTalk → Type 0
DealsLead may [] now = now ≡ talk [] []
DealsLead may (deal ∷ deals) now =
    (before : SendTalk) × DealsLead may deals before × Treats deal.handover.offered may deal.handover.mail before now deal.ending

-- the message that is under way, at a stage: what of its dialogue was written and answered, so that with what may follow it is one as
-- `Speaks` has it; and what is left to be written is the rest of the stage
pub record IsUnderWay (handover : SmtpHandover) (stage : SmtpStage) (c : SmtpConnection) (start now : SendTalk) : Type 0 where
  pub at : stage_at c.phase ≡ Some stage
  pub offers : handover.offered ≡ c.offered
  pub addressed : IsMailAddressed handover.mail
  pub needs : IsOffered c.offered c.may_eight_bit handover.mail
  pub lines : c.lines ≡ message_lines c.offered handover.mail
  pub before : List ℕ
  pub codes : List ℕ
  pub here : List ℕ
  pub whole : stage_text c.offered handover.mail stage ≡ here ++ left_to_write c
  pub written : now.written ≡ start.written ++ (before ++ here)
  pub answered : now.answered ≡ start.answered ++ codes
  pub leads : (later more : List ℕ) (ending : Ending) → Speaks c.offered handover.mail later stage more ending → Speaks c.offered handover.mail (codes ++ later) Sender (before ++ more) ending

abbrev pub GoesOn : Option SmtpHandover → SmtpConnection → SendTalk → SendTalk → Type 0
GoesOn (Some handover) c start now = (stage : SmtpStage) × IsUnderWay handover stage c start now
GoesOn None c start now = (now ≡ start) × (stage_at c.phase ≡ None)

-- what came of the reply that is awaited; nothing if none is
abbrev pub unread_at : SmtpPhase → List ℕ → List ℕ
unread_at (Awaiting exchange) heard = heard
unread_at (Writing exchange count) heard = []
unread_at Ready heard = []
unread_at (Over end) heard = []

-- of a reply that is awaited all came since the last octet was written
abbrev pub IsSince : SmtpPhase → List ℕ → List ℕ → Type 0
IsSince (Awaiting exchange) heard since = heard ≡ since
IsSince (Writing exchange count) heard since = Unit {0}
IsSince Ready heard since = Unit {0}
IsSince (Over end) heard since = Unit {0}

-- these octets passed
abbrev pub PassedAre : SmtpPassed → List ℕ → List ℕ → Type 0
PassedAre p sent came = (sent ≡ p.sent) × (came ≡ p.came)

-- whatever happened, and in whatever pieces: of what passed some was for messages (`now`), which were dealt with one after the other, each
-- as it is told; and of the last one, if it is under way, a beginning of its dialogue
pub record LifeStands (c : SmtpConnection) (p : SmtpPassed) : Type 0 where
  pub start : SendTalk
  pub now : SendTalk
  pub wire : WirePasses (PassedAre p) (unread_at c.phase c.heard) now
  pub deals : DealsLead c.may_eight_bit p.deals start
  pub goes : GoesOn p.goes c start now
  pub since : IsSince c.phase c.heard p.since

-- a message that is told as sent was taken: all of it was written, and its last reply, that to the text, is 250
abbrev pub IsTakenIfSent : SmtpDeal → Type 0
IsTakenIfSent deal = deal.ending ≡ Sent → (answered written : List ℕ) × IsMessageTaken deal.handover.offered deal.handover.mail answered written

pub record LivesStand : Type 0 where
  pub stands : (c : SmtpConnection) (p : SmtpPassed) → SmtpLives c p → LifeStands c p
  pub taken : (c : SmtpConnection) (p : SmtpPassed) → SmtpLives c p → All IsTakenIfSent p.deals
  -- and no more is kept of a reply than one may have
  pub bounded : (c : SmtpConnection) (p : SmtpPassed) → SmtpLives c p → length c.heard ≤ max_smtp_reply
