-- What doesn't depend on the pieces in which octets come, and what a reply may do at most.
use Rattle.std.specs.Prelude.{◌≡◌, ◌≢◌, ◌⊎◌, ℕ, List, [], ◌++◌, Option, Some, None}
use Rattle.smtp_dialogue.specs.Dialogues.{reply_class}
use Rattle.smtp_dialogue.specs.Replies.{IsSmtpReply}
use Rattle.smtp_dialogue.specs.declared.dialogue.SmtpStage.{SmtpStage}
use Rattle.smtp_dialogue.specs.declared.dialogue.SmtpStage.TheVariants.{Data, Text}
use Rattle.smtp_dialogue.specs.declared.dialogue.Ending.{Ending}
use Rattle.smtp_dialogue.specs.declared.dialogue.Ending.TheVariants.{Sent}
use Rattle.smtp_connections.specs.Exchanges.{lost_at}
use Rattle.smtp_connections.specs.Connections.{Hears, first_ending, left_to_write}
use Rattle.smtp_connections.specs.declared.end.SmtpEnd.TheVariants.{OutOfTurn}
use Rattle.smtp_connections.specs.declared.exchange.SmtpExchange.TheVariants.{Greeting, Ehlo, Helo, Message, Reset, Quit}
use Rattle.smtp_connections.specs.declared.exchange.SmtpPhase.{SmtpPhase}
use Rattle.smtp_connections.specs.declared.exchange.SmtpPhase.TheVariants.{Writing, Awaiting, Ready, Over}
use Rattle.smtp_connections.specs.declared.connection.SmtpConnection.{SmtpConnection}

-- two pieces do what both in one do; and what a piece does is one thing
pub record CutsStand : Type 0 where
  pub joins : (a b : List ℕ) (c d e : SmtpConnection) (first second : Option Ending) → Hears a c first d → Hears b d second e → Hears (a ++ b) c (first_ending first second) e
  pub one : (piece : List ℕ) (c d e : SmtpConnection) (first second : Option Ending) → Hears piece c first d → Hears piece c second e → (first ≡ second) × (d ≡ e)

-- the stage of the message that is under way
abbrev pub stage_at : SmtpPhase → Option SmtpStage
stage_at (Writing (Message stage) count) = Some stage
stage_at (Writing Greeting count) = None
stage_at (Writing Ehlo count) = None
stage_at (Writing Helo count) = None
stage_at (Writing Reset count) = None
stage_at (Writing Quit count) = None
stage_at (Awaiting (Message stage)) = Some stage
stage_at (Awaiting Greeting) = None
stage_at (Awaiting Ehlo) = None
stage_at (Awaiting Helo) = None
stage_at (Awaiting Reset) = None
stage_at (Awaiting Quit) = None
stage_at Ready = None
stage_at (Over end) = None

-- a reply came to an exchange, all of which had been written
abbrev pub RepliesInPhase : SmtpPhase → SmtpConnection → List ℕ → ℕ → Type 0
RepliesInPhase phase c piece code = (c.phase ≡ phase) × ((rest : List ℕ) × IsSmtpReply (c.heard ++ piece) code rest)

-- a message is sent only by a 250 to its text, of which nothing was left to be written; what comes before all is written ends the
-- connection, whatever it is, and the message is lost; and a text is begun only by a 3yz to DATA
pub record TurnsStand : Type 0 where
  pub sent : (piece : List ℕ) (c e : SmtpConnection) → Hears piece c (Some Sent) e → RepliesInPhase (Awaiting (Message Text)) c piece 250
  pub early : (piece : List ℕ) (c e : SmtpConnection) (ending : Option Ending) → left_to_write c ≢ [] → piece ≢ [] → Hears piece c ending e
      → (e.phase ≡ Over OutOfTurn) × (ending ≡ lost_at c.phase)
  pub text : (piece : List ℕ) (c e : SmtpConnection) (ending : Option Ending) → Hears piece c ending e → stage_at e.phase ≡ Some Text
      → (stage_at c.phase ≡ Some Text) ⊎ ((code : ℕ) × RepliesInPhase (Awaiting (Message Data)) c piece code × (reply_class code ≡ 3))
