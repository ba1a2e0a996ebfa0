-- What follows a reply (RFC 5321, sections 3 and 4.3.2).
use Rattle.std.specs.Prelude.{ℕ, ◌==◌, if◌then◌else◌, Option, Some, None}
use Rattle.smtp_dialogue.specs.Dialogues.{reply_class, smtp_turn_of}
use Rattle.smtp_dialogue.specs.declared.dialogue.Ending.{Ending}
use Rattle.smtp_dialogue.specs.declared.dialogue.Ending.TheVariants.{Sent, Refused, Delayed, OutOfPlace, Lost, Undeclared, Unaddressed}
use Rattle.smtp_dialogue.specs.declared.dialogue.NextStage.{NextStage}
use Rattle.smtp_dialogue.specs.declared.dialogue.NextStage.TheVariants.{Goes, Ends}
use Rattle.smtp_connections.specs.declared.exchange.SmtpExchange.{SmtpExchange}
use Rattle.smtp_connections.specs.declared.exchange.SmtpExchange.TheVariants.{Greeting, Ehlo, Helo, Message, Reset, Quit}
use Rattle.smtp_connections.specs.declared.exchange.SmtpPhase.{SmtpPhase}
use Rattle.smtp_connections.specs.declared.exchange.SmtpPhase.TheVariants.{Writing, Awaiting, Ready, Over}
use Rattle.smtp_connections.specs.declared.end.SmtpEnd.TheVariants as ends

-- ---- if the connection is lost

-- a message of which this is a stage is lost; nothing else is
abbrev pub lost_in : SmtpExchange → Option Ending
lost_in (Message stage) = Some Lost
lost_in Greeting = None
lost_in Ehlo = None
lost_in Helo = None
lost_in Reset = None
lost_in Quit = None

abbrev pub lost_at : SmtpPhase → Option Ending
lost_at (Writing exchange count) = lost_in exchange
lost_at (Awaiting exchange) = lost_in exchange
lost_at Ready = None
lost_at (Over end) = None

-- ---- after a reply

-- it is to be 2yz
abbrev pub on_success : ℕ → SmtpPhase → SmtpPhase
on_success code phase = if reply_class code == 2 then phase else Over (ends.Unexpected code)

-- a server that refuses EHLO for good is asked by HELO (section 3.2)
abbrev pub after_ehlo : ℕ → SmtpPhase
after_ehlo code = if reply_class code == 5 then Writing Helo 0 else on_success code Ready

-- a message that was refused or put off is dropped by RSET; after a reply that is none for its place nothing more is said
abbrev pub after_ending : Ending → SmtpPhase
after_ending Sent = Ready
after_ending Undeclared = Ready
after_ending Unaddressed = Ready
after_ending (Refused code) = Writing Reset 0
after_ending (Delayed code) = Writing Reset 0
after_ending (OutOfPlace code) = Over (ends.Unexpected code)
after_ending Lost = Over ends.Closed

abbrev pub phase_by_turn : NextStage → SmtpPhase
phase_by_turn (Goes stage) = Writing (Message stage) 0
phase_by_turn (Ends ending) = after_ending ending

-- what follows a reply with this code to that
abbrev pub phase_after : SmtpExchange → ℕ → SmtpPhase
phase_after Greeting code = on_success code (Writing Ehlo 0)
phase_after Ehlo code = after_ehlo code
phase_after Helo code = on_success code Ready
phase_after (Message stage) code = phase_by_turn (smtp_turn_of stage code)
phase_after Reset code = on_success code Ready
phase_after Quit code = Over ends.Quit

abbrev pub ending_in : NextStage → Option Ending
ending_in (Goes stage) = None
ending_in (Ends ending) = Some ending

-- how the message ends with it, if it was one's and ends
abbrev pub ending_by : SmtpExchange → ℕ → Option Ending
ending_by (Message stage) code = ending_in (smtp_turn_of stage code)
ending_by Greeting code = None
ending_by Ehlo code = None
ending_by Helo code = None
ending_by Reset code = None
ending_by Quit code = None
