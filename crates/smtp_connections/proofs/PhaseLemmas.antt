-- What follows a reply.
use Rattle.std.proofs.Common.{◌≡◌, ℕ, ◌==◌, Bool, true, false, Option, Some, None, refl, ap, ◌∙◌}
use Rattle.std.specs.Prelude.{if◌then◌else◌}
use Rattle.smtp_dialogue.specs.Dialogues.{reply_class, smtp_turn_of}
use Rattle.smtp_dialogue.specs.declared.dialogue.SmtpStage.{SmtpStage}
use Rattle.smtp_dialogue.specs.declared.dialogue.Ending.{Ending}
use Rattle.smtp_dialogue.specs.declared.dialogue.Ending.TheVariants as endings
use Rattle.smtp_dialogue.specs.declared.dialogue.NextStage.{NextStage}
use Rattle.smtp_dialogue.specs.declared.dialogue.NextStage.TheVariants.{Goes, Ends}
use Rattle.smtp_connections.specs.Cuts.{stage_at}
use Rattle.smtp_connections.specs.Exchanges.{lost_at, ending_by, on_success, after_ending, phase_by_turn, phase_after}
use Rattle.smtp_connections.specs.declared.end.SmtpEnd.TheVariants as ends
use Rattle.smtp_connections.specs.declared.exchange.SmtpExchange.{SmtpExchange}
use Rattle.smtp_connections.specs.declared.exchange.SmtpExchange.TheVariants.{Greeting, Ehlo, Helo, Message, Reset, Quit}
use Rattle.smtp_connections.specs.declared.exchange.SmtpPhase.{SmtpPhase}
use Rattle.smtp_connections.specs.declared.exchange.SmtpPhase.TheVariants.{Writing, Awaiting, Ready, Over}

abbrev pub is_awaiting : SmtpPhase → Bool
is_awaiting (Awaiting exchange) = true
is_awaiting (Writing exchange count) = false
is_awaiting Ready = false
is_awaiting (Over end) = false

-- one of two phases
chosen : (b : Bool) (x y : SmtpPhase) → is_awaiting x ≡ false → is_awaiting y ≡ false → is_awaiting (if b then x else y) ≡ false
chosen true x y one two = one
chosen false x y one two = two

success_not : (code : ℕ) (p : SmtpPhase) → is_awaiting p ≡ false → is_awaiting (on_success code p) ≡ false
success_not code p off = chosen (reply_class code == 2) p (Over (ends.Unexpected code)) off refl

pub ending_not : (ending : Ending) → is_awaiting (after_ending ending) ≡ false
ending_not endings.Sent = refl
ending_not endings.Undeclared = refl
ending_not endings.Unaddressed = refl
ending_not (endings.Refused code) = refl
ending_not (endings.Delayed code) = refl
ending_not (endings.OutOfPlace code) = refl
ending_not endings.Lost = refl

turn_not : (turn : NextStage) → is_awaiting (phase_by_turn turn) ≡ false
turn_not (Goes stage) = refl
turn_not (Ends ending) = ending_not ending

-- after a reply it isn't the server's turn
pub after_not_awaiting : (exchange : SmtpExchange) (code : ℕ) → is_awaiting (phase_after exchange code) ≡ false
after_not_awaiting Greeting code = success_not code (Writing Ehlo 0) refl
after_not_awaiting Ehlo code = chosen (reply_class code == 5) (Writing Helo 0) (on_success code Ready) refl (success_not code Ready refl)
after_not_awaiting Helo code = success_not code Ready refl
after_not_awaiting (Message stage) code = turn_not (smtp_turn_of stage code)
after_not_awaiting Reset code = success_not code Ready refl
after_not_awaiting Quit code = refl

-- ---- the stage of a message

pub written_stage : (exchange : SmtpExchange) (m n : ℕ) → stage_at (Writing exchange m) ≡ stage_at (Writing exchange n)
written_stage Greeting m n = refl
written_stage Ehlo m n = refl
written_stage Helo m n = refl
written_stage (Message stage) m n = refl
written_stage Reset m n = refl
written_stage Quit m n = refl

pub awaited_stage : (exchange : SmtpExchange) (n : ℕ) → stage_at (Awaiting exchange) ≡ stage_at (Writing exchange n)
awaited_stage Greeting n = refl
awaited_stage Ehlo n = refl
awaited_stage Helo n = refl
awaited_stage (Message stage) n = refl
awaited_stage Reset n = refl
awaited_stage Quit n = refl

-- a message is lost where one is under way
abbrev pub lost_stage : Option SmtpStage → Option Ending
lost_stage None = None
lost_stage (Some stage) = Some endings.Lost

pub lost_is : (p : SmtpPhase) → lost_at p ≡ lost_stage (stage_at p)
lost_is (Writing Greeting n) = refl
lost_is (Writing Ehlo n) = refl
lost_is (Writing Helo n) = refl
lost_is (Writing (Message stage) n) = refl
lost_is (Writing Reset n) = refl
lost_is (Writing Quit n) = refl
lost_is (Awaiting Greeting) = refl
lost_is (Awaiting Ehlo) = refl
lost_is (Awaiting Helo) = refl
lost_is (Awaiting (Message stage)) = refl
lost_is (Awaiting Reset) = refl
lost_is (Awaiting Quit) = refl
lost_is Ready = refl
lost_is (Over end) = refl

pub lost_none : (p : SmtpPhase) → stage_at p ≡ None → lost_at p ≡ None
lost_none p is = lost_is p ∙ ap lost_stage is

pub lost_some : (p : SmtpPhase) (stage : SmtpStage) → stage_at p ≡ Some stage → lost_at p ≡ Some endings.Lost
lost_some p stage is = lost_is p ∙ ap lost_stage is

-- ---- no message is under way

pub ending_no_stage : (ending : Ending) → stage_at (after_ending ending) ≡ None
ending_no_stage endings.Sent = refl
ending_no_stage endings.Undeclared = refl
ending_no_stage endings.Unaddressed = refl
ending_no_stage (endings.Refused code) = refl
ending_no_stage (endings.Delayed code) = refl
ending_no_stage (endings.OutOfPlace code) = refl
ending_no_stage endings.Lost = refl

no_stage : (b : Bool) (x y : SmtpPhase) → stage_at x ≡ None → stage_at y ≡ None → stage_at (if b then x else y) ≡ None
no_stage true x y one two = one
no_stage false x y one two = two

success_no_stage : (code : ℕ) (p : SmtpPhase) → stage_at p ≡ None → stage_at (on_success code p) ≡ None
success_no_stage code p off = no_stage (reply_class code == 2) p (Over (ends.Unexpected code)) off refl

pub after_no_stage : (exchange : SmtpExchange) (code : ℕ) → stage_at (Awaiting exchange) ≡ None → stage_at (phase_after exchange code) ≡ None
after_no_stage Greeting code off = success_no_stage code (Writing Ehlo 0) refl
after_no_stage Ehlo code off = no_stage (reply_class code == 5) (Writing Helo 0) (on_success code Ready) refl (success_no_stage code Ready refl)
after_no_stage Helo code off = success_no_stage code Ready refl
after_no_stage (Message stage) code off = absurd (cc off)
after_no_stage Reset code off = success_no_stage code Ready refl
after_no_stage Quit code off = refl

pub no_ending : (exchange : SmtpExchange) (code : ℕ) → stage_at (Awaiting exchange) ≡ None → ending_by exchange code ≡ None
no_ending Greeting code off = refl
no_ending Ehlo code off = refl
no_ending Helo code off = refl
no_ending (Message stage) code off = absurd (cc off)
no_ending Reset code off = refl
no_ending Quit code off = refl
