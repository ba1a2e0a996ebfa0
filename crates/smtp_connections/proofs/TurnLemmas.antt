-- What a reply may do at most.
use Rattle.std.proofs.Common.{◌≡◌, ◌≢◌, ◌⊎◌, ℕ, ◌==◌, Bool, true, false, List, [], ◌∷◌, ◌++◌, take, drop, Option, Some, None, inl, inr, refl, sym, ap, ◌∙◌, subst, arith}
use Rattle.std.specs.Prelude.{if◌then◌else◌}
use Rattle.smtp_dialogue.specs.Dialogues.{reply_class, next_or_end, ending_of}
use Rattle.smtp_dialogue.specs.Replies.{IsSmtpReply}
use Rattle.smtp_dialogue.specs.declared.dialogue.SmtpStage.{SmtpStage}
use Rattle.smtp_dialogue.specs.declared.dialogue.SmtpStage.TheVariants.{Sender, Recipient, Data, Text}
use Rattle.smtp_dialogue.specs.declared.dialogue.Ending.{Ending}
use Rattle.smtp_dialogue.specs.declared.dialogue.Ending.TheVariants as endings
use Rattle.smtp_dialogue.specs.declared.dialogue.NextStage.TheVariants.{Ends}
use Rattle.smtp_connections.specs.Answers.{Answers}
use Rattle.smtp_connections.specs.Exchanges.{lost_at, phase_by_turn, phase_after, ending_in, ending_by}
use Rattle.smtp_connections.specs.Connections.{left_at, ended_in, has_octets, ending_interrupted, Interrupts, first_ending, RepliesAndMore, AwaitsMore, HearsAnswer, HearsIn, max_smtp_reply}
use Rattle.smtp_connections.specs.Cuts.{stage_at, RepliesInPhase, TurnsStand}
use Rattle.smtp_connections.specs.declared.answer.SmtpAnswer.{SmtpAnswer}
use Rattle.smtp_connections.specs.declared.answer.SmtpAnswer.TheVariants.{Part, Whole, NoReply, LongLine}
use Rattle.smtp_connections.specs.declared.end.SmtpEnd.{SmtpEnd}
use Rattle.smtp_connections.specs.declared.end.SmtpEnd.TheVariants as ends
use Rattle.smtp_connections.specs.declared.exchange.SmtpExchange.{SmtpExchange}
use Rattle.smtp_connections.specs.declared.exchange.SmtpExchange.TheVariants.{Greeting, Ehlo, Helo, Message, Reset, Quit}
use Rattle.smtp_connections.specs.declared.exchange.SmtpPhase.{SmtpPhase}
use Rattle.smtp_connections.specs.declared.exchange.SmtpPhase.TheVariants.{Writing, Awaiting, Ready, Over}
use Rattle.smtp_connections.specs.declared.connection.SmtpConnection.{SmtpConnection as Code}
use Rattle.smtp_connections.proofs.PhaseLemmas.{lost_stage, lost_is, ending_no_stage, after_no_stage}
use Rattle.smtp_connections.proofs.CutLemmas.{ended_over, whole_reply}

-- ---- sent

not_lost : (o : Option SmtpStage) → Some endings.Sent ≡ lost_stage o → ⊥
not_lost None is = cc
not_lost (Some stage) is = cc

never_lost : (p : SmtpPhase) → Some endings.Sent ≡ lost_at p → ⊥
never_lost p is = not_lost (stage_at p) (is ∙ lost_is p)

never_interrupted : (b : Bool) (c : Code) → Some endings.Sent ≡ ending_interrupted b c → ⊥
never_interrupted false c is = cc
never_interrupted true c is = never_lost c.phase is

by_class : (code : ℕ) (five four : Bool) → Some (if five then endings.Refused code else (if four then endings.Delayed code else endings.OutOfPlace code)) ≡ Some endings.Sent → ⊥
by_class code true four is = cc
by_class code false true is = cc
by_class code false false is = cc

never_ending : (code : ℕ) → Some (ending_of code) ≡ Some endings.Sent → ⊥
never_ending code is = by_class code (reply_class code == 5) (reply_class code == 4) is

never_next : (is_taken : Bool) (onward : SmtpStage) (code : ℕ) → ending_in (next_or_end is_taken onward code) ≡ Some endings.Sent → ⊥
never_next true onward code is = cc
never_next false onward code is = never_ending code is

text_sent : (is_sent : Bool) (code : ℕ) → (code == 250) ≡ is_sent → ending_in (if is_sent then Ends endings.Sent else Ends (ending_of code)) ≡ Some endings.Sent → code ≡ 250
text_sent true code test is = grind (arith, test)
text_sent false code test is = absurd (never_ending code is)

record ToText (exchange : SmtpExchange) (code : ℕ) : Type 0 where
  exchange_is : exchange ≡ Message Text
  code_is : code ≡ 250

sent_by : (exchange : SmtpExchange) (code : ℕ) → ending_by exchange code ≡ Some endings.Sent → ToText exchange code
sent_by Greeting code is = absurd (cc is)
sent_by Ehlo code is = absurd (cc is)
sent_by Helo code is = absurd (cc is)
sent_by Reset code is = absurd (cc is)
sent_by Quit code is = absurd (cc is)
sent_by (Message Sender) code is = absurd (never_next (reply_class code == 2) Recipient code is)
sent_by (Message Recipient) code is = absurd (never_next (reply_class code == 2) Data code is)
sent_by (Message Data) code is = absurd (never_next (reply_class code == 3) Text code is)
sent_by (Message Text) code is = record { exchange_is = refl; code_is = text_sent (code == 250) code refl is }

first_is : (a b : Option Ending) (x : Ending) → Some x ≡ first_ending a b → (a ≡ Some x) ⊎ (Some x ≡ b)
first_is None b x is = inr is
first_is (Some ending) b x is = inl (sym is)

sent_reply : (exchange : SmtpExchange) (code count : ℕ) (all reply : List ℕ) (b : Bool) (c e : Code) → c.phase ≡ Awaiting exchange → IsSmtpReply all code (drop count all)
    → RepliesAndMore exchange code reply b c (Some endings.Sent) e → (c.phase ≡ Awaiting (Message Text)) × ((rest : List ℕ) × IsSmtpReply all 250 rest)
sent_reply exchange code count all reply b c e at reads it =
    elim (first_is (ending_by exchange code) it.behind endings.Sent it.tells) [
      | inl by ↦
          let to = sent_by exchange code by in
          (at ∙ ap Awaiting to.exchange_is, (drop count all, subst (λ n. IsSmtpReply all n (drop count all)) to.code_is reads))
      | inr by ↦ absurd (never_interrupted b it.next (by ∙ it.interrupts.tells))
    ]

sent_more : (all : List ℕ) (c e : Code) → AwaitsMore all c (Some endings.Sent) e → ⊥
sent_more all c e (inl it) = let never : Some endings.Sent ≡ None = it.1 in cc
sent_more all c e (inr it) = never_lost c.phase it.1.tells

sent_answer : (answer : SmtpAnswer) (exchange : SmtpExchange) (all : List ℕ) (c e : Code) → c.phase ≡ Awaiting exchange → Answers (take max_smtp_reply all) answer
    → HearsAnswer answer exchange all c (Some endings.Sent) e → (c.phase ≡ Awaiting (Message Text)) × ((rest : List ℕ) × IsSmtpReply all 250 rest)
sent_answer Part exchange all c e at is it = absurd (sent_more all c e it)
sent_answer (Whole code count) exchange all c e at is it =
    sent_reply exchange code count all (take count all) (has_octets (drop count all)) c e at (whole_reply max_smtp_reply all code count is).1 it
sent_answer NoReply exchange all c e at is it = absurd (never_lost c.phase it.tells)
sent_answer LongLine exchange all c e at is it = absurd (never_lost c.phase it.tells)

sent_in : (p : SmtpPhase) (piece : List ℕ) (c e : Code) → c.phase ≡ p → HearsIn p piece c (Some endings.Sent) e → RepliesInPhase (Awaiting (Message Text)) c piece 250
sent_in (Awaiting exchange) piece c e at it = sent_answer it.answer exchange (c.heard ++ piece) c e at it.answers it.hears
sent_in (Writing exchange count) piece c e at it = absurd (never_interrupted (has_octets piece) c it.tells)
sent_in Ready piece c e at it = absurd (never_interrupted (has_octets piece) c it.tells)
sent_in (Over end) piece c e at it = absurd (never_interrupted (has_octets piece) c it.tells)

-- ---- too early

early_at : (piece : List ℕ) (exchange : SmtpExchange) (count : ℕ) (c e : Code) (ending : Option Ending) → c.phase ≡ Writing exchange count → piece ≢ [] → Interrupts (has_octets piece) c ending e
    → (e.phase ≡ Over ends.OutOfTurn) × (ending ≡ lost_at c.phase)
early_at [] exchange count c e ending at some it = absurd (some refl)
early_at (octet ∷ piece) exchange count c e ending at some it = (ap (λ (m : Code). m.phase) it.leaves ∙ ap (λ p. (ended_in ends.OutOfTurn p c).phase) at, it.tells)

early_in : (p : SmtpPhase) (piece : List ℕ) (c e : Code) (ending : Option Ending) → c.phase ≡ p → left_at c p ≢ [] → piece ≢ [] → HearsIn p piece c ending e
    → (e.phase ≡ Over ends.OutOfTurn) × (ending ≡ lost_at c.phase)
early_in (Writing exchange count) piece c e ending at left some it = early_at piece exchange count c e ending at some it
early_in (Awaiting exchange) piece c e ending at left some it = absurd (left refl)
early_in Ready piece c e ending at left some it = absurd (left refl)
early_in (Over end) piece c e ending at left some it = absurd (left refl)

-- ---- a text is begun

record ToData (exchange : SmtpExchange) (code : ℕ) : Type 0 where
  exchange_is : exchange ≡ Message Data
  class : reply_class code ≡ 3

none_text : (p : SmtpPhase) → stage_at p ≡ None → stage_at p ≡ Some Text → ⊥
none_text p off is = let never : Some Text ≡ None = sym is ∙ off in cc

next_text : (is_taken : Bool) (onward : SmtpStage) (code : ℕ) → stage_at (phase_by_turn (next_or_end is_taken onward code)) ≡ Some Text → (is_taken ≡ true) × (onward ≡ Text)
next_text true onward code is = (refl, cc)
next_text false onward code is = absurd (none_text (phase_by_turn (Ends (ending_of code))) (ending_no_stage (ending_of code)) is)

not_again : (is_sent : Bool) (code : ℕ) → stage_at (phase_by_turn (if is_sent then Ends endings.Sent else Ends (ending_of code))) ≡ Some Text → ⊥
not_again true code is = cc
not_again false code is = none_text (phase_by_turn (Ends (ending_of code))) (ending_no_stage (ending_of code)) is

text_by : (exchange : SmtpExchange) (code : ℕ) → stage_at (phase_after exchange code) ≡ Some Text → ToData exchange code
text_by Greeting code is = absurd (none_text (phase_after Greeting code) (after_no_stage Greeting code refl) is)
text_by Ehlo code is = absurd (none_text (phase_after Ehlo code) (after_no_stage Ehlo code refl) is)
text_by Helo code is = absurd (none_text (phase_after Helo code) (after_no_stage Helo code refl) is)
text_by Reset code is = absurd (none_text (phase_after Reset code) (after_no_stage Reset code refl) is)
text_by Quit code is = absurd (none_text (phase_after Quit code) refl is)
text_by (Message Sender) code is = let never : Recipient ≡ Text = (next_text (reply_class code == 2) Recipient code is).1 in absurd (cc never)
text_by (Message Recipient) code is = let never : Data ≡ Text = (next_text (reply_class code == 2) Data code is).1 in absurd (cc never)
text_by (Message Data) code is = let holds = (next_text (reply_class code == 3) Text code is).0 in record { exchange_is = refl; class = grind (arith, holds) }
text_by (Message Text) code is = absurd (not_again (code == 250) code is)

-- a connection that is at its end has no stage
no_text : (end : SmtpEnd) (c e : Code) → e.phase ≡ (ended_in end c.phase c).phase → stage_at e.phase ≡ Some Text → ⊥
no_text end c e is text =
    let over = ended_over end c c.phase refl in
    let never : Some Text ≡ None = sym text ∙ ap stage_at (is ∙ over.1) in
    cc

abbrev Began : List ℕ → Code → Type 0
Began piece c = (stage_at c.phase ≡ Some Text) ⊎ ((code : ℕ) × RepliesInPhase (Awaiting (Message Data)) c piece code × (reply_class code ≡ 3))

text_interrupt : (b : Bool) (piece : List ℕ) (c e : Code) (ending : Option Ending) → Interrupts b c ending e → stage_at e.phase ≡ Some Text → stage_at c.phase ≡ Some Text
text_interrupt false piece c e ending it text = ap (λ (m : Code). stage_at m.phase) (sym it.leaves) ∙ text
text_interrupt true piece c e ending it text = absurd (no_text ends.OutOfTurn c e (ap (λ (m : Code). m.phase) it.leaves) text)

text_answer : (answer : SmtpAnswer) (exchange : SmtpExchange) (piece : List ℕ) (c e : Code) (ending : Option Ending) → c.phase ≡ Awaiting exchange → Answers (take max_smtp_reply (c.heard ++ piece)) answer
    → HearsAnswer answer exchange (c.heard ++ piece) c ending e → stage_at e.phase ≡ Some Text → Began piece c
text_answer Part exchange piece c e ending at is (inl it) text = inl (ap (λ (m : Code). stage_at m.phase) (sym it.2) ∙ text)
text_answer Part exchange piece c e ending at is (inr it) text = absurd (no_text ends.LongReply c e (ap (λ (m : Code). m.phase) it.1.leaves) text)
text_answer (Whole code count) exchange piece c e ending at is it text =
    let all = c.heard ++ piece in
    let before = text_interrupt (has_octets (drop count all)) piece it.next e it.behind it.interrupts text in
    let to = text_by exchange code (ap (λ (m : Code). stage_at m.phase) (sym it.follows.leaves) ∙ before) in
    inr (code, (at ∙ ap Awaiting to.exchange_is, (drop count all, (whole_reply max_smtp_reply all code count is).1)), to.class)
text_answer NoReply exchange piece c e ending at is it text = absurd (no_text ends.NoReply c e (ap (λ (m : Code). m.phase) it.leaves) text)
text_answer LongLine exchange piece c e ending at is it text = absurd (no_text ends.LongLine c e (ap (λ (m : Code). m.phase) it.leaves) text)

text_in : (p : SmtpPhase) (piece : List ℕ) (c e : Code) (ending : Option Ending) → c.phase ≡ p → HearsIn p piece c ending e → stage_at e.phase ≡ Some Text → Began piece c
text_in (Awaiting exchange) piece c e ending at it text = text_answer it.answer exchange piece c e ending at it.answers it.hears text
text_in (Writing exchange count) piece c e ending at it text = inl (text_interrupt (has_octets piece) piece c e ending it text)
text_in Ready piece c e ending at it text = inl (text_interrupt (has_octets piece) piece c e ending it text)
text_in (Over end) piece c e ending at it text = inl (text_interrupt (has_octets piece) piece c e ending it text)

pub turns_stand : TurnsStand
turns_stand = record {
  sent = λ piece c e it. sent_in c.phase piece c e refl it;
  early = λ piece c e ending left some it. early_in c.phase piece c e ending refl left some it;
  text = λ piece c e ending it text. text_in c.phase piece c e ending refl it text;
}
