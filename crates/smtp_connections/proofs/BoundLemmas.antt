-- How much is kept of a reply, and which messages were taken.
use Rattle.std.proofs.Common.{◌≡◌, ℕ, ◌≤◌, Bool, List, [], ◌∷◌, ◌++◌, length, take, drop, Option, Some, None, inl, inr, ap, ◌∙◌, subst, arith}
use Rattle.std.specs.List.{All}
use Rattle.std.proofs.lemmas.List.Elements.{All-nil, All-cons}
use Rattle.smtp_dialogue.specs.Messages.{SmtpMail}
use Rattle.smtp_dialogue.specs.Dialogues.{IsMessageTaken}
use Rattle.smtp_dialogue.specs.declared.extension.Extensions.{Extensions}
use Rattle.smtp_dialogue.specs.declared.dialogue.Ending.{Ending}
use Rattle.smtp_dialogue.specs.declared.dialogue.Ending.TheVariants as endings
use Rattle.smtp_dialogue.proofs.DialogueLemmas.{speaks_right}
use Rattle.smtp_send.specs.Talks.{SendTalk, Treats}
use Rattle.smtp_connections.specs.Answers.{Answers}
use Rattle.smtp_connections.specs.Connections.{Begins, BreaksConnection, HearsAnswer, HearsIn, Interrupts, AwaitsMore, RepliesAndMore, WritesIn, has_octets, max_smtp_reply}
use Rattle.smtp_connections.specs.Lives.{SmtpDeal, SmtpPassed, DealsLead, IsTakenIfSent, SmtpLives, life_new, life_wrote, life_heard, life_begun, life_quit, life_ended}
use Rattle.smtp_connections.specs.declared.answer.SmtpAnswer.{SmtpAnswer}
use Rattle.smtp_connections.specs.declared.answer.SmtpAnswer.TheVariants.{Part, Whole, NoReply, LongLine}
use Rattle.smtp_connections.specs.declared.end.SmtpEnd.{SmtpEnd}
use Rattle.smtp_connections.specs.declared.end.SmtpEnd.TheVariants as ends
use Rattle.smtp_connections.specs.declared.exchange.SmtpExchange.{SmtpExchange}
use Rattle.smtp_connections.specs.declared.exchange.SmtpPhase.{SmtpPhase}
use Rattle.smtp_connections.specs.declared.exchange.SmtpPhase.TheVariants.{Writing, Awaiting, Ready, Over}
use Rattle.smtp_connections.specs.declared.connection.SmtpConnection.{SmtpConnection as Code}
use Rattle.smtp_connections.proofs.AnswerLemmas.{smtp_answers_stand}
use Rattle.smtp_connections.proofs.JudgeLemmas.{ended_heard, interrupted_heard, length_take}

-- ---- what is kept

abbrev IsBounded : Code → Type 0
IsBounded c = length c.heard ≤ max_smtp_reply

same_bound : (c e : Code) → e.heard ≡ c.heard → IsBounded c → IsBounded e
same_bound c e same bounded = let size = ap length same in omega (arith, size, bounded)

breaks_bound : (end : SmtpEnd) (c e : Code) (r : Option Ending) → BreaksConnection end c r e → IsBounded e
breaks_bound end c e r it = let none = ap (λ (m : Code). length m.heard) it.leaves in omega (arith, none)

interrupts_bound : (b : Bool) (c e : Code) (r : Option Ending) → Interrupts b c r e → IsBounded c → IsBounded e
interrupts_bound b c e r it bounded = same_bound c e (ap (λ (m : Code). m.heard) it.leaves ∙ interrupted_heard b c) bounded

more_bound : (all : List ℕ) (c e : Code) (r : Option Ending) → AwaitsMore all c r e → IsBounded e
more_bound all c e r (inl it) = let size = ap (λ (m : Code). length m.heard) it.2 in omega (arith, size, it.0)
more_bound all c e r (inr it) = breaks_bound ends.LongReply c e r it.1

reply_bound : (exchange : SmtpExchange) (code count : ℕ) (all : List ℕ) (b : Bool) (c e : Code) (r : Option Ending) → Answers (take max_smtp_reply all) (Whole code count)
    → RepliesAndMore exchange code (take count all) b c r e → IsBounded e
reply_bound exchange code count all b c e r is it =
    let within = (smtp_answers_stand.hears (take max_smtp_reply all) (Whole code count) is).0 in
    let most = length_take max_smtp_reply all in
    let kept = length_take count all in
    let size = ap (λ (m : Code). length m.heard) it.follows.leaves in
    interrupts_bound b it.next e it.behind it.interrupts (omega (arith, within, most, kept, size))

answer_bound : (answer : SmtpAnswer) (exchange : SmtpExchange) (all : List ℕ) (c e : Code) (r : Option Ending) → Answers (take max_smtp_reply all) answer → HearsAnswer answer exchange all c r e → IsBounded e
answer_bound Part exchange all c e r is it = more_bound all c e r it
answer_bound (Whole code count) exchange all c e r is it = reply_bound exchange code count all (has_octets (drop count all)) c e r is it
answer_bound NoReply exchange all c e r is it = breaks_bound ends.NoReply c e r it
answer_bound LongLine exchange all c e r is it = breaks_bound ends.LongLine c e r it

heard_bound : (p : SmtpPhase) (piece : List ℕ) (c e : Code) (r : Option Ending) → HearsIn p piece c r e → IsBounded c → IsBounded e
heard_bound (Awaiting exchange) piece c e r it bounded = answer_bound it.answer exchange (c.heard ++ piece) c e r it.answers it.hears
heard_bound (Writing exchange count) piece c e r it bounded = interrupts_bound (has_octets piece) c e r it bounded
heard_bound Ready piece c e r it bounded = interrupts_bound (has_octets piece) c e r it bounded
heard_bound (Over end) piece c e r it bounded = interrupts_bound (has_octets piece) c e r it bounded

wrote_bound : (count before : ℕ) (exchange : SmtpExchange) (c e : Code) → WritesIn count (Writing exchange before) c e → IsBounded c → IsBounded e
wrote_bound count before exchange c e (inl it) bounded = same_bound c e (ap (λ (m : Code). m.heard) it.1) bounded
wrote_bound count before exchange c e (inr it) bounded = let none = ap (λ (m : Code). length m.heard) it.1 in omega (arith, none)

begun_bound : (mail : SmtpMail) (c e : Code) (r : Option Ending) → Begins mail c r e → IsBounded c → IsBounded e
begun_bound mail c e None it bounded = same_bound c e (ap (λ (m : Code). m.heard) it.begun) bounded
begun_bound mail c e (Some endings.Unaddressed) it bounded = same_bound c e (ap (λ (m : Code). m.heard) it.1) bounded
begun_bound mail c e (Some endings.Undeclared) it bounded = same_bound c e (ap (λ (m : Code). m.heard) it.2) bounded
begun_bound mail c e (Some endings.Sent) it bounded = absurd it
begun_bound mail c e (Some (endings.Refused code)) it bounded = absurd it
begun_bound mail c e (Some (endings.Delayed code)) it bounded = absurd it
begun_bound mail c e (Some (endings.OutOfPlace code)) it bounded = absurd it
begun_bound mail c e (Some endings.Lost) it bounded = absurd it

pub bounded_by : {c : Code} {p : SmtpPassed} → SmtpLives c p → length c.heard ≤ max_smtp_reply
bounded_by (life_new host may c is) = let none = ap length is.heard in omega (arith, none)
bounded_by (life_wrote count exchange before c e p life at fits writes) = wrote_bound count before exchange c e (subst (λ q. WritesIn count q c e) at writes) (bounded_by life)
bounded_by (life_heard piece c e ending p life hears) = heard_bound c.phase piece c e ending hears (bounded_by life)
bounded_by (life_begun mail c e ending p life at begins) = begun_bound mail c e ending begins (bounded_by life)
bounded_by (life_quit c p life at) = bounded_by life
bounded_by (life_ended end c p life) = let size = ap length (ended_heard end c.phase c) in let before = bounded_by life in omega (arith, size, before)

-- ---- which messages were taken

taken : (offered : Extensions) (may : Bool) (mail : SmtpMail) (before now : SendTalk) (ending : Ending) → Treats offered may mail before now ending → ending ≡ endings.Sent
    → (answered written : List ℕ) × IsMessageTaken offered mail answered written
taken offered may mail before now endings.Sent treats is = (treats.says.codes, treats.says.lines, speaks_right.sent offered mail treats.says.codes treats.says.lines treats.says.speaks)
taken offered may mail before now endings.Unaddressed treats is = absurd (cc is)
taken offered may mail before now endings.Undeclared treats is = absurd (cc is)
taken offered may mail before now endings.Lost treats is = absurd (cc is)
taken offered may mail before now (endings.Refused code) treats is = absurd (cc is)
taken offered may mail before now (endings.Delayed code) treats is = absurd (cc is)
taken offered may mail before now (endings.OutOfPlace code) treats is = absurd (cc is)

pub deals_taken : (may : Bool) (deals : List SmtpDeal) (now : SendTalk) → DealsLead may deals now → All IsTakenIfSent deals
deals_taken may [] now lead = All-nil IsTakenIfSent
deals_taken may (deal ∷ deals) now (before, lead, treats) =
    All-cons IsTakenIfSent deal deals (λ is. taken deal.handover.offered may deal.handover.mail before now deal.ending treats is) (deals_taken may deals before lead)
