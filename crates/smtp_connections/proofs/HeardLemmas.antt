-- What holds of a connection when octets came, and so of its whole life.
use Rattle.std.proofs.Common.{◌≡◌, ℕ, Bool, true, false, List, [], ◌++◌, take, drop, Option, Some, None, inl, inr, refl, sym, ap, ◌∙◌, subst}
use Rattle.smtp_dialogue.specs.declared.dialogue.Ending.{Ending}
use Rattle.smtp_send.specs.Wires.{WirePasses}
use Rattle.smtp_send.specs.Talks.{SendTalk}
use Rattle.smtp_connections.specs.Answers.{Answers}
use Rattle.smtp_connections.specs.Exchanges.{lost_at, ending_by}
use Rattle.smtp_connections.specs.Connections.{ended, has_octets, left_to_write, Interrupts, BreaksConnection, first_ending, RepliesAndMore, AwaitsMore, HearsAnswer, HearsIn, WritesIn, max_smtp_reply}
use Rattle.smtp_connections.specs.Cuts.{stage_at}
use Rattle.smtp_connections.specs.Lives.{SmtpHandover, SmtpPassed, passed_heard, passed_written, passed_ended, GoesOn, unread_at, IsSince, PassedAre, LifeStands, SmtpLives, life_new, life_wrote, life_heard, life_begun, life_quit, life_ended, LivesStand}
use Rattle.smtp_connections.specs.declared.answer.SmtpAnswer.{SmtpAnswer}
use Rattle.smtp_connections.specs.declared.answer.SmtpAnswer.TheVariants.{Part, Whole, NoReply, LongLine}
use Rattle.smtp_connections.specs.declared.end.SmtpEnd.{SmtpEnd}
use Rattle.smtp_connections.specs.declared.end.SmtpEnd.TheVariants as ends
use Rattle.smtp_connections.specs.declared.exchange.SmtpExchange.{SmtpExchange}
use Rattle.smtp_connections.specs.declared.exchange.SmtpPhase.{SmtpPhase}
use Rattle.smtp_connections.specs.declared.exchange.SmtpPhase.TheVariants.{Writing, Awaiting, Ready, Over}
use Rattle.smtp_connections.specs.declared.connection.SmtpConnection.{SmtpConnection as Code}
use Rattle.smtp_connections.proofs.BoundLemmas.{bounded_by, deals_taken}
use Rattle.smtp_connections.proofs.PhaseLemmas.{is_awaiting}
use Rattle.smtp_connections.proofs.CutLemmas.{ended_over, broken_same, whole_reply}
use Rattle.smtp_connections.proofs.LifeLemmas.{new_stands, wrote_some, wrote_all, came, ignored, ended_stands, replied_stands, begun_stands, quit_stands}

-- ---- what was heard is forgotten at the end

goes_over : (g : Option SmtpHandover) (c : Code) (x : SmtpEnd) (h : List ℕ) (start now : SendTalk) → c.phase ≡ Over x → GoesOn g c start now → GoesOn g (record c { heard = h }) start now
goes_over None c x h start now is goes = goes
goes_over (Some handover) c x h start now is goes = let never : Some goes.0 ≡ None = sym goes.1.at ∙ ap stage_at is in absurd (cc never)

forgets_heard : (c : Code) (x : SmtpEnd) (h : List ℕ) (p : SmtpPassed) → c.phase ≡ Over x → LifeStands c p → LifeStands (record c { heard = h }) p
forgets_heard c x h p is it =
    let there = ap (λ q. unread_at q c.heard) is ∙ sym (ap (λ q. unread_at q h) is) in
    record {
      start = it.start;
      now = it.now;
      wire = subst (λ u. WirePasses (PassedAre p) u it.now) there it.wire;
      deals = it.deals;
      goes = goes_over p.goes c x h it.start it.now is it.goes;
      since = subst (λ r. IsSince r h p.since) (sym is) tt;
    }

-- ---- by what was made of it

interrupt_stands : (b : Bool) (c e : Code) (ending : Option Ending) (p : SmtpPassed) → Interrupts b c ending e → LifeStands c p → LifeStands e (passed_ended ending p)
interrupt_stands false c e ending p it stands =
    subst (λ m. LifeStands m (passed_ended ending p)) (sym it.leaves) (subst (λ r. LifeStands c (passed_ended r p)) (sym it.tells) stands)
interrupt_stands true c e ending p it stands =
    subst (λ m. LifeStands m (passed_ended ending p)) (sym it.leaves) (subst (λ r. LifeStands (ended ends.OutOfTurn c) (passed_ended r p)) (sym it.tells) (ended_stands ends.OutOfTurn c p stands))

-- all of what came of a reply is kept
abbrev Kept : Code → List ℕ → Code
Kept c all = record c { heard = all }

break_stands : (end : SmtpEnd) (all : List ℕ) (c e : Code) (ending : Option Ending) (p : SmtpPassed) → BreaksConnection end c ending e → LifeStands (Kept c all) p → LifeStands e (passed_ended ending p)
break_stands end all c e ending p it stands =
    let m = Kept c all in
    let over = ended_over end m m.phase refl in
    let done = forgets_heard (ended end m) over.0 [] (passed_ended (lost_at c.phase) p) over.1 (ended_stands end m p stands) in
    let there = subst (λ n. LifeStands n (passed_ended (lost_at c.phase) p)) (broken_same end c.phase c all ∙ sym it.leaves) done in
    subst (λ r. LifeStands e (passed_ended r p)) (sym it.tells) there

-- one end after another
ended_twice : (a b : Option Ending) (g : Option SmtpHandover) (p : SmtpPassed) → passed_ended b (passed_ended a (record p { goes = g })) ≡ passed_ended (first_ending a b) (record p { goes = g })
ended_twice None b g p = refl
ended_twice (Some x) None g p = refl
ended_twice (Some x) (Some y) None p = refl
ended_twice (Some x) (Some y) (Some handover) p = refl

reply_stands : (exchange : SmtpExchange) (code count : ℕ) (all : List ℕ) (b : Bool) (c e : Code) (ending : Option Ending) (p : SmtpPassed) → c.phase ≡ Awaiting exchange → Answers (take max_smtp_reply all) (Whole code count)
    → RepliesAndMore exchange code (take count all) b c ending e → LifeStands (Kept c all) p → LifeStands e (passed_ended ending p)
reply_stands exchange code count all b c e ending p at is it stands =
    let reply = take count all in
    let first = replied_stands exchange code count reply it.follows.offered (Kept c all) p at it.follows.offers (whole_reply max_smtp_reply all code count is).1 stands in
    let next = subst (λ m. LifeStands m (passed_ended (ending_by exchange code) p)) (sym it.follows.leaves) first in
    let last = interrupt_stands b it.next e it.behind (passed_ended (ending_by exchange code) p) it.interrupts next in
    subst (λ q. LifeStands e q) (ended_twice (ending_by exchange code) it.behind p.goes p ∙ ap (λ r. passed_ended r p) (sym it.tells)) last

more_stands : (all : List ℕ) (c e : Code) (ending : Option Ending) (p : SmtpPassed) → AwaitsMore all c ending e → LifeStands (Kept c all) p → LifeStands e (passed_ended ending p)
more_stands all c e ending p (inl it) stands = subst (λ m. LifeStands m (passed_ended ending p)) (sym it.2) (subst (λ r. LifeStands (Kept c all) (passed_ended r p)) (sym it.1) stands)
more_stands all c e ending p (inr it) stands = break_stands ends.LongReply all c e ending p it.1 stands

answer_stands : (answer : SmtpAnswer) (exchange : SmtpExchange) (all : List ℕ) (c e : Code) (ending : Option Ending) (p : SmtpPassed) → c.phase ≡ Awaiting exchange → Answers (take max_smtp_reply all) answer
    → HearsAnswer answer exchange all c ending e → LifeStands (Kept c all) p → LifeStands e (passed_ended ending p)
answer_stands Part exchange all c e ending p at is it stands = more_stands all c e ending p it stands
answer_stands (Whole code count) exchange all c e ending p at is it stands = reply_stands exchange code count all (has_octets (drop count all)) c e ending p at is it stands
answer_stands NoReply exchange all c e ending p at is it stands = break_stands ends.NoReply all c e ending p it stands
answer_stands LongLine exchange all c e ending p at is it stands = break_stands ends.LongLine all c e ending p it stands

kept_stands : (exchange : SmtpExchange) (piece : List ℕ) (c : Code) (p : SmtpPassed) → c.phase ≡ Awaiting exchange → LifeStands c p → LifeStands (Kept c (c.heard ++ piece)) (passed_heard piece p)
kept_stands exchange piece c p at it =
    let there : LifeStands (record c { phase = Awaiting exchange }) p = subst (λ q. LifeStands (record c { phase = q }) p) at it in
    subst (λ q. LifeStands (record c { phase = q; heard = c.heard ++ piece }) (passed_heard piece p)) (sym at) (came exchange piece c p there)

heard_in : (q : SmtpPhase) (piece : List ℕ) (c e : Code) (ending : Option Ending) (p : SmtpPassed) → c.phase ≡ q → HearsIn q piece c ending e → LifeStands c p → LifeStands e (passed_ended ending (passed_heard piece p))
heard_in (Awaiting exchange) piece c e ending p at it stands =
    answer_stands it.answer exchange (c.heard ++ piece) c e ending (passed_heard piece p) at it.answers it.hears (kept_stands exchange piece c p at stands)
heard_in (Writing exchange count) piece c e ending p at it stands = interrupt_stands (has_octets piece) c e ending (passed_heard piece p) it (ignored piece c p (ap is_awaiting at) stands)
heard_in Ready piece c e ending p at it stands = interrupt_stands (has_octets piece) c e ending (passed_heard piece p) it (ignored piece c p (ap is_awaiting at) stands)
heard_in (Over end) piece c e ending p at it stands = interrupt_stands (has_octets piece) c e ending (passed_heard piece p) it (ignored piece c p (ap is_awaiting at) stands)

-- ---- octets were written

wrote_in : (count before : ℕ) (exchange : SmtpExchange) (c e : Code) (p : SmtpPassed) → c.phase ≡ Writing exchange before → WritesIn count (Writing exchange before) c e → LifeStands c p
    → LifeStands e (passed_written (take count (left_to_write c)) p)
wrote_in count before exchange c e p at (inl (less, leaves)) stands = subst (λ m. LifeStands m (passed_written (take count (left_to_write c)) p)) (sym leaves) (wrote_some exchange before count c p stands at)
wrote_in count before exchange c e p at (inr (all, leaves)) stands = subst (λ m. LifeStands m (passed_written (take count (left_to_write c)) p)) (sym leaves) (wrote_all exchange before count c p stands at all)

-- ---- its whole life

lives_by : {c : Code} {p : SmtpPassed} → SmtpLives c p → LifeStands c p
lives_by (life_new host may c is) = new_stands host may c is
lives_by (life_wrote count exchange before c e p life at fits writes) = wrote_in count before exchange c e p at (subst (λ q. WritesIn count q c e) at writes) (lives_by life)
lives_by (life_heard piece c e ending p life hears) = heard_in c.phase piece c e ending p refl hears (lives_by life)
lives_by (life_begun mail c e ending p life at begins) = begun_stands mail ending c e p at begins (lives_by life)
lives_by (life_quit c p life at) = quit_stands c p at (lives_by life)
lives_by (life_ended end c p life) = ended_stands end c p (lives_by life)

pub lives_stand : LivesStand
lives_stand = record {
  stands = λ c p life. lives_by life;
  taken = λ c p life. let it = lives_by life in deals_taken c.may_eight_bit p.deals it.start it.deals;
  bounded = λ c p life. bounded_by life;
}
