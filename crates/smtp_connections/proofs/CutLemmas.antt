-- Octets in other pieces do the same.
use Rattle.std.proofs.Common.{◌≡◌, ℕ, zero, suc, ◌+◌, ◌≤◌, Bool, true, false, List, [], ◌∷◌, ◌++◌, length, take, drop, Option, Some, None, inl, inr, refl, sym, ap, ◌∙◌, subst, append_assoc, arith}
use Rattle.std.proofs.Math.Seq.{take-append-add}
use Rattle.std.proofs.lemmas.List.{drop-append-le, take-append-le, take-append-drop, length-append, length-take-le}
use Rattle.lmtp_dialogue.specs.Lines.{LineFinds, line_end}
use Rattle.lmtp_dialogue.specs.declared.command_line.Found.TheVariants as found
use Rattle.smtp_dialogue.specs.Extensions.{AreReplyLines}
use Rattle.smtp_dialogue.specs.Replies.{IsHere, HearsReply}
use Rattle.smtp_dialogue.specs.declared.reply.Heard.TheVariants as heard
use Rattle.smtp_dialogue.specs.declared.extension.Extensions.{Extensions}
use Rattle.smtp_dialogue.specs.declared.dialogue.Ending.{Ending}
use Rattle.smtp_connections.specs.Answers.{AnswerFollows, Answers}
use Rattle.smtp_connections.specs.Exchanges.{lost_at, ending_by}
use Rattle.smtp_connections.specs.Connections.{ended_in, has_octets, interrupted, ending_interrupted, Interrupts, BreaksConnection, OffersBy, after_reply, first_ending, Follows, RepliesAndMore, TakesReply, AwaitsMore, HearsAnswer, HearsReplyTo, HearsIn, Hears, max_smtp_reply}
use Rattle.smtp_connections.specs.Cuts.{CutsStand}
use Rattle.smtp_connections.specs.declared.answer.SmtpAnswer.{SmtpAnswer}
use Rattle.smtp_connections.specs.declared.answer.SmtpAnswer.TheVariants.{Part, Whole, NoReply, LongLine}
use Rattle.smtp_connections.specs.declared.end.SmtpEnd.{SmtpEnd}
use Rattle.smtp_connections.specs.declared.end.SmtpEnd.TheVariants as ends
use Rattle.smtp_connections.specs.declared.exchange.SmtpExchange.{SmtpExchange}
use Rattle.smtp_connections.specs.declared.exchange.SmtpExchange.TheVariants as exchanges
use Rattle.smtp_connections.specs.declared.exchange.SmtpPhase.{SmtpPhase}
use Rattle.smtp_connections.specs.declared.exchange.SmtpPhase.TheVariants.{Writing, Awaiting, Ready, Over}
use Rattle.smtp_connections.specs.declared.connection.SmtpConnection.{SmtpConnection as Code}
use Rattle.smtp_connections.proofs.AnswerLemmas.{smtp_answers_stand}
use Rattle.smtp_connections.proofs.PhaseLemmas.{is_awaiting, after_not_awaiting}

-- ---- when it isn't the server's turn

pub as_interrupt : (p : SmtpPhase) (piece : List ℕ) (c e : Code) (r : Option Ending) → is_awaiting p ≡ false → HearsIn p piece c r e → Interrupts (has_octets piece) c r e
as_interrupt (Awaiting exchange) piece c e r off hears = absurd (cc off)
as_interrupt (Writing exchange count) piece c e r off hears = hears
as_interrupt Ready piece c e r off hears = hears
as_interrupt (Over end) piece c e r off hears = hears

pub ended_over : (end : SmtpEnd) (c : Code) (p : SmtpPhase) → c.phase ≡ p → (x : SmtpEnd) × ((ended_in end p c).phase ≡ Over x)
ended_over end c (Writing exchange count) is = (end, refl)
ended_over end c (Awaiting exchange) is = (end, refl)
ended_over end c Ready is = (end, refl)
ended_over end c (Over x) is = (x, is)

still : (b : Bool) (d : Code) (x : SmtpEnd) → d.phase ≡ Over x → interrupted b d ≡ d
still false d x is = refl
still true d x is = ap (λ p. ended_in ends.OutOfTurn p d) is

quiet : (b : Bool) (d : Code) (x : SmtpEnd) → d.phase ≡ Over x → ending_interrupted b d ≡ None
quiet false d x is = refl
quiet true d x is = ap lost_at is

pub record HearsNothing (d : Code) (r : Option Ending) (e : Code) : Type 0 where
  pub tells : r ≡ None
  pub leaves : e ≡ d

pub over_hears : (piece : List ℕ) (d e : Code) (x : SmtpEnd) (r : Option Ending) → d.phase ≡ Over x → Hears piece d r e → HearsNothing d r e
over_hears piece d e x r is hears =
    let it = as_interrupt d.phase piece d e r (ap is_awaiting is) hears in
    record { tells = it.tells ∙ quiet (has_octets piece) d x is; leaves = it.leaves ∙ still (has_octets piece) d x is }

first_none : (r : Option Ending) → first_ending r None ≡ r
first_none None = refl
first_none (Some ending) = refl

first_assoc : (a b c : Option Ending) → first_ending (first_ending a b) c ≡ first_ending a (first_ending b c)
first_assoc None b c = refl
first_assoc (Some ending) b c = refl

pub interrupts_join : (xs ys : List ℕ) (n d e : Code) (r s : Option Ending) → is_awaiting n.phase ≡ false → Interrupts (has_octets xs) n r d → Hears ys d s e
    → Interrupts (has_octets (xs ++ ys)) n (first_ending r s) e
interrupts_join [] ys n d e r s off one two =
    let here = as_interrupt n.phase ys n e s off (subst (λ m. Hears ys m s e) one.leaves two) in
    record { tells = ap (λ x. first_ending x s) one.tells ∙ here.tells; leaves = here.leaves }
interrupts_join (x ∷ xs) ys n d e r s off one two =
    let over = ended_over ends.OutOfTurn n n.phase refl in
    let is : d.phase ≡ Over over.0 = ap (λ (m : Code). m.phase) one.leaves ∙ over.1 in
    let after = over_hears ys d e over.0 s is two in
    record { tells = ap (first_ending r) after.tells ∙ (first_none r ∙ one.tells); leaves = after.leaves ∙ one.leaves }

-- ---- after a fault

pub breaks_join : (end : SmtpEnd) (ys : List ℕ) (c d e : Code) (r s : Option Ending) → BreaksConnection end c r d → Hears ys d s e → BreaksConnection end c (first_ending r s) e
breaks_join end ys c d e r s one two =
    let over = ended_over end c c.phase refl in
    let is : d.phase ≡ Over over.0 = ap (λ (m : Code). m.phase) one.leaves ∙ over.1 in
    let after = over_hears ys d e over.0 s is two in
    record { tells = ap (first_ending r) after.tells ∙ (first_none r ∙ one.tells); leaves = after.leaves ∙ one.leaves }

pub broken_same : (end : SmtpEnd) (p : SmtpPhase) (c : Code) (h : List ℕ) → record (ended_in end p (record c { heard = h })) { heard = [] } ≡ record (ended_in end p c) { heard = [] }
broken_same end (Writing exchange count) c h = refl
broken_same end (Awaiting exchange) c h = refl
broken_same end Ready c h = refl
broken_same end (Over x) c h = refl

pub breaks_same : (end : SmtpEnd) (c e : Code) (h : List ℕ) (r : Option Ending) → BreaksConnection end (record c { heard = h }) r e → BreaksConnection end c r e
breaks_same end c e h r breaks = record { tells = breaks.tells; leaves = breaks.leaves ∙ broken_same end c.phase c h }

-- ---- what was heard before is overwritten

more_same : (all h : List ℕ) (c e : Code) (r : Option Ending) → AwaitsMore all (record c { heard = h }) r e → AwaitsMore all c r e
more_same all h c e r (inl waits) = inl waits
more_same all h c e r (inr (long, breaks)) = inr (long, breaks_same ends.LongReply c e h r breaks)

pub follows_same : (exchange : SmtpExchange) (code : ℕ) (reply h : List ℕ) (c e : Code) → Follows exchange code reply (record c { heard = h }) e → Follows exchange code reply c e
follows_same exchange code reply h c e follows = record { offered = follows.offered; offers = follows.offers; leaves = follows.leaves }

pub replies_same : (exchange : SmtpExchange) (code : ℕ) (reply h : List ℕ) (is_more : Bool) (c e : Code) (r : Option Ending) → RepliesAndMore exchange code reply is_more (record c { heard = h }) r e
    → RepliesAndMore exchange code reply is_more c r e
replies_same exchange code reply h is_more c e r it = record {
  next = it.next;
  follows = follows_same exchange code reply h c it.next it.follows;
  behind = it.behind;
  interrupts = it.interrupts;
  tells = it.tells;
}

answer_same : (answer : SmtpAnswer) (exchange : SmtpExchange) (all h : List ℕ) (c e : Code) (r : Option Ending) → HearsAnswer answer exchange all (record c { heard = h }) r e → HearsAnswer answer exchange all c r e
answer_same Part exchange all h c e r hears = more_same all h c e r hears
answer_same (Whole code count) exchange all h c e r hears = replies_same exchange code (take count all) h (has_octets (drop count all)) c e r hears
answer_same NoReply exchange all h c e r hears = breaks_same ends.NoReply c e h r hears
answer_same LongLine exchange all h c e r hears = breaks_same ends.LongLine c e h r hears

-- ---- a front of what came

take_more : (n : ℕ) (xs ys : List ℕ) → (zs : List ℕ) × (take n (xs ++ ys) ≡ take n xs ++ zs)
take_more zero xs ys = ([], refl)
take_more (suc n) [] ys = (take (suc n) ys, refl)
take_more (suc n) (x ∷ xs) ys = let it = take_more n xs ys in (it.0, ap (λ l. x ∷ l) it.1)

stays_in : (n : ℕ) (xs ys : List ℕ) (answer : SmtpAnswer) → (answer ≡ Part → ⊥) → Answers (take n xs) answer → Answers (take n (xs ++ ys)) answer
stays_in n xs ys answer whole is =
    let it = take_more n xs ys in
    subst (λ o. Answers o answer) (sym it.1) (smtp_answers_stand.stays (take n xs) it.0 answer whole is)

-- of all, if of a front
pub to_all : (n : ℕ) (all : List ℕ) (answer : SmtpAnswer) → (answer ≡ Part → ⊥) → Answers (take n all) answer → Answers all answer
to_all n all answer whole is = subst (λ o. Answers o answer) (take-append-drop n all) (smtp_answers_stand.stays (take n all) (drop n all) answer whole is)

pub whole_reply : (n : ℕ) (all : List ℕ) (code count : ℕ) → Answers (take n all) (Whole code count) → HearsReply all (heard.Reply code count)
whole_reply n all code count is = smtp_answers_stand.hears all (Whole code count) (to_all n all (Whole code count) (λ same. cc) is)

-- ---- two pieces

replies_join : (exchange : SmtpExchange) (code : ℕ) (reply xs ys : List ℕ) (c d e : Code) (r s : Option Ending) → RepliesAndMore exchange code reply (has_octets xs) c r d → Hears ys d s e
    → RepliesAndMore exchange code reply (has_octets (xs ++ ys)) c (first_ending r s) e
replies_join exchange code reply xs ys c d e r s one two =
    let off : is_awaiting one.next.phase ≡ false = ap (λ (m : Code). is_awaiting m.phase) one.follows.leaves ∙ after_not_awaiting exchange code in
    record {
      next = one.next;
      follows = one.follows;
      behind = first_ending one.behind s;
      interrupts = interrupts_join xs ys one.next d e one.behind s off one.interrupts two;
      tells = ap (λ x. first_ending x s) one.tells ∙ first_assoc (ending_by exchange code) one.behind s;
    }

takes_join : (exchange : SmtpExchange) (code count : ℕ) (all b : List ℕ) (c d e : Code) (r s : Option Ending) → count ≤ length all → TakesReply exchange code count all c r d → Hears b d s e
    → TakesReply exchange code count (all ++ b) c (first_ending r s) e
takes_join exchange code count all b c d e r s within one two =
    let it = replies_join exchange code (take count all) (drop count all) b c d e r s one two in
    let front = subst (λ t. RepliesAndMore exchange code t (has_octets (drop count all ++ b)) c (first_ending r s) e) (sym (take-append-le count all b within)) it in
    subst (λ t. RepliesAndMore exchange code (take count (all ++ b)) (has_octets t) c (first_ending r s) e) (sym (drop-append-le count all b within)) front

part_join : (exchange : SmtpExchange) (all b : List ℕ) (c d e : Code) (r s : Option Ending) → c.phase ≡ Awaiting exchange → Answers (take max_smtp_reply all) Part → AwaitsMore all c r d → Hears b d s e
    → HearsReplyTo exchange (all ++ b) c (first_ending r s) e
part_join exchange all b c d e r s is answers (inl (short, none, leaves)) two =
    let moved : Hears b (record c { heard = all }) s e = subst (λ m. Hears b m s e) leaves two in
    let it : HearsReplyTo exchange (all ++ b) (record c { heard = all }) s e = subst (λ p. HearsIn p b (record c { heard = all }) s e) is moved in
    subst (λ x. HearsReplyTo exchange (all ++ b) c (first_ending x s) e) (sym none)
    (record { answer = it.answer; answers = it.answers; hears = answer_same it.answer exchange (all ++ b) all c e s it.hears })
part_join exchange all b c d e r s is answers (inr (long, breaks)) two = record {
  answer = Part;
  answers = subst (λ o. Answers o Part) (sym (take-append-le max_smtp_reply all b long)) answers;
  hears = inr (let size = length-append all b in omega (arith, size, long), breaks_join ends.LongReply b c d e r s breaks two);
}

answer_join : (answer : SmtpAnswer) (exchange : SmtpExchange) (all b : List ℕ) (c d e : Code) (r s : Option Ending) → c.phase ≡ Awaiting exchange → Answers (take max_smtp_reply all) answer
    → HearsAnswer answer exchange all c r d → Hears b d s e → HearsReplyTo exchange (all ++ b) c (first_ending r s) e
answer_join Part exchange all b c d e r s is answers one two = part_join exchange all b c d e r s is answers one two
answer_join (Whole code count) exchange all b c d e r s is answers one two = record {
  answer = Whole code count;
  answers = stays_in max_smtp_reply all b (Whole code count) (λ same. cc) answers;
  hears = takes_join exchange code count all b c d e r s (whole_reply max_smtp_reply all code count answers).0 one two;
}
answer_join NoReply exchange all b c d e r s is answers one two = record {
  answer = NoReply;
  answers = stays_in max_smtp_reply all b NoReply (λ same. cc) answers;
  hears = breaks_join ends.NoReply b c d e r s one two;
}
answer_join LongLine exchange all b c d e r s is answers one two = record {
  answer = LongLine;
  answers = stays_in max_smtp_reply all b LongLine (λ same. cc) answers;
  hears = breaks_join ends.LongLine b c d e r s one two;
}

joins_in : (p : SmtpPhase) (a b : List ℕ) (c d e : Code) (r s : Option Ending) → c.phase ≡ p → HearsIn p a c r d → Hears b d s e → HearsIn p (a ++ b) c (first_ending r s) e
joins_in (Awaiting exchange) a b c d e r s is one two =
    subst (λ o. HearsReplyTo exchange o c (first_ending r s) e) (append_assoc c.heard a b) (answer_join one.answer exchange (c.heard ++ a) b c d e r s is one.answers one.hears two)
joins_in (Writing exchange count) a b c d e r s is one two = interrupts_join a b c d e r s (ap is_awaiting is) one two
joins_in Ready a b c d e r s is one two = interrupts_join a b c d e r s (ap is_awaiting is) one two
joins_in (Over end) a b c d e r s is one two = interrupts_join a b c d e r s (ap is_awaiting is) one two

pub joins : (a b : List ℕ) (c d e : Code) (r s : Option Ending) → Hears a c r d → Hears b d s e → Hears (a ++ b) c (first_ending r s) e
joins a b c d e r s one two = joins_in c.phase a b c d e r s refl one two

-- ---- one outcome

-- a line that comes first, and a front of what follows it
line_front : (octets : List ℕ) (line n : ℕ) → LineFinds (found.Line line) octets → take (line + 2 + n) octets ≡ take line octets ++ (line_end ++ take n (drop (line + 2) octets))
line_front octets line n finds =
    let x = take line octets in
    let rest = drop (line + 2) octets in
    let size : length x ≡ line = length-take-le line octets (omega (arith, finds.2)) in
    let count : line + 2 + n ≡ length x + suc (suc n) = omega (arith, size) in
    ap (λ k. take k octets) count ∙ (ap (take (length x + suc (suc n))) finds.0.written ∙ take-append-add x (line_end ++ rest) (suc (suc n)))

line_here : (octets : List ℕ) (line n : ℕ) → LineFinds (found.Line line) octets → IsHere (take (line + 2 + n) octets) (take line octets) (take n (drop (line + 2) octets))
line_here octets line n finds = record {
  first = record { whole = finds.0.whole; written = line_front octets line n finds };
  short = let size = length-take-le line octets (omega (arith, finds.2)) in omega (arith, finds.1, size);
}

-- the lines of a reply
record HasLines (octets : List ℕ) (at count : ℕ) : Type 0 where
  n : ℕ
  size : count ≡ at + n
  first : List ℕ
  others : List (List ℕ)
  are : AreReplyLines (first ∷ others) (take n octets)

lines_of : (lines : List ℕ) (before : Option ℕ) (at : ℕ) (octets : List ℕ) (code count : ℕ) → AnswerFollows lines before at octets (Whole code count) → HasLines octets at count
lines_of [] before at octets code count (line, first, size) = record {
  n = line + 2 + 0;
  size = omega (arith, size);
  first = take line octets;
  others = [];
  are = ([], line_here octets line 0 first.finds, refl);
}
lines_of (line ∷ lines) before at octets code count (same_code, first, follows) =
    let it = lines_of lines (Some same_code) (at + (line + 2)) (drop (line + 2) octets) code count follows in
    record {
      n = line + 2 + it.n;
      size = let known = it.size in omega (arith, known);
      first = take line octets;
      others = it.first ∷ it.others;
      are = (take it.n (drop (line + 2) octets), line_here octets line it.n first.finds, it.are);
    }

reply_lines : (all : List ℕ) (code count : ℕ) → Answers all (Whole code count) → (first : List ℕ) × (others : List (List ℕ)) × AreReplyLines (first ∷ others) (take count all)
reply_lines all code count is =
    let it = lines_of is.0 None 0 all code count is.1 in
    let same : it.n ≡ count = let known = it.size in omega (arith, known) in
    (it.first, it.others, subst (λ n. AreReplyLines (it.first ∷ it.others) (take n all)) same it.are)

one_offered : (exchange : SmtpExchange) (reply first : List ℕ) (others : List (List ℕ)) (before a b : Extensions) → AreReplyLines (first ∷ others) reply → OffersBy exchange reply before a → OffersBy exchange reply before b → a ≡ b
one_offered exchanges.Ehlo reply first others before a b are one two = one first others are ∙ sym (two first others are)
one_offered exchanges.Helo reply first others before a b are one two = one ∙ sym two
one_offered exchanges.Greeting reply first others before a b are one two = one ∙ sym two
one_offered (exchanges.Message stage) reply first others before a b are one two = one ∙ sym two
one_offered exchanges.Reset reply first others before a b are one two = one ∙ sym two
one_offered exchanges.Quit reply first others before a b are one two = one ∙ sym two

abbrev Same : Option Ending → Option Ending → Code → Code → Type 0
Same r s d e = (r ≡ s) × (d ≡ e)

one_interrupt : (b : Bool) (c d e : Code) (r s : Option Ending) → Interrupts b c r d → Interrupts b c s e → Same r s d e
one_interrupt b c d e r s one two = (one.tells ∙ sym two.tells, one.leaves ∙ sym two.leaves)

one_break : (end : SmtpEnd) (c d e : Code) (r s : Option Ending) → BreaksConnection end c r d → BreaksConnection end c s e → Same r s d e
one_break end c d e r s one two = (one.tells ∙ sym two.tells, one.leaves ∙ sym two.leaves)

one_more : (all : List ℕ) (c d e : Code) (r s : Option Ending) → AwaitsMore all c r d → AwaitsMore all c s e → Same r s d e
one_more all c d e r s (inl one) (inl two) = (one.1 ∙ sym two.1, one.2 ∙ sym two.2)
one_more all c d e r s (inl one) (inr two) = absurd (omega (arith, one.0, two.0))
one_more all c d e r s (inr one) (inl two) = absurd (omega (arith, one.0, two.0))
one_more all c d e r s (inr one) (inr two) = one_break ends.LongReply c d e r s one.1 two.1

one_reply : (exchange : SmtpExchange) (code : ℕ) (reply first : List ℕ) (others : List (List ℕ)) (b : Bool) (c d e : Code) (r s : Option Ending) → AreReplyLines (first ∷ others) reply
    → RepliesAndMore exchange code reply b c r d → RepliesAndMore exchange code reply b c s e → Same r s d e
one_reply exchange code reply first others b c d e r s are one two =
    let offered = one_offered exchange reply first others c.offered one.follows.offered two.follows.offered are one.follows.offers two.follows.offers in
    let next : two.next ≡ one.next = two.follows.leaves ∙ (ap (λ f. after_reply exchange code reply f c) (sym offered) ∙ sym one.follows.leaves) in
    let it = one_interrupt b one.next d e one.behind two.behind one.interrupts (subst (λ m. Interrupts b m two.behind e) next two.interrupts) in
    (one.tells ∙ (ap (first_ending (ending_by exchange code)) it.0 ∙ sym two.tells), it.1)

one_answer : (answer : SmtpAnswer) (exchange : SmtpExchange) (all : List ℕ) (c d e : Code) (r s : Option Ending) → Answers (take max_smtp_reply all) answer → HearsAnswer answer exchange all c r d
    → HearsAnswer answer exchange all c s e → Same r s d e
one_answer Part exchange all c d e r s is one two = one_more all c d e r s one two
one_answer (Whole code count) exchange all c d e r s is one two =
    let lines = reply_lines all code count (to_all max_smtp_reply all (Whole code count) (λ same. cc) is) in
    one_reply exchange code (take count all) lines.0 lines.1 (has_octets (drop count all)) c d e r s lines.2 one two
one_answer NoReply exchange all c d e r s is one two = one_break ends.NoReply c d e r s one two
one_answer LongLine exchange all c d e r s is one two = one_break ends.LongLine c d e r s one two

one_in : (p : SmtpPhase) (piece : List ℕ) (c d e : Code) (r s : Option Ending) → HearsIn p piece c r d → HearsIn p piece c s e → Same r s d e
one_in (Awaiting exchange) piece c d e r s one two =
    let all = c.heard ++ piece in
    let same : two.answer ≡ one.answer = smtp_answers_stand.one (take max_smtp_reply all) two.answer one.answer two.answers one.answers in
    one_answer one.answer exchange all c d e r s one.answers one.hears (subst (λ a. HearsAnswer a exchange all c s e) same two.hears)
one_in (Writing exchange count) piece c d e r s one two = one_interrupt (has_octets piece) c d e r s one two
one_in Ready piece c d e r s one two = one_interrupt (has_octets piece) c d e r s one two
one_in (Over end) piece c d e r s one two = one_interrupt (has_octets piece) c d e r s one two

pub cuts_stand : CutsStand
cuts_stand = record {
  joins = λ a b c d e first second one two. joins a b c d e first second one two;
  one = λ piece c d e first second one two. one_in c.phase piece c d e first second one two;
}
