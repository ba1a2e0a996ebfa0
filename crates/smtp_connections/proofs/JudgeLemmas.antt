-- What is kept of the octets that came is all that is looked at.
use Rattle.std.proofs.Common.{◌≡◌, ℕ, zero, suc, ◌+◌, ◌<◌, ◌≤◌, Bool, true, false, List, [], ◌∷◌, ◌++◌, length, take, drop, Option, inl, inr, refl, sym, ap, ◌∙◌, subst, append_assoc, arith}
use Rattle.std.specs.Prelude.{◌||◌}
use Rattle.std.proofs.lemmas.List.{drop-append-le, take-append-le, take-append-drop, length-append}
use Rattle.smtp_dialogue.specs.declared.dialogue.Ending.{Ending}
use Rattle.smtp_connections.specs.Answers.{Answers}
use Rattle.smtp_connections.specs.Connections.{ended_in, has_octets, interrupted, BreaksConnection, RepliesAndMore, TakesReply, AwaitsMore, HearsAnswer, HearsReplyTo, WaitsOn, JudgesAnswer, Judges, max_smtp_reply}
use Rattle.smtp_connections.specs.declared.answer.SmtpAnswer.{SmtpAnswer}
use Rattle.smtp_connections.specs.declared.answer.SmtpAnswer.TheVariants.{Part, Whole, NoReply, LongLine}
use Rattle.smtp_connections.specs.declared.end.SmtpEnd.{SmtpEnd}
use Rattle.smtp_connections.specs.declared.end.SmtpEnd.TheVariants as ends
use Rattle.smtp_connections.specs.declared.exchange.SmtpExchange.{SmtpExchange}
use Rattle.smtp_connections.specs.declared.exchange.SmtpPhase.{SmtpPhase}
use Rattle.smtp_connections.specs.declared.exchange.SmtpPhase.TheVariants.{Writing, Awaiting, Ready, Over}
use Rattle.smtp_connections.specs.declared.connection.SmtpConnection.{SmtpConnection as Code}
use Rattle.smtp_connections.proofs.CutLemmas.{breaks_same, replies_same, whole_reply}

-- ---- fronts

take_take : (n room : ℕ) (xs : List ℕ) → n ≤ room → take n (take room xs) ≡ take n xs
take_take zero room xs fits = refl
take_take (suc n) zero xs fits = absurd (omega arith)
take_take (suc n) (suc room) [] fits = refl
take_take (suc n) (suc room) (x ∷ xs) fits = ap (λ l. x ∷ l) (take_take n room xs (omega arith))

-- with room for so many there are as many
front_same : (n room : ℕ) (kept piece : List ℕ) → n ≤ length kept + room → take n (kept ++ take room piece) ≡ take n (kept ++ piece)
front_same zero room kept piece fits = refl
front_same (suc n) room [] piece fits = take_take (suc n) room piece (omega arith)
front_same (suc n) room (x ∷ kept) piece fits = ap (λ l. x ∷ l) (front_same n room kept piece (omega arith))

whole_taken : (room : ℕ) (piece : List ℕ) → length (take room piece) < room → take room piece ≡ piece
whole_taken zero piece less = absurd (omega arith)
whole_taken (suc room) [] less = refl
whole_taken (suc room) (x ∷ piece) less = ap (λ l. x ∷ l) (whole_taken room piece (omega arith))

take_shorter : (room : ℕ) (piece : List ℕ) → length (take room piece) ≤ length piece
take_shorter zero piece = omega arith
take_shorter (suc room) [] = omega arith
take_shorter (suc room) (x ∷ piece) = let it = take_shorter room piece in omega arith

either_has : (xs ys : List ℕ) → has_octets (xs ++ ys) ≡ (has_octets xs || has_octets ys)
either_has [] ys = refl
either_has (x ∷ xs) ys = refl

-- ---- what is made of what is kept

-- what is kept of a piece, and what else is known of the rest
pub record KeepsFront (kept piece : List ℕ) (room : ℕ) (is_over : Bool) : Type 0 where
  pub fits : max_smtp_reply ≤ length kept + room
  pub over : is_over ≡ has_octets (drop room piece)

abbrev pub Fronted : Code → ℕ → List ℕ → Code
Fronted c room piece = record c { heard = c.heard ++ take room piece }

-- if not all that may be is kept, all that came is
all_kept : (kept piece : List ℕ) (room : ℕ) → max_smtp_reply ≤ length kept + room → length (kept ++ take room piece) < max_smtp_reply → take room piece ≡ piece
all_kept kept piece room fits less = whole_taken room piece (let size = length-append kept (take room piece) in omega (arith, size))

part_kept : (c e : Code) (piece : List ℕ) (room : ℕ) (is_over : Bool) (r : Option Ending) → KeepsFront c.heard piece room is_over → WaitsOn (Fronted c room piece) r e → AwaitsMore (c.heard ++ piece) c r e
part_kept c e piece room is_over r keeps (inl (less, none, leaves)) =
    let same = all_kept c.heard piece room keeps.fits less in
    inl (
      subst (λ t. length (c.heard ++ t) < max_smtp_reply) same less,
      none,
      leaves ∙ ap (λ t. record c { heard = c.heard ++ t }) same,
    )
part_kept c e piece room is_over r keeps (inr (long, breaks)) =
    let one = length-append c.heard (take room piece) in
    let two = length-append c.heard piece in
    let less = take_shorter room piece in
    inr (omega (arith, one, two, less, long), breaks_same ends.LongReply c e (c.heard ++ take room piece) r breaks)

reply_kept : (exchange : SmtpExchange) (code count : ℕ) (c e : Code) (piece : List ℕ) (room : ℕ) (is_over : Bool) (r : Option Ending) → KeepsFront c.heard piece room is_over
    → count ≤ length (c.heard ++ take room piece)
    → RepliesAndMore exchange code (take count (c.heard ++ take room piece)) (has_octets (drop count (c.heard ++ take room piece)) || is_over) (Fronted c room piece) r e
    → TakesReply exchange code count (c.heard ++ piece) c r e
reply_kept exchange code count c e piece room is_over r keeps within it =
    let front = c.heard ++ take room piece in
    let rest = drop room piece in
    let all : front ++ rest ≡ c.heard ++ piece = append_assoc c.heard (take room piece) rest ∙ ap (λ t. c.heard ++ t) (take-append-drop room piece) in
    let reply : take count front ≡ take count (c.heard ++ piece) = sym (take-append-le count front rest within) ∙ ap (take count) all in
    let more : (has_octets (drop count front) || is_over) ≡ has_octets (drop count (c.heard ++ piece)) =
    ap (λ b. has_octets (drop count front) || b) keeps.over
    ∙ (sym (either_has (drop count front) rest) ∙ ap has_octets (sym (drop-append-le count front rest within) ∙ ap (drop count) all)) in
    subst (λ b. RepliesAndMore exchange code (take count (c.heard ++ piece)) b c r e) more
    (subst (λ t. RepliesAndMore exchange code t (has_octets (drop count front) || is_over) c r e) reply
    (replies_same exchange code (take count front) front (has_octets (drop count front) || is_over) c e r it))

answer_kept : (answer : SmtpAnswer) (exchange : SmtpExchange) (c e : Code) (piece : List ℕ) (room : ℕ) (is_over : Bool) (r : Option Ending) → KeepsFront c.heard piece room is_over
    → Answers (take max_smtp_reply (c.heard ++ take room piece)) answer → JudgesAnswer answer exchange is_over (Fronted c room piece) r e → HearsAnswer answer exchange (c.heard ++ piece) c r e
answer_kept Part exchange c e piece room is_over r keeps is it = part_kept c e piece room is_over r keeps it
answer_kept (Whole code count) exchange c e piece room is_over r keeps is it =
    reply_kept exchange code count c e piece room is_over r keeps (whole_reply max_smtp_reply (c.heard ++ take room piece) code count is).0 it
answer_kept NoReply exchange c e piece room is_over r keeps is it = breaks_same ends.NoReply c e (c.heard ++ take room piece) r it
answer_kept LongLine exchange c e piece room is_over r keeps is it = breaks_same ends.LongLine c e (c.heard ++ take room piece) r it

pub hears_kept : (exchange : SmtpExchange) (c e : Code) (piece : List ℕ) (room : ℕ) (is_over : Bool) (r : Option Ending) → KeepsFront c.heard piece room is_over
    → Judges exchange is_over (Fronted c room piece) r e → HearsReplyTo exchange (c.heard ++ piece) c r e
hears_kept exchange c e piece room is_over r keeps it = record {
  answer = it.answer;
  answers = subst (λ o. Answers o it.answer) (front_same max_smtp_reply room c.heard piece keeps.fits) it.answers;
  hears = answer_kept it.answer exchange c e piece room is_over r keeps it.answers it.judges;
}

-- ---- no more is kept than was

pub ended_heard : (end : SmtpEnd) (p : SmtpPhase) (c : Code) → (ended_in end p c).heard ≡ c.heard
ended_heard end (Writing exchange count) c = refl
ended_heard end (Awaiting exchange) c = refl
ended_heard end Ready c = refl
ended_heard end (Over x) c = refl

pub interrupted_heard : (b : Bool) (c : Code) → (interrupted b c).heard ≡ c.heard
interrupted_heard false c = refl
interrupted_heard true c = ended_heard ends.OutOfTurn c.phase c

waits_held : (c e : Code) (r : Option Ending) → WaitsOn c r e → length e.heard ≤ length c.heard
waits_held c e r (inl it) = let same = ap (λ (m : Code). length m.heard) it.2 in omega (arith, same)
waits_held c e r (inr it) = let none = ap (λ (m : Code). length m.heard) it.1.leaves in omega (arith, none)

breaks_held : (end : SmtpEnd) (c e : Code) (r : Option Ending) → BreaksConnection end c r e → length e.heard ≤ length c.heard
breaks_held end c e r it = let none = ap (λ (m : Code). length m.heard) it.leaves in omega (arith, none)

replies_held : (exchange : SmtpExchange) (code count : ℕ) (b : Bool) (c e : Code) (r : Option Ending) → RepliesAndMore exchange code (take count c.heard) b c r e → length e.heard ≤ length c.heard
replies_held exchange code count b c e r it =
    let one : e.heard ≡ it.next.heard = ap (λ (m : Code). m.heard) it.interrupts.leaves ∙ interrupted_heard b it.next in
    let two : it.next.heard ≡ take count c.heard = ap (λ (m : Code). m.heard) it.follows.leaves in
    let size = ap length (one ∙ two) in
    let less = take_shorter count c.heard in
    omega (arith, size, less)

judged_held : (answer : SmtpAnswer) (exchange : SmtpExchange) (is_over : Bool) (c e : Code) (r : Option Ending) → JudgesAnswer answer exchange is_over c r e → length e.heard ≤ length c.heard
judged_held Part exchange is_over c e r it = waits_held c e r it
judged_held (Whole code count) exchange is_over c e r it = replies_held exchange code count (has_octets (drop count c.heard) || is_over) c e r it
judged_held NoReply exchange is_over c e r it = breaks_held ends.NoReply c e r it
judged_held LongLine exchange is_over c e r it = breaks_held ends.LongLine c e r it

pub judges_held : (exchange : SmtpExchange) (is_over : Bool) (c e : Code) (r : Option Ending) → Judges exchange is_over c r e → length e.heard ≤ length c.heard
judges_held exchange is_over c e r it = judged_held it.answer exchange is_over c e r it.judges

pub length_take : (room : ℕ) (piece : List ℕ) → length (take room piece) ≤ room
length_take zero piece = omega arith
length_take (suc room) [] = omega arith
length_take (suc room) (x ∷ piece) = let it = length_take room piece in omega arith

-- so what is kept has no more octets than a reply may have
pub keeps_bound : (exchange : SmtpExchange) (c e : Code) (piece : List ℕ) (room : ℕ) (is_over : Bool) (r : Option Ending) → room + length c.heard ≤ max_smtp_reply → Judges exchange is_over (Fronted c room piece) r e
    → length e.heard ≤ max_smtp_reply
keeps_bound exchange c e piece room is_over r fits it =
    let one = judges_held exchange is_over (Fronted c room piece) e r it in
    let two = length-append c.heard (take room piece) in
    let three = length_take room piece in
    omega (arith, one, two, three, fits)
