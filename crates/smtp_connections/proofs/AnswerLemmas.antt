-- What comes first in the octets of a server.
use Rattle.std.proofs.Common.{◌≡◌, ℕ, ◌+◌, ◌≤◌, Bool, true, false, List, [], ◌∷◌, ◌++◌, length, take, drop, Option, Some, None, refl, sym, ap, ◌∙◌, subst, arith}
use Rattle.std.proofs.lemmas.List.{drop-append-le, take-append-le}
use Rattle.lmtp_dialogue.specs.Lines.{LineFinds}
use Rattle.lmtp_dialogue.specs.declared.command_line.Found.{Found}
use Rattle.lmtp_dialogue.specs.declared.command_line.Found.TheVariants as found
use Rattle.lmtp_dialogue.proofs.LineLemmas.{one_found, lines_stand}
use Rattle.smtp_dialogue.specs.Replies.{IsReplyLine, BeginsReply, HearsReply}
use Rattle.smtp_dialogue.specs.declared.reply.Heard.TheVariants as heard
use Rattle.smtp_dialogue.proofs.ReplyLemmas.{one_line, begins, begins_more, dropped, hears_need, hears_reply, hears_bad, hears_long}
use Rattle.smtp_connections.specs.Answers.{IsLineOfReply, IsFirstOfReply, IsFirstOfNone, EndsAnswer, AnswerFollows, Answers, heard_by, SmtpAnswersStand}
use Rattle.smtp_connections.specs.declared.answer.SmtpAnswer.{SmtpAnswer}
use Rattle.smtp_connections.specs.declared.answer.SmtpAnswer.TheVariants.{Part, Whole, NoReply, LongLine}

-- ---- one line comes first

abbrev count_of : Found → ℕ
count_of (found.Line count) = count
count_of found.Need = 0
count_of found.TooLong = 0

same_count : (octets : List ℕ) (a b : ℕ) → LineFinds (found.Line a) octets → LineFinds (found.Line b) octets → a ≡ b
same_count octets a b one two = ap count_of (one_found (found.Line a) (found.Line b) octets one two)

not_need : (octets : List ℕ) (a : ℕ) → LineFinds (found.Line a) octets → LineFinds found.Need octets → ⊥
not_need octets a one two = let same : found.Line a ≡ found.Need = one_found (found.Line a) found.Need octets one two in cc

not_long : (octets : List ℕ) (a : ℕ) → LineFinds (found.Line a) octets → LineFinds found.TooLong octets → ⊥
not_long octets a one two = let same : found.Line a ≡ found.TooLong = one_found (found.Line a) found.TooLong octets one two in cc

need_not_long : (octets : List ℕ) → LineFinds found.Need octets → LineFinds found.TooLong octets → ⊥
need_not_long octets one two = let same : found.Need ≡ found.TooLong = one_found found.Need found.TooLong octets one two in cc

pub record SameFirst (a b code other : ℕ) (last end : Bool) : Type 0 where
  pub count : a ≡ b
  pub code_is : code ≡ other
  pub ends : last ≡ end

pub same_first : (before : Option ℕ) (octets : List ℕ) (a b code other : ℕ) (last end : Bool) → IsFirstOfReply before octets a code last → IsFirstOfReply before octets b other end
    → SameFirst a b code other last end
same_first before octets a b code other last end one two =
    let count = same_count octets a b one.finds two.finds in
    let read = subst (λ n. IsReplyLine (take n octets) code last one.line.text) count one.line.reads in
    let both = one_line (take b octets) code other last end one.line.text two.line.text read two.line.reads in
    record { count = count; code_is = both.code; ends = both.ends }

not_none : (before : Option ℕ) (octets : List ℕ) (a b code : ℕ) (last : Bool) → IsFirstOfReply before octets a code last → IsFirstOfNone before octets b → ⊥
not_none before octets a b code last one two =
    let count = same_count octets a b one.finds two.finds in
    two.none code last (subst (λ n. IsLineOfReply before (take n octets) code last) count one.line)

-- ---- one thing comes first

whole_by : (before : Option ℕ) (at : ℕ) (octets : List ℕ) (a m b n : ℕ) → EndsAnswer before at octets (Whole a m) → EndsAnswer before at octets (Whole b n) → Whole a m ≡ Whole b n
whole_by before at octets a m b n (line, first, size) (other, second, long) =
    let same = same_first before octets line other a b true true first second in
    let code : a ≡ b = same.code_is in
    let count : m ≡ n = size ∙ (ap (λ l. at + (l + 2)) same.count ∙ sym long) in
    ap (λ c. Whole c m) code ∙ ap (λ k. Whole b k) count

one_end : (before : Option ℕ) (at : ℕ) (octets : List ℕ) (x y : SmtpAnswer) → EndsAnswer before at octets x → EndsAnswer before at octets y → x ≡ y
one_end before at octets Part Part one two = refl
one_end before at octets Part (Whole b n) one (line, first, size) = absurd (not_need octets line first.finds one)
one_end before at octets Part NoReply one (line, first) = absurd (not_need octets line first.finds one)
one_end before at octets Part LongLine one two = absurd (need_not_long octets one two)
one_end before at octets (Whole a m) Part (line, first, size) two = absurd (not_need octets line first.finds two)
one_end before at octets (Whole a m) (Whole b n) one two = whole_by before at octets a m b n one two
one_end before at octets (Whole a m) NoReply (line, first, size) (other, second) = absurd (not_none before octets line other a true first second)
one_end before at octets (Whole a m) LongLine (line, first, size) two = absurd (not_long octets line first.finds two)
one_end before at octets NoReply Part (line, first) two = absurd (not_need octets line first.finds two)
one_end before at octets NoReply (Whole b n) (line, first) (other, second, size) = absurd (not_none before octets other line b true second first)
one_end before at octets NoReply NoReply one two = refl
one_end before at octets NoReply LongLine (line, first) two = absurd (not_long octets line first.finds two)
one_end before at octets LongLine Part one two = absurd (need_not_long octets two one)
one_end before at octets LongLine (Whole b n) one (line, first, size) = absurd (not_long octets line first.finds one)
one_end before at octets LongLine NoReply one (line, first) = absurd (not_long octets line first.finds one)
one_end before at octets LongLine LongLine one two = refl

-- a line that others follow isn't the end
not_end : (before : Option ℕ) (at : ℕ) (octets : List ℕ) (line code : ℕ) (x : SmtpAnswer) → IsFirstOfReply before octets line code false → EndsAnswer before at octets x → ⊥
not_end before at octets line code Part first two = not_need octets line first.finds two
not_end before at octets line code (Whole b n) first (other, second, size) =
    let same = same_first before octets line other code b false true first second in
    let never : false ≡ true = same.ends in
    cc
not_end before at octets line code NoReply first (other, second) = not_none before octets line other code false first second
not_end before at octets line code LongLine first two = not_long octets line first.finds two

one_by : (lines others : List ℕ) (before : Option ℕ) (at : ℕ) (octets : List ℕ) (x y : SmtpAnswer) → AnswerFollows lines before at octets x → AnswerFollows others before at octets y → x ≡ y
one_by [] [] before at octets x y one two = one_end before at octets x y one two
one_by [] (other ∷ others) before at octets x y one (code, first, follows) = absurd (not_end before at octets other code x first one)
one_by (line ∷ lines) [] before at octets x y (code, first, follows) two = absurd (not_end before at octets line code y first two)
one_by (line ∷ lines) (other ∷ others) before at octets x y (code, first, follows) (same_code, second, others_follow) =
    let same = same_first before octets line other code same_code false false first second in
    let moved = subst (λ n. AnswerFollows others (Some same_code) (at + (n + 2)) (drop (n + 2) octets) y) (sym same.count) others_follow in
    let agreed = subst (λ c. AnswerFollows others (Some c) (at + (line + 2)) (drop (line + 2) octets) y) (sym same.code_is) moved in
    one_by lines others (Some code) (at + (line + 2)) (drop (line + 2) octets) x y follows agreed

-- ---- it stays

stays_found : (octets more : List ℕ) (a : ℕ) → LineFinds (found.Line a) octets → LineFinds (found.Line a) (octets ++ more)
stays_found octets more a finds = lines_stand.stays (found.Line a) octets more (λ same. cc) finds

front_stays : (octets more : List ℕ) (a : ℕ) → LineFinds (found.Line a) octets → take a (octets ++ more) ≡ take a octets
front_stays octets more a finds = take-append-le a octets more (omega (arith, finds.2))

first_stays : (before : Option ℕ) (octets more : List ℕ) (a code : ℕ) (last : Bool) → IsFirstOfReply before octets a code last → IsFirstOfReply before (octets ++ more) a code last
first_stays before octets more a code last first = record {
  finds = stays_found octets more a first.finds;
  line = subst (λ l. IsLineOfReply before l code last) (sym (front_stays octets more a first.finds)) first.line;
}

none_stays : (before : Option ℕ) (octets more : List ℕ) (a : ℕ) → IsFirstOfNone before octets a → IsFirstOfNone before (octets ++ more) a
none_stays before octets more a first = record {
  finds = stays_found octets more a first.finds;
  none = λ code last line. first.none code last (subst (λ l. IsLineOfReply before l code last) (front_stays octets more a first.finds) line);
}

end_stays : (before : Option ℕ) (at : ℕ) (octets more : List ℕ) (x : SmtpAnswer) → (x ≡ Part → ⊥) → EndsAnswer before at octets x → EndsAnswer before at (octets ++ more) x
end_stays before at octets more Part whole ends = absurd (whole refl)
end_stays before at octets more (Whole code count) whole (line, first, size) = (line, first_stays before octets more line code true first, size)
end_stays before at octets more NoReply whole (line, first) = (line, none_stays before octets more line first)
end_stays before at octets more LongLine whole ends = lines_stand.stays found.TooLong octets more (λ same. cc) ends

stays_by : (lines : List ℕ) (before : Option ℕ) (at : ℕ) (octets more : List ℕ) (x : SmtpAnswer) → (x ≡ Part → ⊥) → AnswerFollows lines before at octets x → AnswerFollows lines before at (octets ++ more) x
stays_by [] before at octets more x whole ends = end_stays before at octets more x whole ends
stays_by (line ∷ lines) before at octets more x whole (code, first, follows) =
    let back : drop (line + 2) (octets ++ more) ≡ drop (line + 2) octets ++ more = drop-append-le (line + 2) octets more (omega (arith, first.finds.2)) in
    let rest = stays_by lines (Some code) (at + (line + 2)) (drop (line + 2) octets) more x whole follows in
    (code, first_stays before octets more line code false first, subst (λ o. AnswerFollows lines (Some code) (at + (line + 2)) o x) (sym back) rest)

-- ---- it is as `HearsReply` has it

hears_by : (lines : List ℕ) (all : List ℕ) (at : ℕ) (before : Option ℕ) (x : SmtpAnswer) → BeginsReply all at before → AnswerFollows lines before at (drop at all) x → HearsReply all (heard_by x)
hears_by [] all at before Part begun ends = hears_need all at before begun ends
hears_by [] all at before (Whole code count) begun (line, first, size) =
    subst (λ n. HearsReply all (heard.Reply code n)) (sym size) (hears_reply all at line code before first.line.text begun first.finds first.line.reads first.line.agrees)
hears_by [] all at before NoReply begun (line, first) =
    hears_bad all at line before begun first.finds (λ code last text reads agrees. first.none code last (record { text = text; reads = reads; agrees = agrees }))
hears_by [] all at before LongLine begun ends = hears_long all at before begun ends
hears_by (line ∷ lines) all at before x begun (code, first, follows) =
    hears_by lines all (at + (line + 2)) (Some code) x (begins_more all at line code before first.line.text begun first.finds first.line.reads first.line.agrees)
    (subst (λ o. AnswerFollows lines (Some code) (at + (line + 2)) o x) (dropped all at (line + 2)) follows)

pub smtp_answers_stand : SmtpAnswersStand
smtp_answers_stand = record {
  one = λ octets a b one two. one_by one.0 two.0 None 0 octets a b one.1 two.1;
  stays = λ octets more answer whole is. (is.0, stays_by is.0 None 0 octets more answer whole is.1);
  hears = λ octets answer is. hears_by is.0 octets 0 None answer (begins octets) is.1;
}

-- ---- line by line

-- lines of so many octets, and what comes behind them, are all of an answer
pub record BeginsAnswer (octets : List ℕ) (at : ℕ) (before : Option ℕ) : Type 0 where
  pub within : at ≤ length octets
  pub joins : (lines : List ℕ) (answer : SmtpAnswer) → AnswerFollows lines before at (drop at octets) answer → Answers octets answer

pub begins_answer : (octets : List ℕ) → BeginsAnswer octets 0 None
begins_answer octets = record { within = omega arith; joins = λ lines answer is. (lines, is) }

pub answer_more : (octets : List ℕ) (at line code : ℕ) (before : Option ℕ) → BeginsAnswer octets at before → IsFirstOfReply before (drop at octets) line code false
    → at + (line + 2) ≤ length octets → BeginsAnswer octets (at + (line + 2)) (Some code)
answer_more octets at line code before begun first fits = record {
  within = fits;
  joins = λ lines answer is.
      begun.joins (line ∷ lines) answer (code, first, subst (λ o. AnswerFollows lines (Some code) (at + (line + 2)) o answer) (sym (dropped octets at (line + 2))) is);
}
