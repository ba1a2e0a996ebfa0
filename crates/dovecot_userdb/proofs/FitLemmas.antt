-- Which requests an answer is to, and which line said it.
use Rattle.std.proofs.Common.{◌≡◌, ℕ, List, [], ◌∷◌, ◌++◌, map, true, Option, Some, None, inl, inr, refl, sym, ap, ◌∙◌, subst, append_assoc}
use Rattle.std.specs.List.{All}
use Rattle.std.specs.List.Sorted.{IsPermutation}
use Rattle.std.specs.Option.{option_to_list}
use Rattle.std.proofs.lemmas.List.{map-append}
use Rattle.std.proofs.lemmas.List.Elements.{All-nil, All-cons, All-append}
use Rattle.std.proofs.lemmas.List.Sorted.{IsPermutation-refl, IsPermutation-trans, IsPermutation-append_right, IsPermutation-middle}
use Rattle.dovecot_userdb.specs.Answers.{LineSays, SaysAnswer}
use Rattle.dovecot_userdb.specs.Lines.{HasNone, userdb_line_end, lines_written, AreUserdbLines}
use Rattle.dovecot_userdb.specs.Talks.{ForgetsRequest, TakesUserdbReply, FollowsSaid, GreetsBy, HearsShortLine, HearsUserdbLine, HearsEach, talk_with_part, talk_ended}
use Rattle.dovecot_userdb.specs.Connections.{HearsUserdbOpen, HearsUserdbIn, HearsUserdb}
use Rattle.dovecot_userdb.specs.Cuts.{reply_id, IsSaidIn, UserdbAnswersFit}
use Rattle.dovecot_userdb.specs.declared.answer.UserdbReply.{UserdbReply}
use Rattle.dovecot_userdb.specs.declared.end.UserdbEnd.TheVariants as ends
use Rattle.dovecot_userdb.specs.declared.line.UserdbLine.{UserdbLine}
use Rattle.dovecot_userdb.specs.declared.line.UserdbLine.TheVariants.{Answer, Passed, Broken}
use Rattle.dovecot_userdb.specs.declared.talk.UserdbPhase.{UserdbPhase}
use Rattle.dovecot_userdb.specs.declared.talk.UserdbPhase.TheVariants.{Greeting, Open, Over}
use Rattle.dovecot_userdb.specs.declared.talk.UserdbTalk.{UserdbTalk}
use Rattle.dovecot_userdb.specs.declared.connection.UserdbConnection.{UserdbConnection as Code}
use Rattle.dovecot_userdb.proofs.CutLemmas.{long_or_short, with_long, with_short}
use Rattle.dovecot_userdb.proofs.TalkLemmas.{lines-append, are-append}

-- ---- those that waited

abbrev Passes : List ℕ → List UserdbReply → List ℕ → Type 0
Passes waited told wait = IsPermutation waited (map reply_id told ++ wait)

stays : (t u : UserdbTalk) → u.waiting ≡ t.waiting → Passes t.waiting [] u.waiting
stays t u same = subst (λ (w : List ℕ). IsPermutation t.waiting w) (sym same) (IsPermutation-refl t.waiting)

none_stays : (t u : UserdbTalk) (told : Option UserdbReply) → told ≡ None → u.waiting ≡ t.waiting → Passes t.waiting (option_to_list told) u.waiting
none_stays t u told none same = subst (λ (o : Option UserdbReply). Passes t.waiting (option_to_list o) u.waiting) (sym none) (stays t u same)

waiting_of : (t u : UserdbTalk) → u ≡ t → u.waiting ≡ t.waiting
waiting_of t u same = ap (λ (x : UserdbTalk). x.waiting) same

forgets_one : (id : ℕ) (t u : UserdbTalk) → ForgetsRequest id t true u → IsPermutation t.waiting (id ∷ u.waiting)
forgets_one id t u (front, (back, (cut, leaves))) =
    let before : t.waiting ≡ front ++ id ∷ back = cut.written in
    let after : u.waiting ≡ front ++ back = waiting_of (record t { waiting = front ++ back }) u leaves in
    subst (λ (w : List ℕ). IsPermutation t.waiting (id ∷ w)) (sym after) (subst (λ (w : List ℕ). IsPermutation w (id ∷ (front ++ back))) (sym before) (IsPermutation-middle front id back))

takes_one : (reply : UserdbReply) (t u : UserdbTalk) (told : Option UserdbReply) → TakesUserdbReply reply t told u → Passes t.waiting (option_to_list told) u.waiting
takes_one reply t u (Some told) it = subst (λ (r : UserdbReply). IsPermutation t.waiting (r.id ∷ u.waiting)) (sym it.0) (forgets_one reply.id t u it.1)
takes_one reply t u None it = stays t u (waiting_of (talk_ended ends.Unasked t) u it.1)

follows_one : (said : UserdbLine) (t u : UserdbTalk) (told : Option UserdbReply) → FollowsSaid said t told u → Passes t.waiting (option_to_list told) u.waiting
follows_one (Answer reply) t u told it = takes_one reply t u told it
follows_one Passed t u told it = none_stays t u told it.0 (waiting_of t u it.1)
follows_one Broken t u told it = none_stays t u told it.0 (waiting_of (talk_ended ends.NoAnswer t) u it.1)

greets_one : (line : List ℕ) (t u : UserdbTalk) → GreetsBy line t u → u.waiting ≡ t.waiting
greets_one line t u (inl it) = waiting_of (record t { phase = Open }) u it.1
greets_one line t u (inr it) = waiting_of (talk_ended ends.Version t) u it.1

short_one : (p : UserdbPhase) (line : List ℕ) (t u : UserdbTalk) (told : Option UserdbReply) → HearsShortLine p line t told u → Passes t.waiting (option_to_list told) u.waiting
short_one Greeting line t u told it = none_stays t u told it.0 (greets_one line t u it.1)
short_one Open line t u told it = follows_one it.said t u told it.follows
short_one (Over end) line t u told it = none_stays t u told it.0 (waiting_of t u it.1)

line_one : (line : List ℕ) (t u : UserdbTalk) (told : Option UserdbReply) → HearsUserdbLine line t told u → Passes t.waiting (option_to_list told) u.waiting
line_one line t u told (inl it) = short_one t.phase line t u told it.1
line_one line t u told (inr it) = none_stays t u told it.1 (waiting_of (talk_ended ends.LongLine t) u it.2)

pub each_one : (lines : List (List ℕ)) (t u : UserdbTalk) (told : List UserdbReply) → HearsEach lines t told u → Passes t.waiting told u.waiting
each_one [] t u told it = subst (λ (l : List UserdbReply). Passes t.waiting l u.waiting) (sym it.0) (stays t u (waiting_of t u it.1))
each_one (line ∷ lines) t u told (first, (next, (more, (hears, rest, is)))) =
    let one = line_one line t next first hears in
    let two = IsPermutation-append_right (map reply_id (option_to_list first)) next.waiting (map reply_id more ++ u.waiting) (each_one lines next u more rest) in
    let both = IsPermutation-trans t.waiting (map reply_id (option_to_list first) ++ next.waiting) (map reply_id (option_to_list first) ++ (map reply_id more ++ u.waiting)) one two in
    let whole : map reply_id (option_to_list first) ++ (map reply_id more ++ u.waiting) ≡ map reply_id told ++ u.waiting =
    sym (append_assoc (map reply_id (option_to_list first)) (map reply_id more) u.waiting) ∙ ap (λ (l : List ℕ). l ++ u.waiting) (sym (map-append reply_id (option_to_list first) more) ∙ ap (map reply_id) (sym is)) in
    subst (λ (l : List ℕ). IsPermutation t.waiting l) whole both

with_part_waits : (part : List ℕ) (t : UserdbTalk) → (talk_with_part part t).waiting ≡ t.waiting
with_part_waits part t =
    elim (long_or_short part) [ inl long ↦ ap (λ (u : UserdbTalk). u.waiting) (with_long part t long) | inr short ↦ ap (λ (u : UserdbTalk). u.waiting) (with_short part t short) ]

open_one : (piece : List ℕ) (c e : Code) (told : List UserdbReply) → HearsUserdbOpen piece c told e → Passes c.talk.waiting told e.talk.waiting
open_one piece c e told it =
    let same : e.talk.waiting ≡ it.talk.waiting = ap (λ (m : Code). m.talk.waiting) it.leaves ∙ with_part_waits it.part it.talk in
    subst (λ (w : List ℕ). Passes c.talk.waiting told w) (sym same) (each_one it.hears.lines c.talk it.talk told it.hears.hears)

over_one : (c e : Code) (told : List UserdbReply) → told ≡ [] → e ≡ c → Passes c.talk.waiting told e.talk.waiting
over_one c e told none same =
    subst (λ (l : List UserdbReply). Passes c.talk.waiting l e.talk.waiting) (sym none) (stays c.talk e.talk (ap (λ (m : Code). m.talk.waiting) same))

in_one : (p : UserdbPhase) (piece : List ℕ) (c e : Code) (told : List UserdbReply) → HearsUserdbIn p piece c told e → Passes c.talk.waiting told e.talk.waiting
in_one Greeting piece c e told it = open_one piece c e told it
in_one Open piece c e told it = open_one piece c e told it
in_one (Over end) piece c e told it = over_one c e told it.0 it.1

pub waited : (piece : List ℕ) (c e : Code) (told : List UserdbReply) → HearsUserdb piece c told e → Passes c.talk.waiting told e.talk.waiting
waited piece c e told it = in_one c.talk.phase piece c e told it

-- ---- which line said it

told_says : (said : UserdbLine) (line : List ℕ) (t u : UserdbTalk) (told : UserdbReply) → LineSays line said → FollowsSaid said t (Some told) u → SaysAnswer line told.id told.answer
told_says (Answer reply) line t u told says it = subst (λ (r : UserdbReply). SaysAnswer line r.id r.answer) (sym it.0) says
told_says Passed line t u told says it = let never : Some told ≡ None = it.0 in absurd (cc never)
told_says Broken line t u told says it = let never : Some told ≡ None = it.0 in absurd (cc never)

short_says : (p : UserdbPhase) (line : List ℕ) (t u : UserdbTalk) (told : UserdbReply) → HearsShortLine p line t (Some told) u → SaysAnswer line told.id told.answer
short_says Greeting line t u told it = let never : Some told ≡ None = it.0 in absurd (cc never)
short_says Open line t u told it = told_says it.said line t u told it.says it.follows
short_says (Over end) line t u told it = let never : Some told ≡ None = it.0 in absurd (cc never)

line_says : (line : List ℕ) (t u : UserdbTalk) (told : UserdbReply) → HearsUserdbLine line t (Some told) u → SaysAnswer line told.id told.answer
line_says line t u told (inl it) = short_says t.phase line t u told it.1
line_says line t u told (inr it) = let never : Some told ≡ None = it.1 in absurd (cc never)

said_here : (before : List (List ℕ)) (line after : List ℕ) (t u : UserdbTalk) (first : Option UserdbReply) → AreUserdbLines before → HasNone userdb_line_end line → HearsUserdbLine line t first u
    → All (IsSaidIn (lines_written before ++ (line ++ userdb_line_end ∷ after))) (option_to_list first)
said_here before line after t u None each whole it = All-nil (IsSaidIn (lines_written before ++ (line ++ userdb_line_end ∷ after)))
said_here before line after t u (Some told) each whole it =
    All-cons (IsSaidIn (lines_written before ++ (line ++ userdb_line_end ∷ after))) told [] (record {
      before = before;
      line = line;
      after = after;
      each = each;
      whole = whole;
      written = refl;
      says = line_says line t u told it;
    }) (All-nil (IsSaidIn (lines_written before ++ (line ++ userdb_line_end ∷ after))))

each_said : (before lines : List (List ℕ)) (part : List ℕ) (t u : UserdbTalk) (told : List UserdbReply) → AreUserdbLines before → AreUserdbLines lines → HearsEach lines t told u → All (IsSaidIn (lines_written before ++ (lines_written lines ++ part))) told
each_said before [] part t u told each rest it = subst (λ (l : List UserdbReply). All (IsSaidIn (lines_written before ++ part)) l) (sym it.0) (All-nil (IsSaidIn (lines_written before ++ part)))
each_said before (line ∷ lines) part t u told each rest (first, (next, (more, (hears, then, is)))) =
    let here = said_here before line (lines_written lines ++ part) t next first each rest.0 hears in
    let whole : line ++ (userdb_line_end ∷ (lines_written lines ++ part)) ≡ lines_written (line ∷ lines) ++ part = sym (append_assoc line (userdb_line_end ∷ lines_written lines) part) in
    let one = subst (λ (l : List ℕ). All (IsSaidIn (lines_written before ++ l)) (option_to_list first)) whole here in
    let later = each_said (before ++ line ∷ []) lines part next u more (are-append before (line ∷ []) each (rest.0, tt)) rest.1 then in
    let longer : lines_written (before ++ line ∷ []) ++ (lines_written lines ++ part) ≡ lines_written before ++ (lines_written (line ∷ lines) ++ part) =
    ap (λ (l : List ℕ). l ++ (lines_written lines ++ part)) (lines-append before (line ∷ [])) ∙ simp append_assoc in
    let two = subst (λ (l : List ℕ). All (IsSaidIn l) more) longer later in
    subst (λ (l : List UserdbReply). All (IsSaidIn (lines_written before ++ (lines_written (line ∷ lines) ++ part))) l) (sym is)
    (All-append (IsSaidIn (lines_written before ++ (lines_written (line ∷ lines) ++ part))) (option_to_list first) more one two)

open_said : (piece : List ℕ) (c e : Code) (told : List UserdbReply) → HearsUserdbOpen piece c told e → All (IsSaidIn (c.heard ++ piece)) told
open_said piece c e told it =
    subst (λ (l : List ℕ). All (IsSaidIn l) told) (sym it.hears.cut.written) (each_said [] it.hears.lines it.part c.talk it.talk told tt it.hears.cut.each it.hears.hears)

none_said : (octets : List ℕ) (told : List UserdbReply) → told ≡ [] → All (IsSaidIn octets) told
none_said octets told none = subst (λ (l : List UserdbReply). All (IsSaidIn octets) l) (sym none) (All-nil (IsSaidIn octets))

in_said : (p : UserdbPhase) (piece : List ℕ) (c e : Code) (told : List UserdbReply) → HearsUserdbIn p piece c told e → All (IsSaidIn (c.heard ++ piece)) told
in_said Greeting piece c e told it = open_said piece c e told it
in_said Open piece c e told it = open_said piece c e told it
in_said (Over end) piece c e told it = none_said (c.heard ++ piece) told it.0

pub said : (piece : List ℕ) (c e : Code) (told : List UserdbReply) → HearsUserdb piece c told e → All (IsSaidIn (c.heard ++ piece)) told
said piece c e told it = in_said c.talk.phase piece c e told it

pub userdb_answers_fit : UserdbAnswersFit
userdb_answers_fit = record {
  waited = waited;
  said = said;
}
