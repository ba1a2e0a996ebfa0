-- Octets in other pieces do the same.
use Rattle.std.proofs.Common.{◌≡◌, ◌≢◌, ◌⊎◌, ℕ, ◌<◌, ◌≤◌, Bool, true, false, cond, List, [], ◌∷◌, ◌++◌, length, Option, Some, None, inl, inr, refl, sym, ap, ◌∙◌, subst, append_assoc, arith}
use Rattle.std.specs.Option.{option_to_list}
use Rattle.std.proofs.lemmas.Bool.Decides.{leb_tells}
use Rattle.std.proofs.lemmas.List.{length-append}
use Rattle.dovecot_userdb.specs.Lines.{HasNone, CutsAt, userdb_line_end, lines_written, AreUserdbLines, CutsLines}
use Rattle.dovecot_userdb.specs.Talks.{phase_ended, talk_ended, ForgetsRequest, TakesUserdbReply, FollowsSaid, GreetsBy, HearsShortLine, HearsUserdbLine, HearsEach, talk_with_part, max_userdb_line}
use Rattle.dovecot_userdb.specs.Connections.{is_phase_over, part_kept, HearsUserdbOpen, HearsUserdbIn, HearsUserdb}
use Rattle.dovecot_userdb.specs.Cuts.{UserdbCutsStand}
use Rattle.dovecot_userdb.specs.declared.answer.UserdbReply.{UserdbReply}
use Rattle.dovecot_userdb.specs.declared.end.UserdbEnd.{UserdbEnd}
use Rattle.dovecot_userdb.specs.declared.end.UserdbEnd.TheVariants as ends
use Rattle.dovecot_userdb.specs.declared.line.UserdbLine.{UserdbLine}
use Rattle.dovecot_userdb.specs.declared.line.UserdbLine.TheVariants.{Answer, Passed, Broken}
use Rattle.dovecot_userdb.specs.declared.talk.UserdbPhase.{UserdbPhase}
use Rattle.dovecot_userdb.specs.declared.talk.UserdbPhase.TheVariants.{Greeting, Open, Over}
use Rattle.dovecot_userdb.specs.declared.talk.UserdbTalk.{UserdbTalk}
use Rattle.dovecot_userdb.specs.declared.connection.UserdbConnection.{UserdbConnection as Code}
use Rattle.dovecot_userdb.proofs.LineLemmas.{none_append, not_with_mark, cut_same}
use Rattle.dovecot_userdb.proofs.AnswerLemmas.{one_says}
use Rattle.dovecot_userdb.proofs.TalkLemmas.{lines-append, are-append, each-append}

-- ---- at its end

phase_stays : (end : UserdbEnd) (p : UserdbPhase) → is_phase_over p ≡ true → phase_ended end p ≡ p
phase_stays end (Over e) is = refl
phase_stays end Greeting is = absurd (cc is)
phase_stays end Open is = absurd (cc is)

pub talk_stays : (end : UserdbEnd) (t : UserdbTalk) → is_phase_over t.phase ≡ true → talk_ended end t ≡ t
talk_stays end t is = ap (λ (p : UserdbPhase). record t { phase = p }) (phase_stays end t.phase is)

pub ended_over : (end : UserdbEnd) (p : UserdbPhase) → is_phase_over (phase_ended end p) ≡ true
ended_over end (Over e) = refl
ended_over end Greeting = refl
ended_over end Open = refl

short_over : (p : UserdbPhase) (line : List ℕ) (t : UserdbTalk) → is_phase_over p ≡ true → HearsShortLine p line t None t
short_over (Over e) line t is = (refl, refl)
short_over Greeting line t is = absurd (cc is)
short_over Open line t is = absurd (cc is)

line_over : (line : List ℕ) (t : UserdbTalk) → is_phase_over t.phase ≡ true → HearsUserdbLine line t None t
line_over line t is =
    elim (leb_tells max_userdb_line (length line)) [
      | inl long ↦ inr (long.1, refl, sym (talk_stays ends.LongLine t is))
      | inr short ↦ inl (short.1, short_over t.phase line t is)
    ]

each_over : (lines : List (List ℕ)) (t : UserdbTalk) → is_phase_over t.phase ≡ true → HearsEach lines t [] t
each_over [] t is = (refl, refl)
each_over (line ∷ lines) t is = (None, (t, ([], (line_over line t is, each_over lines t is, refl))))

-- ---- the beginning of a line

pub with_long : (part : List ℕ) (t : UserdbTalk) → max_userdb_line ≤ length part → talk_with_part part t ≡ talk_ended ends.LongLine t
with_long part t long =
    elim (leb_tells max_userdb_line (length part)) [
      | inl it ↦ ap (λ (b : Bool). cond b (talk_ended ends.LongLine t) t) it.0
      | inr it ↦ absurd (omega (arith, it.1, long))
    ]

pub with_short : (part : List ℕ) (t : UserdbTalk) → length part < max_userdb_line → talk_with_part part t ≡ t
with_short part t short =
    elim (leb_tells max_userdb_line (length part)) [
      | inl it ↦ absurd (omega (arith, it.1, short))
      | inr it ↦ ap (λ (b : Bool). cond b (talk_ended ends.LongLine t) t) it.0
    ]

pub long_or_short : (part : List ℕ) → (max_userdb_line ≤ length part) ⊎ (length part < max_userdb_line)
long_or_short part = elim (leb_tells max_userdb_line (length part)) [ inl it ↦ inl it.1 | inr it ↦ inr it.1 ]

with_over : (part : List ℕ) (t : UserdbTalk) → is_phase_over t.phase ≡ true → talk_with_part part t ≡ t
with_over part t is =
    elim (long_or_short part) [ inl long ↦ with_long part t long ∙ talk_stays ends.LongLine t is | inr short ↦ with_short part t short ]

-- ---- more octets behind

-- any octets are lines
pub record Lined (octets : List ℕ) : Type 0 where
  pub lines : List (List ℕ)
  pub part : List ℕ
  pub cut : CutsLines octets lines part

nat_same : (a b : ℕ) → (a ≡ b) ⊎ (a ≢ b)
nat_same a b = grind arith

lined_more : (octet : ℕ) (octets : List ℕ) → (octet ≡ userdb_line_end) ⊎ (octet ≢ userdb_line_end) → Lined octets → Lined (octet ∷ octets)
lined_more octet octets (inl is) it = record {
  lines = [] ∷ it.lines;
  part = it.part;
  cut = record { each = (tt, it.cut.each); part = it.cut.part; written = let rest = it.cut.written in cc (is, rest) };
}
lined_more octet octets (inr other) it = lined_front octet octets other it.lines it.part it.cut where
  lined_front : (octet : ℕ) (octets : List ℕ) → octet ≢ userdb_line_end → (lines : List (List ℕ)) (part : List ℕ) → CutsLines octets lines part → Lined (octet ∷ octets)
  lined_front octet octets other [] part cut = record { lines = []; part = octet ∷ part; cut = record { each = tt; part = (other, cut.part); written = ap (λ (l : List ℕ). octet ∷ l) cut.written } }
  lined_front octet octets other (line ∷ lines) part cut = record {
    lines = (octet ∷ line) ∷ lines;
    part = part;
    cut = record { each = ((other, cut.each.0), cut.each.1); part = cut.part; written = ap (λ (l : List ℕ). octet ∷ l) cut.written };
  }

pub lined : (octets : List ℕ) → Lined octets
lined [] = record { lines = []; part = []; cut = record { each = tt; part = tt; written = refl } }
lined (octet ∷ octets) = lined_more octet octets (nat_same octet userdb_line_end) (lined octets)

-- what more octets make of a connection that a beginning of a line has ended, or that was at its end: nothing
pub record StaysOver (part b : List ℕ) (t : UserdbTalk) : Type 0 where
  pub lines : List (List ℕ)
  pub last : List ℕ
  pub cut : CutsLines (part ++ b) lines last
  pub after : UserdbTalk
  pub hears : HearsEach lines t [] after
  pub same : talk_with_part last after ≡ talk_with_part part t

-- behind a beginning of a line: the first line and the part are longer
abbrev behind_part : (part b : List ℕ) → HasNone userdb_line_end part → (lines : List (List ℕ)) (last : List ℕ) → CutsLines b lines last → Lined (part ++ b)
behind_part part b none [] last cut = record {
  lines = [];
  part = part ++ last;
  cut = record { each = tt; part = none_append userdb_line_end part last none cut.part; written = ap (λ (l : List ℕ). part ++ l) cut.written };
}
behind_part part b none (line ∷ lines) last cut = record {
  lines = (part ++ line) ∷ lines;
  part = last;
  cut = record {
    each = (none_append userdb_line_end part line none cut.each.0, cut.each.1);
    part = cut.part;
    written = ap (λ (l : List ℕ). part ++ l) cut.written ∙ simp append_assoc;
  };
}

over_stays : (part b : List ℕ) (t : UserdbTalk) → HasNone userdb_line_end part → is_phase_over t.phase ≡ true → StaysOver part b t
over_stays part b t none is =
    let it = lined b in
    let there = behind_part part b none it.lines it.part it.cut in
    record {
      lines = there.lines;
      last = there.part;
      cut = there.cut;
      after = t;
      hears = each_over there.lines t is;
      same = with_over there.part t is ∙ sym (with_over part t is);
    }

-- a beginning of a line that is too long
long_front : (part more : List ℕ) → max_userdb_line ≤ length part → max_userdb_line ≤ length (part ++ more)
long_front part more long = omega (arith, length-append part more, long)

long_stays_in : (part b : List ℕ) (t : UserdbTalk) → HasNone userdb_line_end part → max_userdb_line ≤ length part → (lines : List (List ℕ)) (last : List ℕ) → CutsLines b lines last → StaysOver part b t
long_stays_in part b t none long [] last cut =
    let there = behind_part part b none [] last cut in
    record {
      lines = [];
      last = part ++ last;
      cut = there.cut;
      after = t;
      hears = (refl, refl);
      same = with_long (part ++ last) t (long_front part last long) ∙ sym (with_long part t long);
    }
long_stays_in part b t none long (line ∷ lines) last cut =
    let there = behind_part part b none (line ∷ lines) last cut in
    let over : is_phase_over (talk_ended ends.LongLine t).phase ≡ true = ended_over ends.LongLine t.phase in
    record {
      lines = (part ++ line) ∷ lines;
      last = last;
      cut = there.cut;
      after = talk_ended ends.LongLine t;
      hears = (None, (talk_ended ends.LongLine t, ([], (inr (long_front part line long, refl, refl), each_over lines (talk_ended ends.LongLine t) over, refl))));
      same = with_over last (talk_ended ends.LongLine t) over ∙ sym (with_long part t long);
    }

stays_by : (part b : List ℕ) (t : UserdbTalk) → HasNone userdb_line_end part → is_phase_over (talk_with_part part t).phase ≡ true → (max_userdb_line ≤ length part) ⊎ (length part < max_userdb_line) → StaysOver part b t
stays_by part b t none is (inl long) = let it = lined b in long_stays_in part b t none long it.lines it.part it.cut
stays_by part b t none is (inr short) = over_stays part b t none (subst (λ (u : UserdbTalk). is_phase_over u.phase ≡ true) (with_short part t short) is)

pub stays_over : (part b : List ℕ) (t : UserdbTalk) → HasNone userdb_line_end part → is_phase_over (talk_with_part part t).phase ≡ true → StaysOver part b t
stays_over part b t none is = stays_by part b t none is (long_or_short part)

-- ---- two pieces

-- lines, and then others
lines_join : (octets : List ℕ) (lines others : List (List ℕ)) (part last more : List ℕ) → CutsLines octets lines part → CutsLines (part ++ more) others last → CutsLines (octets ++ more) (lines ++ others) last
lines_join octets lines others part last more one two = record {
  each = are-append lines others one.each two.each;
  part = two.part;
  written =
      ap (λ (l : List ℕ). l ++ more) one.written ∙ (append_assoc (lines_written lines) part more
      ∙ (ap (λ (l : List ℕ). lines_written lines ++ l) two.written ∙ (sym (append_assoc (lines_written lines) (lines_written others) last) ∙ ap (λ (l : List ℕ). l ++ last) (sym (lines-append lines others)))));
}

abbrev pub heard_as : UserdbTalk → List ℕ → Code → Code
heard_as talk part c = record c { talk = talk_with_part part talk; heard = part_kept (talk_with_part part talk).phase part }

kept_over : (p : UserdbPhase) (part : List ℕ) → is_phase_over p ≡ true → part_kept p part ≡ []
kept_over (Over e) part is = refl
kept_over Greeting part is = absurd (cc is)
kept_over Open part is = absurd (cc is)

pub kept_open : (p : UserdbPhase) (part : List ℕ) → is_phase_over p ≡ false → part_kept p part ≡ part
kept_open Greeting part is = refl
kept_open Open part is = refl
kept_open (Over e) part is = absurd (cc is)

-- the same talk at its end, whatever came of a line
as_over : (t u : UserdbTalk) (part last : List ℕ) (c : Code) → talk_with_part last u ≡ talk_with_part part t → is_phase_over (talk_with_part part t).phase ≡ true → heard_as t part c ≡ heard_as u last c
as_over t u part last c same is =
    let one : part_kept (talk_with_part part t).phase part ≡ [] = kept_over (talk_with_part part t).phase part is in
    let two : part_kept (talk_with_part last u).phase last ≡ [] = kept_over (talk_with_part last u).phase last (subst (λ (w : UserdbTalk). is_phase_over w.phase ≡ true) (sym same) is) in
    ap (λ (h : List ℕ). record c { talk = talk_with_part part t; heard = h }) (one ∙ sym two) ∙ ap (λ (w : UserdbTalk). record c { talk = w; heard = part_kept (talk_with_part last u).phase last }) (sym same)

-- octets came at its end
pub nothing_in : (p : UserdbPhase) (piece : List ℕ) (c e : Code) (told : List UserdbReply) → is_phase_over p ≡ true → HearsUserdbIn p piece c told e → (told ≡ []) × (e ≡ c)
nothing_in (Over end) piece c e told is it = it
nothing_in Greeting piece c e told is it = absurd (cc is)
nothing_in Open piece c e told is it = absurd (cc is)

-- octets came before
pub open_in : (p : UserdbPhase) (piece : List ℕ) (c e : Code) (told : List UserdbReply) → is_phase_over p ≡ false → HearsUserdbIn p piece c told e → HearsUserdbOpen piece c told e
open_in Greeting piece c e told is it = it
open_in Open piece c e told is it = it
open_in (Over end) piece c e told is it = absurd (cc is)

pub in_open : (p : UserdbPhase) (piece : List ℕ) (c e : Code) (told : List UserdbReply) → is_phase_over p ≡ false → HearsUserdbOpen piece c told e → HearsUserdbIn p piece c told e
in_open Greeting piece c e told is it = it
in_open Open piece c e told is it = it
in_open (Over end) piece c e told is it = absurd (cc is)

pub over_or_not : (p : UserdbPhase) → (is_phase_over p ≡ true) ⊎ (is_phase_over p ≡ false)
over_or_not (Over end) = inl refl
over_or_not Greeting = inr refl
over_or_not Open = inr refl

-- the first piece has ended it
join_over : (a b : List ℕ) (c d e : Code) (x y : List UserdbReply) (one : HearsUserdbOpen a c x d) → is_phase_over (talk_with_part one.part one.talk).phase ≡ true → (y ≡ []) × (e ≡ d) → HearsUserdbOpen (a ++ b) c (x ++ y) e
join_over a b c d e x y one is two =
    let it = stays_over one.part b one.talk one.hears.cut.part is in
    record {
      part = it.last;
      talk = it.after;
      hears = record {
        lines = one.hears.lines ++ it.lines;
        cut = subst (λ (l : List ℕ). CutsLines l (one.hears.lines ++ it.lines) it.last) (append_assoc c.heard a b) (lines_join (c.heard ++ a) one.hears.lines it.lines one.part it.last b one.hears.cut it.cut);
        hears = subst (λ (z : List UserdbReply). HearsEach (one.hears.lines ++ it.lines) c.talk (x ++ z) it.after) (sym two.0) (each-append one.hears.lines it.lines c.talk one.talk it.after x [] one.hears.hears it.hears);
      };
      leaves = two.1 ∙ (one.leaves ∙ as_over one.talk it.after one.part it.last c it.same is);
    }

-- it hasn't
join_open : (a b : List ℕ) (c d e : Code) (x y : List UserdbReply) (one : HearsUserdbOpen a c x d) → talk_with_part one.part one.talk ≡ one.talk → d.heard ≡ one.part → HearsUserdbOpen b d y e → HearsUserdbOpen (a ++ b) c (x ++ y) e
join_open a b c d e x y one same heard two =
    let talk : d.talk ≡ one.talk = ap (λ (m : Code). m.talk) one.leaves ∙ same in
    let cut : CutsLines (one.part ++ b) two.hears.lines two.part = subst (λ (h : List ℕ). CutsLines (h ++ b) two.hears.lines two.part) heard two.hears.cut in
    let hears : HearsEach two.hears.lines one.talk y two.talk = subst (λ (t : UserdbTalk). HearsEach two.hears.lines t y two.talk) talk two.hears.hears in
    record {
      part = two.part;
      talk = two.talk;
      hears = record {
        lines = one.hears.lines ++ two.hears.lines;
        cut = subst (λ (l : List ℕ). CutsLines l (one.hears.lines ++ two.hears.lines) two.part) (append_assoc c.heard a b) (lines_join (c.heard ++ a) one.hears.lines two.hears.lines one.part two.part b one.hears.cut cut);
        hears = each-append one.hears.lines two.hears.lines c.talk one.talk two.talk x y one.hears.hears hears;
      };
      leaves = two.leaves ∙ ap (λ (m : Code). heard_as two.talk two.part m) one.leaves;
    }

-- a beginning that leaves it open is short
pub with_open : (part : List ℕ) (t : UserdbTalk) → is_phase_over (talk_with_part part t).phase ≡ false → talk_with_part part t ≡ t
with_open part t is =
    elim (long_or_short part) [
      | inl long ↦ (let phase = ap (λ (u : UserdbTalk). is_phase_over u.phase) (with_long part t long) in let over = ended_over ends.LongLine t.phase in absurd (cc (phase, over, is)))
      | inr short ↦ with_short part t short
    ]

join_by : (a b : List ℕ) (c d e : Code) (x y : List UserdbReply) → HearsUserdbOpen a c x d → HearsUserdb b d y e → (is_phase_over d.talk.phase ≡ true) ⊎ (is_phase_over d.talk.phase ≡ false) → HearsUserdbOpen (a ++ b) c (x ++ y) e
join_by a b c d e x y one two (inl is) =
    join_over a b c d e x y one (subst (λ (m : Code). is_phase_over m.talk.phase ≡ true) one.leaves is) (nothing_in d.talk.phase b d e y is two)
join_by a b c d e x y one two (inr is) =
    let there : is_phase_over (talk_with_part one.part one.talk).phase ≡ false = subst (λ (m : Code). is_phase_over m.talk.phase ≡ false) one.leaves is in
    let heard : d.heard ≡ one.part = ap (λ (m : Code). m.heard) one.leaves ∙ kept_open (talk_with_part one.part one.talk).phase one.part there in
    join_open a b c d e x y one (with_open one.part one.talk there) heard (open_in d.talk.phase b d e y is two)

joins_by : (a b : List ℕ) (c d e : Code) (x y : List UserdbReply) → HearsUserdb a c x d → HearsUserdb b d y e → (is_phase_over c.talk.phase ≡ true) ⊎ (is_phase_over c.talk.phase ≡ false) → HearsUserdb (a ++ b) c (x ++ y) e
joins_by a b c d e x y one two (inl is) =
    let first = nothing_in c.talk.phase a c d x is one in
    let moved : HearsUserdb b c y e = subst (λ (m : Code). HearsUserdb b m y e) first.1 two in
    let second = nothing_in c.talk.phase b c e y is moved in
    let none : x ++ y ≡ [] = ap (λ (z : List UserdbReply). z ++ y) first.0 ∙ second.0 in
    over_hears c.talk.phase (a ++ b) c e (x ++ y) is none second.1 where
      over_hears : (p : UserdbPhase) (piece : List ℕ) (c e : Code) (told : List UserdbReply) → is_phase_over p ≡ true → told ≡ [] → e ≡ c → HearsUserdbIn p piece c told e
      over_hears (Over end) piece c e told is none same = (none, same)
      over_hears Greeting piece c e told is none same = absurd (cc is)
      over_hears Open piece c e told is none same = absurd (cc is)
joins_by a b c d e x y one two (inr is) = in_open c.talk.phase (a ++ b) c e (x ++ y) is (join_by a b c d e x y (open_in c.talk.phase a c d x is one) two (over_or_not d.talk.phase))

pub joins : (a b : List ℕ) (c d e : Code) (x y : List UserdbReply) → HearsUserdb a c x d → HearsUserdb b d y e → HearsUserdb (a ++ b) c (x ++ y) e
joins a b c d e x y one two = joins_by a b c d e x y one two (over_or_not c.talk.phase)

-- ---- one outcome

line_same : (a b : List ℕ) (r s : List ℕ) → HasNone userdb_line_end a → HasNone userdb_line_end b → a ++ (userdb_line_end ∷ r) ≡ b ++ (userdb_line_end ∷ s) → (a ≡ b) × (r ≡ s)
line_same a b r s one two is =
    let it = cut_same userdb_line_end (a ++ (userdb_line_end ∷ r)) a b (Some r) (Some s) (record { none = one; written = refl }) (record { none = two; written = is }) in
    (it.0, cc (it.1))

pub lines_same : (lines others : List (List ℕ)) (part last : List ℕ) → AreUserdbLines lines → AreUserdbLines others → HasNone userdb_line_end part → HasNone userdb_line_end last → lines_written lines ++ part ≡ lines_written others ++ last → (lines ≡ others) × (part ≡ last)
lines_same [] [] part last one two p l is = (refl, is)
lines_same [] (other ∷ others) part last one two p l is =
    absurd (not_with_mark userdb_line_end other (lines_written others ++ last) (subst (λ (t : List ℕ). HasNone userdb_line_end t) (is ∙ append_assoc other (userdb_line_end ∷ lines_written others) last) p))
lines_same (line ∷ lines) [] part last one two p l is =
    absurd (not_with_mark userdb_line_end line (lines_written lines ++ part) (subst (λ (t : List ℕ). HasNone userdb_line_end t) (sym is ∙ append_assoc line (userdb_line_end ∷ lines_written lines) part) l))
lines_same (line ∷ lines) (other ∷ others) part last one two p l is =
    let whole = sym (append_assoc line (userdb_line_end ∷ lines_written lines) part) ∙ (is ∙ append_assoc other (userdb_line_end ∷ lines_written others) last) in
    let first = line_same line other (lines_written lines ++ part) (lines_written others ++ last) one.0 two.0 whole in
    let rest = lines_same lines others part last one.1 two.1 p l first.1 in
    let head : line ≡ other = first.0 in
    let tail : lines ≡ others = rest.0 in
    (cc (head, tail), rest.1)

pub cuts_same : (octets : List ℕ) (lines others : List (List ℕ)) (part last : List ℕ) → CutsLines octets lines part → CutsLines octets others last → (lines ≡ others) × (part ≡ last)
cuts_same octets lines others part last one two = lines_same lines others part last one.each two.each one.part two.part (sym one.written ∙ two.written)

abbrev SameOutcome : Option UserdbReply → Option UserdbReply → UserdbTalk → UserdbTalk → Type 0
SameOutcome x y u v = (x ≡ y) × (u ≡ v)

forgets_same : (id : ℕ) (t u v : UserdbTalk) → ForgetsRequest id t true u → ForgetsRequest id t true v → u ≡ v
forgets_same id t u v (front, (back, (cut, leaves))) (front', (back', (cut', leaves'))) =
    let it = cut_same id t.waiting front front' (Some back) (Some back') cut cut' in
    let fronts : front ≡ front' = it.0 in
    let backs : back ≡ back' = cc (it.1) in
    let same : front ++ back ≡ front' ++ back' = cc (fronts, backs) in
    leaves ∙ (ap (λ (w : List ℕ). record t { waiting = w }) same ∙ sym leaves')

never_both : (id : ℕ) (waiting front back : List ℕ) → HasNone id waiting → CutsAt id waiting front (Some back) → ⊥
never_both id waiting front back none cut = not_with_mark id front back (subst (λ (w : List ℕ). HasNone id w) cut.written none)

takes_same : (reply : UserdbReply) (t u v : UserdbTalk) (x y : Option UserdbReply) → TakesUserdbReply reply t x u → TakesUserdbReply reply t y v → SameOutcome x y u v
takes_same reply t u v (Some x) (Some y) one two = (ap (λ (r : UserdbReply). Some r) (one.0 ∙ sym two.0), forgets_same reply.id t u v one.1 two.1)
takes_same reply t u v (Some x) None one two = absurd (never_both reply.id t.waiting one.1.0 one.1.1.0 two.0 one.1.1.1.0)
takes_same reply t u v None (Some y) one two = absurd (never_both reply.id t.waiting two.1.0 two.1.1.0 one.0 two.1.1.1.0)
takes_same reply t u v None None one two = (refl, one.1 ∙ sym two.1)

follows_same : (said : UserdbLine) (t u v : UserdbTalk) (x y : Option UserdbReply) → FollowsSaid said t x u → FollowsSaid said t y v → SameOutcome x y u v
follows_same (Answer reply) t u v x y one two = takes_same reply t u v x y one two
follows_same Passed t u v x y one two = (one.0 ∙ sym two.0, one.1 ∙ sym two.1)
follows_same Broken t u v x y one two = (one.0 ∙ sym two.0, one.1 ∙ sym two.1)

greets_same : (line : List ℕ) (t u v : UserdbTalk) → GreetsBy line t u → GreetsBy line t v → u ≡ v
greets_same line t u v (inl one) (inl two) = one.1 ∙ sym two.1
greets_same line t u v (inl one) (inr two) = absurd (two.0 one.0)
greets_same line t u v (inr one) (inl two) = absurd (one.0 two.0)
greets_same line t u v (inr one) (inr two) = one.1 ∙ sym two.1

short_same : (p : UserdbPhase) (line : List ℕ) (t u v : UserdbTalk) (x y : Option UserdbReply) → HearsShortLine p line t x u → HearsShortLine p line t y v → SameOutcome x y u v
short_same Greeting line t u v x y one two = (one.0 ∙ sym two.0, greets_same line t u v one.1 two.1)
short_same Open line t u v x y one two =
    follows_same one.said t u v x y one.follows (subst (λ (s : UserdbLine). FollowsSaid s t y v) (one_says line two.said one.said two.says one.says) two.follows)
short_same (Over end) line t u v x y one two = (one.0 ∙ sym two.0, one.1 ∙ sym two.1)

hears_same : (line : List ℕ) (t u v : UserdbTalk) (x y : Option UserdbReply) → HearsUserdbLine line t x u → HearsUserdbLine line t y v → SameOutcome x y u v
hears_same line t u v x y (inl one) (inl two) = short_same t.phase line t u v x y one.1 two.1
hears_same line t u v x y (inl one) (inr two) = absurd (omega (arith, one.0, two.0))
hears_same line t u v x y (inr one) (inl two) = absurd (omega (arith, one.0, two.0))
hears_same line t u v x y (inr one) (inr two) = (one.1 ∙ sym two.1, one.2 ∙ sym two.2)

each_same : (lines : List (List ℕ)) (t u v : UserdbTalk) (x y : List UserdbReply) → HearsEach lines t x u → HearsEach lines t y v → (x ≡ y) × (u ≡ v)
each_same [] t u v x y one two = (one.0 ∙ sym two.0, one.1 ∙ sym two.1)
each_same (line ∷ lines) t u v x y (first, (next, (more, (hears, rest, told)))) (first', (next', (more', (hears', rest', told')))) =
    let it = hears_same line t next next' first first' hears hears' in
    let there = each_same lines next u v more more' rest (subst (λ (n : UserdbTalk). HearsEach lines n more' v) (sym it.1) rest') in
    let firsts : option_to_list first ≡ option_to_list first' = ap (λ (o : Option UserdbReply). option_to_list o) it.0 in
    let mores : more ≡ more' = there.0 in
    let same : option_to_list first ++ more ≡ option_to_list first' ++ more' = cc (firsts, mores) in
    (told ∙ (same ∙ sym told'), there.1)

open_same : (piece : List ℕ) (c d e : Code) (x y : List UserdbReply) → HearsUserdbOpen piece c x d → HearsUserdbOpen piece c y e → (x ≡ y) × (d ≡ e)
open_same piece c d e x y one two =
    let cuts = cuts_same (c.heard ++ piece) two.hears.lines one.hears.lines two.part one.part two.hears.cut one.hears.cut in
    let it = each_same one.hears.lines c.talk one.talk two.talk x y one.hears.hears (subst (λ (l : List (List ℕ)). HearsEach l c.talk y two.talk) cuts.0 two.hears.hears) in
    let talks : heard_as one.talk one.part c ≡ heard_as two.talk one.part c = ap (λ (t : UserdbTalk). heard_as t one.part c) it.1 in
    let parts : heard_as two.talk one.part c ≡ heard_as two.talk two.part c = ap (λ (p : List ℕ). heard_as two.talk p c) (sym cuts.1) in
    (it.0, one.leaves ∙ (talks ∙ (parts ∙ sym two.leaves)))

one_in : (p : UserdbPhase) (piece : List ℕ) (c d e : Code) (x y : List UserdbReply) → HearsUserdbIn p piece c x d → HearsUserdbIn p piece c y e → (x ≡ y) × (d ≡ e)
one_in Greeting piece c d e x y one two = open_same piece c d e x y one two
one_in Open piece c d e x y one two = open_same piece c d e x y one two
one_in (Over end) piece c d e x y one two = (one.0 ∙ sym two.0, one.1 ∙ sym two.1)

pub userdb_cuts_stand : UserdbCutsStand
userdb_cuts_stand = record {
  joins = λ a b c d e first second one two. joins a b c d e first second one two;
  one = λ piece c d e first second one two. one_in c.talk.phase piece c d e first second one two;
}
