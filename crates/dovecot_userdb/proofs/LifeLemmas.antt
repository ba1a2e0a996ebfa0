-- A connection's whole life.
use Rattle.std.proofs.Common.{◌≡◌, ◌⊎◌, ℕ, zero, suc, ◌+◌, ◌^◌, ◌<◌, ◌≤◌, true, false, List, [], ◌∷◌, ◌++◌, map, length, take, drop, inl, inr, refl, sym, ap, ◌∙◌, subst, append-nil, append_assoc, arith, length-append, length-drop}
use Rattle.std.specs.List.{All, flat_map}
use Rattle.std.specs.List.Sorted.{IsPermutation}
use Rattle.std.proofs.lemmas.List.{take-append-drop, map-append}
use Rattle.std.proofs.lemmas.List.Elements.{All-nil, All-append}
use Rattle.std.proofs.lemmas.List.Sorted.{IsPermutation-refl, IsPermutation-trans, IsPermutation-append_left, IsPermutation-append_right, length_permutation}
use Rattle.std.proofs.lemmas.Grind.{flat_map-append}
use Rattle.dovecot_userdb.specs.Lines.{userdb_line_end, lines_written, AreUserdbLines}
use Rattle.dovecot_userdb.specs.Requests.{IsAskable, userdb_hello, userdb_request}
use Rattle.dovecot_userdb.specs.Talks.{talk_with_part, max_userdb_line}
use Rattle.dovecot_userdb.specs.Connections.{IsNewUserdb, unwritten_in, userdb_unwritten, userdb_wrote, MayAskUserdb, AsksUserdb, HearsUserdb, userdb_ended, is_phase_over, part_kept}
use Rattle.dovecot_userdb.specs.Cuts.{reply_id, IsSaidIn}
use Rattle.dovecot_userdb.specs.Lives.{UserdbAsked, UserdbPassed, nothing_said, passed_asked, passed_sent, passed_told, UserdbLives, userdb_new, userdb_asks, userdb_writes, userdb_hears, userdb_ends, asked_id, numbered_from, written_asked, UserdbStands, UserdbLivesStand}
use Rattle.dovecot_userdb.specs.declared.answer.UserdbReply.{UserdbReply}
use Rattle.dovecot_userdb.specs.declared.end.UserdbEnd.{UserdbEnd}
use Rattle.dovecot_userdb.specs.declared.end.UserdbEnd.TheVariants as ends
use Rattle.dovecot_userdb.specs.declared.talk.UserdbPhase.{UserdbPhase}
use Rattle.dovecot_userdb.specs.declared.talk.UserdbPhase.TheVariants.{Greeting, Open, Over}
use Rattle.dovecot_userdb.specs.declared.talk.UserdbTalk.{UserdbTalk}
use Rattle.dovecot_userdb.specs.declared.connection.UserdbConnection.{UserdbConnection as Code}
use Rattle.dovecot_userdb.proofs.CutLemmas.{ended_over, kept_open, with_long, long_or_short, over_or_not, open_in, nothing_in}
use Rattle.dovecot_userdb.proofs.FitLemmas.{waited, said}
use Rattle.dovecot_userdb.proofs.RequestLemmas.{request_short}
use Rattle.dovecot_userdb.proofs.TalkLemmas.{lines-append, are-append}

-- whole lines, and what is kept of the next one, are all that came
record IsKept (c : Code) (came : List ℕ) : Type 0 where
  lines : List (List ℕ)
  each : AreUserdbLines lines
  written : came ≡ lines_written lines ++ c.heard

record Goes (c : Code) (p : UserdbPassed) : Type 0 where
  stands : UserdbStands c p
  kept : is_phase_over c.talk.phase ≡ false → IsKept c p.came

-- ---- it is new

new_goes : (c : Code) → IsNewUserdb c → Goes c nothing_said
new_goes c new = record {
  stands = record {
    numbers = tt;
    count = sym new.asked;
    answered = subst (λ (w : List ℕ). IsPermutation [] w) (sym new.waiting) (IsPermutation-refl []);
    said = All-nil (IsSaidIn []);
    written = new.unwritten ∙ sym (append-nil userdb_hello);
    heard = let size = ap length new.heard in omega (arith, size);
    waiting = let size = ap length new.waiting in omega (arith, size);
    unwritten = let size = ap length new.unwritten in omega (arith, size);
  };
  kept = λ going. record { lines = []; each = tt; written = sym new.heard };
}

-- ---- a user is asked for

numbered_more : (before : ℕ) (xs : List UserdbAsked) (x : UserdbAsked) → numbered_from before xs → x.id ≡ before + length xs + 1 → numbered_from before (xs ++ x ∷ [])
numbered_more before [] x all is = (omega (arith, is), tt)
numbered_more before (y ∷ xs) x all is = (all.0, numbered_more (before + 1) xs x all.1 (omega (arith, is)))

abbrev asks_as : ℕ → List ℕ → Code → Code
asks_as id name c = record c { talk = record c.talk { waiting = c.talk.waiting ++ id ∷ [] }; unwritten = c.unwritten ++ userdb_request id name; asked = id }

asked_stands : (name : List ℕ) (id : ℕ) (c : Code) (p : UserdbPassed) → UserdbStands c p → MayAskUserdb c → IsAskable name → id ≡ c.asked + 1 → UserdbStands (asks_as id name c) (passed_asked id name p)
asked_stands name id c p it may askable next =
    let asked : UserdbAsked = record { id = id; name = name } in
    let small : id < 2 ^ 32 = let most = may.numbers in omega (arith, next, most) in
    let one = IsPermutation-append_left (id ∷ []) (map asked_id p.asked) (map reply_id p.told ++ c.talk.waiting) it.answered in
    record {
      numbers = numbered_more 0 p.asked asked it.numbers (let size = it.count in omega (arith, size, next));
      count = let size = it.count in omega (arith, length-append p.asked (asked ∷ []), size, next);
      answered =
          subst (λ (l : List ℕ). IsPermutation l (map reply_id p.told ++ (c.talk.waiting ++ id ∷ []))) (sym (map-append asked_id p.asked (asked ∷ [])))
          (subst (λ (l : List ℕ). IsPermutation (map asked_id p.asked ++ id ∷ []) l) (append_assoc (map reply_id p.told) c.talk.waiting (id ∷ [])) one);
      said = it.said;
      written =
          sym (append_assoc p.sent c.unwritten (userdb_request id name)) ∙ (ap (λ (l : List ℕ). l ++ userdb_request id name) it.written
          ∙ (append_assoc userdb_hello (flat_map written_asked p.asked) (userdb_request id name)
          ∙ ap (λ (l : List ℕ). userdb_hello ++ l) (ap (λ (l : List ℕ). flat_map written_asked p.asked ++ l) (sym (append-nil (userdb_request id name))) ∙ sym (flat_map-append written_asked p.asked (asked ∷ [])))));
      heard = it.heard;
      waiting = let few = may.few in omega (arith, length-append c.talk.waiting (id ∷ []), few);
      unwritten = let room = may.written in omega (arith, length-append c.unwritten (userdb_request id name), request_short id name small askable, room);
    }

asks_goes : (name : List ℕ) (id : ℕ) (c e : Code) (p : UserdbPassed) → Goes c p → MayAskUserdb c → IsAskable name → AsksUserdb name c id e → Goes e (passed_asked id name p)
asks_goes name id c e p it may askable asks = subst (λ (m : Code). Goes m (passed_asked id name p)) (sym asks.leaves) (record {
  stands = asked_stands name id c p it.stands may askable asks.next;
  kept = λ going. let kept = it.kept going in record { lines = kept.lines; each = kept.each; written = kept.written };
})

-- ---- octets are written

whole_in : (phase : UserdbPhase) (count : ℕ) (octets : List ℕ) → count ≤ length (unwritten_in phase octets) → take count (unwritten_in phase octets) ++ drop count octets ≡ octets
whole_in Greeting count octets within = take-append-drop count octets
whole_in Open count octets within = take-append-drop count octets
whole_in (Over end) zero octets within = refl
whole_in (Over end) (suc count) octets within = absurd (omega (arith, within))

writes_goes : (count : ℕ) (c : Code) (p : UserdbPassed) → Goes c p → count ≤ length (userdb_unwritten c) → Goes (userdb_wrote count c) (passed_sent (take count (userdb_unwritten c)) p)
writes_goes count c p it within = record {
  stands = record {
    numbers = it.stands.numbers;
    count = it.stands.count;
    answered = it.stands.answered;
    said = it.stands.said;
    written =
        append_assoc p.sent (take count (userdb_unwritten c)) (drop count c.unwritten)
        ∙ (ap (λ (l : List ℕ). p.sent ++ l) (whole_in c.talk.phase count c.unwritten within) ∙ it.stands.written);
    heard = it.stands.heard;
    waiting = it.stands.waiting;
    unwritten = let most = it.stands.unwritten in omega (arith, length-drop count c.unwritten, most);
  };
  kept = λ going. let kept = it.kept going in record { lines = kept.lines; each = kept.each; written = kept.written };
}

-- ---- octets came

more_said : (octets more : List ℕ) (reply : UserdbReply) → IsSaidIn octets reply → IsSaidIn (octets ++ more) reply
more_said octets more reply it = record {
  before = it.before;
  line = it.line;
  after = it.after ++ more;
  each = it.each;
  whole = it.whole;
  written =
      ap (λ (l : List ℕ). l ++ more) it.written ∙ (append_assoc (lines_written it.before) (it.line ++ userdb_line_end ∷ it.after) more
      ∙ ap (λ (l : List ℕ). lines_written it.before ++ l) (append_assoc it.line (userdb_line_end ∷ it.after) more));
  says = it.says;
}

later_said : (lines : List (List ℕ)) (octets : List ℕ) (reply : UserdbReply) → AreUserdbLines lines → IsSaidIn octets reply → IsSaidIn (lines_written lines ++ octets) reply
later_said lines octets reply each it = record {
  before = lines ++ it.before;
  line = it.line;
  after = it.after;
  each = are-append lines it.before each it.each;
  whole = it.whole;
  written =
      ap (λ (l : List ℕ). lines_written lines ++ l) it.written ∙ (sym (append_assoc (lines_written lines) (lines_written it.before) (it.line ++ userdb_line_end ∷ it.after))
      ∙ ap (λ (l : List ℕ). l ++ (it.line ++ userdb_line_end ∷ it.after)) (sym (lines-append lines it.before)));
  says = it.says;
}

all_said : (f : List ℕ → List ℕ) (octets : List ℕ) (told : List UserdbReply) → ((reply : UserdbReply) → IsSaidIn octets reply → IsSaidIn (f octets) reply) → All (IsSaidIn octets) told → All (IsSaidIn (f octets)) told
all_said f octets told moves all = λ k d h. moves _ (all k d h)

came_same : (lines : List (List ℕ)) (came heard piece : List ℕ) → came ≡ lines_written lines ++ heard → came ++ piece ≡ lines_written lines ++ (heard ++ piece)
came_same lines came heard piece is = ap (λ (l : List ℕ). l ++ piece) is ∙ append_assoc (lines_written lines) heard piece

-- what is told now is said in all that came
now_said : (piece : List ℕ) (c e : Code) (told : List UserdbReply) (p : UserdbPassed) → Goes c p → HearsUserdb piece c told e → (is_phase_over c.talk.phase ≡ true) ⊎ (is_phase_over c.talk.phase ≡ false) → All (IsSaidIn (p.came ++ piece)) told
now_said piece c e told p it hears (inl over) =
    subst (λ (l : List UserdbReply). All (IsSaidIn (p.came ++ piece)) l) (sym (nothing_in c.talk.phase piece c e told over hears).0) (All-nil (IsSaidIn (p.came ++ piece)))
now_said piece c e told p it hears (inr going) =
    let kept = it.kept going in
    subst (λ (l : List ℕ). All (IsSaidIn l) told) (sym (came_same kept.lines p.came c.heard piece kept.written))
    (all_said (λ l. lines_written kept.lines ++ l) (c.heard ++ piece) told (λ reply here. later_said kept.lines (c.heard ++ piece) reply kept.each here) (said piece c e told hears))

-- what a piece leaves as it is
record Leaves (c e : Code) : Type 0 where
  asked : e.asked ≡ c.asked
  unwritten : e.unwritten ≡ c.unwritten
  heard : length e.heard < max_userdb_line

kept_short : (phase : UserdbPhase) (part : List ℕ) → (length part < max_userdb_line) ⊎ (is_phase_over phase ≡ true) → length (part_kept phase part) < max_userdb_line
kept_short Greeting part (inl short) = short
kept_short Greeting part (inr over) = absurd (cc over)
kept_short Open part (inl short) = short
kept_short Open part (inr over) = absurd (cc over)
kept_short (Over end) part is = omega arith

part_bound_by : (part : List ℕ) (t : UserdbTalk) → (max_userdb_line ≤ length part) ⊎ (length part < max_userdb_line) → length (part_kept (talk_with_part part t).phase part) < max_userdb_line
part_bound_by part t (inl long) =
    kept_short (talk_with_part part t).phase part (inr (subst (λ (u : UserdbTalk). is_phase_over u.phase ≡ true) (sym (with_long part t long)) (ended_over ends.LongLine t.phase)))
part_bound_by part t (inr short) = kept_short (talk_with_part part t).phase part (inl short)

part_bound : (part : List ℕ) (t : UserdbTalk) → length (part_kept (talk_with_part part t).phase part) < max_userdb_line
part_bound part t = part_bound_by part t (long_or_short part)

leaves_by : (piece : List ℕ) (c e : Code) (told : List UserdbReply) → length c.heard < max_userdb_line → HearsUserdb piece c told e → (is_phase_over c.talk.phase ≡ true) ⊎ (is_phase_over c.talk.phase ≡ false) → Leaves c e
leaves_by piece c e told short hears (inl over) =
    let same = (nothing_in c.talk.phase piece c e told over hears).1 in
    record {
      asked = ap (λ (m : Code). m.asked) same;
      unwritten = ap (λ (m : Code). m.unwritten) same;
      heard = subst (λ (m : Code). length m.heard < max_userdb_line) (sym same) short;
    }
leaves_by piece c e told short hears (inr going) =
    let it = open_in c.talk.phase piece c e told going hears in
    record {
      asked = ap (λ (m : Code). m.asked) it.leaves;
      unwritten = ap (λ (m : Code). m.unwritten) it.leaves;
      heard = subst (λ (m : Code). length m.heard < max_userdb_line) (sym it.leaves) (part_bound it.part it.talk);
    }

-- what is kept of a line, with the lines before it, is all that came
kept_by : (piece : List ℕ) (c e : Code) (told : List UserdbReply) (p : UserdbPassed) → Goes c p → HearsUserdb piece c told e → is_phase_over e.talk.phase ≡ false → (is_phase_over c.talk.phase ≡ true) ⊎ (is_phase_over c.talk.phase ≡ false)
    → IsKept e (p.came ++ piece)
kept_by piece c e told p it hears going (inl over) =
    let same = (nothing_in c.talk.phase piece c e told over hears).1 in
    let ended : is_phase_over e.talk.phase ≡ true = ap (λ (m : Code). is_phase_over m.talk.phase) same ∙ over in
    absurd (cc (ended, going))
kept_by piece c e told p it hears going (inr was) =
    let kept = it.kept was in
    let here = open_in c.talk.phase piece c e told was hears in
    let there : is_phase_over (talk_with_part here.part here.talk).phase ≡ false = subst (λ (m : Code). is_phase_over m.talk.phase ≡ false) here.leaves going in
    let heard : e.heard ≡ here.part = ap (λ (m : Code). m.heard) here.leaves ∙ kept_open (talk_with_part here.part here.talk).phase here.part there in
    record {
      lines = kept.lines ++ here.hears.lines;
      each = are-append kept.lines here.hears.lines kept.each here.hears.cut.each;
      written =
          came_same kept.lines p.came c.heard piece kept.written ∙ (ap (λ (l : List ℕ). lines_written kept.lines ++ l) here.hears.cut.written
          ∙ (sym (append_assoc (lines_written kept.lines) (lines_written here.hears.lines) here.part)
          ∙ (ap (λ (l : List ℕ). l ++ here.part) (sym (lines-append kept.lines here.hears.lines)) ∙ ap (λ (l : List ℕ). lines_written (kept.lines ++ here.hears.lines) ++ l) (sym heard))));
    }

heard_stands : (piece : List ℕ) (c e : Code) (told : List UserdbReply) (p : UserdbPassed) → Goes c p → HearsUserdb piece c told e → Leaves c e → UserdbStands e (passed_told piece told p)
heard_stands piece c e told p it hears leaves =
    let passes = waited piece c e told hears in
    let both = IsPermutation-trans (map asked_id p.asked) (map reply_id p.told ++ c.talk.waiting) (map reply_id p.told ++ (map reply_id told ++ e.talk.waiting)) it.stands.answered
    (IsPermutation-append_right (map reply_id p.told) c.talk.waiting (map reply_id told ++ e.talk.waiting) passes) in
    let whole : map reply_id p.told ++ (map reply_id told ++ e.talk.waiting) ≡ map reply_id (p.told ++ told) ++ e.talk.waiting =
    sym (append_assoc (map reply_id p.told) (map reply_id told) e.talk.waiting) ∙ ap (λ (l : List ℕ). l ++ e.talk.waiting) (sym (map-append reply_id p.told told)) in
    record {
      numbers = it.stands.numbers;
      count = it.stands.count ∙ sym leaves.asked;
      answered = subst (λ (l : List ℕ). IsPermutation (map asked_id p.asked) l) whole both;
      said = All-append (IsSaidIn (p.came ++ piece)) p.told told
          (all_said (λ l. l ++ piece) p.came p.told (λ reply here. more_said p.came piece reply here) it.stands.said) (now_said piece c e told p it hears (over_or_not c.talk.phase));
      written = ap (λ (l : List ℕ). p.sent ++ l) leaves.unwritten ∙ it.stands.written;
      heard = leaves.heard;
      waiting = let most = it.stands.waiting in omega (arith, length_permutation c.talk.waiting (map reply_id told ++ e.talk.waiting) passes, length-append (map reply_id told) e.talk.waiting, most);
      unwritten = let most = it.stands.unwritten in let size = ap length leaves.unwritten in omega (arith, size, most);
    }

hears_goes : (piece : List ℕ) (c e : Code) (told : List UserdbReply) (p : UserdbPassed) → Goes c p → HearsUserdb piece c told e → Goes e (passed_told piece told p)
hears_goes piece c e told p it hears = record {
  stands = heard_stands piece c e told p it hears (leaves_by piece c e told it.stands.heard hears (over_or_not c.talk.phase));
  kept = λ going. kept_by piece c e told p it hears going (over_or_not c.talk.phase);
}

-- ---- it ends

ends_goes : (end : UserdbEnd) (c : Code) (p : UserdbPassed) → Goes c p → Goes (userdb_ended end c) p
ends_goes end c p it = record {
  stands = record {
    numbers = it.stands.numbers;
    count = it.stands.count;
    answered = it.stands.answered;
    said = it.stands.said;
    written = it.stands.written;
    heard = omega arith;
    waiting = it.stands.waiting;
    unwritten = it.stands.unwritten;
  };
  kept = λ going. let over = ended_over end c.talk.phase in absurd (cc (over, going));
}

-- ---- its whole life

goes : {c : Code} {p : UserdbPassed} → UserdbLives c p → Goes c p
goes (userdb_new c new) = new_goes c new
goes (userdb_asks name id c e p lives may askable asks) = asks_goes name id c e p (goes lives) may askable asks
goes (userdb_writes count c p lives within) = writes_goes count c p (goes lives) within
goes (userdb_hears piece c e told p lives hears) = hears_goes piece c e told p (goes lives) hears
goes (userdb_ends end c p lives) = ends_goes end c p (goes lives)

pub userdb_lives_stand : UserdbLivesStand
userdb_lives_stand = record {
  stands = λ c p lives. (goes lives).stands;
}
