-- Lines of replies, and replies.
use Rattle.std.proofs.Common.{◌≡◌, ℕ, zero, suc, ◌+◌, Bool, true, false, List, [], ◌∷◌, ◌++◌, length, take, drop, Option, Some, None, inl, inr, refl, sym, ap, ◌∙◌, append-nil, subst, arith}
use Rattle.std.proofs.Math.Seq.{take-append_seam, drop-append-add}
use Rattle.std.proofs.lemmas.List.{drop-append-le, length-append, length-drop, length-take-le, take-append-le}
use Rattle.lmtp_dialogue.specs.Lines.{line_end, IsFirstLine, LineFinds}
use Rattle.lmtp_dialogue.specs.declared.command_line.Found.{Found}
use Rattle.lmtp_dialogue.specs.declared.command_line.Found.TheVariants as found
use Rattle.lmtp_dialogue.proofs.LineLemmas.{one_found, too_long, lines_stand}
use Rattle.smtp_dialogue.specs.Replies.{IsCode, IsMark, IsReplyLine, IsHere, ReplyFollows, IsSmtpReply, CodeAgrees, BeginsReply, HearsReply}
use Rattle.smtp_dialogue.specs.declared.reply.Heard.TheVariants.{Need, Reply, Bad}

-- the octets in front are the same
same_first : (a b : ℕ) (xs ys : List ℕ) → a ∷ xs ≡ b ∷ ys → a ≡ b
same_first a b xs ys same = grind (arith, same)

same_others : (a b : ℕ) (xs ys : List ℕ) → a ∷ xs ≡ b ∷ ys → xs ≡ ys
same_others a b xs ys same = grind (arith, same)

-- what begins with no code is no line of a reply
pub no_code : (first second third : ℕ) (rest line : List ℕ) → line ≡ first ∷ second ∷ third ∷ rest → ((code : ℕ) → IsCode first second third code → ⊥)
    → (code : ℕ) (is_last : Bool) (text : List ℕ) → IsReplyLine line code is_last text → ⊥
no_code first second third rest line same none code is_last text is =
    let whole : first ∷ second ∷ third ∷ rest ≡ is.first ∷ is.second ∷ is.third ∷ is.rest = sym same ∙ is.written in
    let behind = same_others first is.first (second ∷ third ∷ rest) (is.second ∷ is.third ∷ is.rest) whole in
    let last = same_others second is.second (third ∷ rest) (is.third ∷ is.rest) behind in
    none code
    (subst (λ a. IsCode a second third code) (sym (same_first first is.first (second ∷ third ∷ rest) (is.second ∷ is.third ∷ is.rest) whole))
    (subst (λ b. IsCode is.first b third code) (sym (same_first second is.second (third ∷ rest) (is.third ∷ is.rest) behind))
    (subst (λ c. IsCode is.first is.second c code) (sym (same_first third is.third rest is.rest last)) is.digits)))

-- ---- a line is read in one way

one_code : (first second third a b : ℕ) → IsCode first second third a → IsCode first second third b → a ≡ b
one_code first second third a b one two = omega (arith, one.means, two.means)

not_both : (rest text other : List ℕ) → IsMark rest true text → IsMark rest false other → ⊥
not_both rest text other (inl none) more = grind (arith, none.0, more)
not_both rest text other (inr last) more = grind (arith, last, more)

one_end : (rest : List ℕ) (a b : Bool) (text other : List ℕ) → IsMark rest a text → IsMark rest b other → a ≡ b
one_end rest true true text other one two = refl
one_end rest false false text other one two = refl
one_end rest true false text other one two = absurd (not_both rest text other one two)
one_end rest false true text other one two = absurd (not_both rest other text two one)

pub record OneLine (a b : ℕ) (last end : Bool) : Type 0 where
  pub code : a ≡ b
  pub ends : last ≡ end

pub one_line : (line : List ℕ) (a b : ℕ) (last end : Bool) (text other : List ℕ) → IsReplyLine line a last text → IsReplyLine line b end other → OneLine a b last end
one_line line a b last end text other one two =
    let whole : one.first ∷ one.second ∷ one.third ∷ one.rest ≡ two.first ∷ two.second ∷ two.third ∷ two.rest = sym one.written ∙ two.written in
    let behind = same_others one.first two.first (one.second ∷ one.third ∷ one.rest) (two.second ∷ two.third ∷ two.rest) whole in
    let third = same_others one.second two.second (one.third ∷ one.rest) (two.third ∷ two.rest) behind in
    let rest = same_others one.third two.third one.rest two.rest third in
    record {
      code =
          let x = same_first one.first two.first (one.second ∷ one.third ∷ one.rest) (two.second ∷ two.third ∷ two.rest) whole in
          let y = same_first one.second two.second (one.third ∷ one.rest) (two.third ∷ two.rest) behind in
          let z = same_first one.third two.third one.rest two.rest third in
          omega (arith, one.digits.means, two.digits.means, x, y, z);
      ends = one_end two.rest last end text other (subst (λ r. IsMark r last text) rest one.mark) two.mark;
    }

-- ---- the line that stands first

pub here_found : (octets line behind : List ℕ) → IsHere octets line behind → LineFinds (found.Line (length line)) octets
here_found octets line behind is =
    let front : take (length line) octets ≡ line = ap (take (length line)) is.first.written ∙ take-append_seam line (line_end ++ behind) in
    let back : drop (length line + 2) octets ≡ behind = ap (drop (length line + 2)) is.first.written ∙ drop-append-add line (line_end ++ behind) 2 in
    let size : length octets ≡ length line + length (line_end ++ behind) = ap length is.first.written ∙ length-append line (line_end ++ behind) in
    let ends : length (line_end ++ behind) ≡ length line_end + length behind = length-append line_end behind in
    let two : length line_end ≡ 2 = refl in (
      subst (λ a. IsFirstLine octets a (drop (length line + 2) octets)) (sym front) (subst (IsFirstLine octets line) (sym back) is.first),
      is.short,
      omega (arith, size, ends, two),
    )

abbrev pub count_of : Found → ℕ
count_of (found.Line count) = count
count_of found.Need = 0
count_of found.TooLong = 0

pub record SameLine (octets line behind : List ℕ) (count : ℕ) : Type 0 where
  pub front : line ≡ take count octets
  pub back : behind ≡ drop (count + 2) octets

pub same_line : (octets line behind : List ℕ) (count : ℕ) → IsHere octets line behind → LineFinds (found.Line count) octets → SameLine octets line behind count
same_line octets line behind count is finds =
    let size : length line ≡ count = ap count_of (one_found (found.Line (length line)) (found.Line count) octets (here_found octets line behind is) finds) in
    record {
      front = sym (take-append_seam line (line_end ++ behind)) ∙ (ap (take (length line)) (sym is.first.written) ∙ ap (λ n. take n octets) size);
      back = sym (drop-append-add line (line_end ++ behind) 2) ∙ (ap (drop (length line + 2)) (sym is.first.written) ∙ ap (λ n. drop (n + 2) octets) size);
    }

here : (octets : List ℕ) (count : ℕ) → LineFinds (found.Line count) octets → IsHere octets (take count octets) (drop (count + 2) octets)
here octets count finds = record { first = finds.0; short = let size = length-take-le count octets (omega (arith, finds.2)) in omega (arith, finds.1, size) }

stays : (octets more : List ℕ) (count : ℕ) → LineFinds (found.Line count) octets → LineFinds (found.Line count) (octets ++ more)
stays octets more count finds = lines_stand.stays (found.Line count) octets more (λ same. not_need count same) finds
  where
    is_line : Found → Bool
    is_line (found.Line count) = true
    is_line found.Need = false
    is_line found.TooLong = false

    not_need : (count : ℕ) → found.Line count ≡ found.Need → ⊥
    not_need count same = absurd (cc (sym (ap is_line same)))

-- no other line is a line of the reply
pub other_code : (other : Option ℕ) (line : List ℕ) (a : ℕ) (last : Bool) (text : List ℕ) → IsReplyLine line a last text → (CodeAgrees other a → ⊥)
    → (code : ℕ) (end : Bool) (more : List ℕ) → IsReplyLine line code end more → CodeAgrees other code → ⊥
other_code other line a last text is apart code end more two agrees = apart (subst (CodeAgrees other) (sym (one_line line a code last end text more is two).code) agrees)

-- ---- lines in front

pub begins : (octets : List ℕ) → BeginsReply octets 0 None
begins octets = record { within = omega arith; joins = λ code rest agrees is. is; goes_on = λ more code rest is. (tt, is) }

none_dropped : (n : ℕ) → drop {A = ℕ} n [] ≡ []
none_dropped zero = refl
none_dropped (suc n) = refl

pub dropped : (octets : List ℕ) (a n : ℕ) → drop n (drop a octets) ≡ drop (a + n) octets
dropped octets zero n = let same : n ≡ 0 + n = omega arith in ap (λ m. drop m octets) same
dropped [] (suc a) n = none_dropped n ∙ sym (none_dropped (suc a + n))
dropped (octet ∷ octets) (suc a) n = let same : suc (a + n) ≡ suc a + n = omega arith in dropped octets a n ∙ ap (λ m. drop m (octet ∷ octets)) same

-- the line that stands first in what a reply begins is this one
record First (octets more : List ℕ) (count a : ℕ) (last : Bool) (code : ℕ) (rest : List ℕ) : Type 0 where
  agrees : code ≡ a
  goes_on : last ≡ false → IsSmtpReply (drop (count + 2) octets ++ more) code rest

first_by : (octets more : List ℕ) (count a : ℕ) (last : Bool) (text : List ℕ) (code : ℕ) (rest : List ℕ) (lines : List (List ℕ))
    → LineFinds (found.Line count) octets → IsReplyLine (take count octets) a last text → ReplyFollows lines (octets ++ more) code rest → First octets more count a last code rest
first_by octets more count a last text code rest [] finds is (line, other, here_is, reads) =
    let size : length (take count octets) ≡ count = length-take-le count octets (omega (arith, finds.2)) in
    let same = same_line (octets ++ more) line rest count here_is (stays octets more count finds) in
    let front : line ≡ take count octets = same.front ∙ take-append-le count octets more (omega (arith, finds.2)) in
    let both = one_line (take count octets) code a true last other text (subst (λ l. IsReplyLine l code true other) front reads) is in
    record { agrees = both.code; goes_on = λ more_is. absurd (cc (both.ends ∙ more_is)) }
first_by octets more count a last text code rest (line ∷ lines) finds is (other, behind, here_is, reads, follows) =
    let same = same_line (octets ++ more) line behind count here_is (stays octets more count finds) in
    let front : line ≡ take count octets = same.front ∙ take-append-le count octets more (omega (arith, finds.2)) in
    let back : behind ≡ drop (count + 2) octets ++ more = same.back ∙ drop-append-le (count + 2) octets more (omega (arith, finds.2)) in
    let both = one_line (take count octets) code a false last other text (subst (λ l. IsReplyLine l code false other) front reads) is in
    record { agrees = both.code; goes_on = λ more_is. (lines, subst (λ b. ReplyFollows lines b code rest) back follows) }

first : (octets more : List ℕ) (count a : ℕ) (last : Bool) (text : List ℕ) (code : ℕ) (rest : List ℕ)
    → LineFinds (found.Line count) octets → IsReplyLine (take count octets) a last text → IsSmtpReply (octets ++ more) code rest → First octets more count a last code rest
first octets more count a last text code rest finds is reply = first_by octets more count a last text code rest reply.0 finds is reply.1

-- a line more, behind which another follows
pub begins_more : (octets : List ℕ) (at count a : ℕ) (other : Option ℕ) (text : List ℕ) → BeginsReply octets at other → LineFinds (found.Line count) (drop at octets)
    → IsReplyLine (take count (drop at octets)) a false text → CodeAgrees other a → BeginsReply octets (at + (count + 2)) (Some a)
begins_more octets at count a other text begun finds is agrees =
    let left = drop at octets in
    let back = dropped octets at (count + 2) in
    record {
      within = let size = length-drop at octets in omega (arith, finds.2, size, begun.within);
      joins = λ code rest same reply.
          let read = subst (λ c. IsReplyLine (take count left) c false text) (sym same) is in
          let behind = subst (λ b. ReplyFollows reply.0 b code rest) (sym back) reply.1 in
          begun.joins code rest (subst (CodeAgrees other) (sym same) agrees) (take count left ∷ reply.0, (text, drop (count + 2) left, here left count finds, read, behind));
      goes_on = λ more code rest reply.
          let it = first left more count a false text code rest finds is (begun.goes_on more code rest reply).1 in
          (it.agrees, subst (λ b. IsSmtpReply (b ++ more) code rest) back (it.goes_on refl));
    }

-- and one behind which none does
pub hears_reply : (octets : List ℕ) (at count a : ℕ) (other : Option ℕ) (text : List ℕ) → BeginsReply octets at other → LineFinds (found.Line count) (drop at octets)
    → IsReplyLine (take count (drop at octets)) a true text → CodeAgrees other a → HearsReply octets (Reply a (at + (count + 2)))
hears_reply octets at count a other text begun finds is agrees =
    let left = drop at octets in
    let size = length-drop at octets in (
      omega (arith, finds.2, size, begun.within),
      begun.joins a (drop (at + (count + 2)) octets) agrees
          ([], (take count left, text, subst (IsHere left (take count left)) (dropped octets at (count + 2)) (here left count finds), is)),
    )

-- ---- no line stands first, or none of a reply

first_here : (octets : List ℕ) (code : ℕ) (rest : List ℕ) (lines : List (List ℕ)) → ReplyFollows lines octets code rest → (line : List ℕ) × (behind : List ℕ) × IsHere octets line behind
first_here octets code rest [] (line, text, here_is, reads) = (line, rest, here_is)
first_here octets code rest (line ∷ lines) (text, behind, here_is, reads, follows) = (line, behind, here_is)

pub hears_need : (octets : List ℕ) (at : ℕ) (other : Option ℕ) → BeginsReply octets at other → LineFinds found.Need (drop at octets) → HearsReply octets Need
hears_need octets at other begun finds = λ code rest reply.
    let there = (begun.goes_on [] code rest (subst (λ o. IsSmtpReply o code rest) (sym (append-nil octets)) reply)).1 in
    let left = subst (λ o. IsSmtpReply o code rest) (append-nil (drop at octets)) there in
    let it = first_here (drop at octets) code rest left.0 left.1 in
    finds.0 it.0 it.1 it.2.first.written

pub hears_long : (octets : List ℕ) (at : ℕ) (other : Option ℕ) → BeginsReply octets at other → LineFinds found.TooLong (drop at octets) → HearsReply octets Bad
hears_long octets at other begun finds = λ more code rest reply.
    let there = (begun.goes_on more code rest reply).1 in
    let it = first_here (drop at octets ++ more) code rest there.0 there.1 in
    too_long (drop at octets ++ more) (length it.0) (here_found (drop at octets ++ more) it.0 it.1 it.2)
    (lines_stand.stays found.TooLong (drop at octets) more (λ same. not_need same) finds)
  where
    is_long : Found → Bool
    is_long (found.Line count) = false
    is_long found.Need = false
    is_long found.TooLong = true

    not_need : found.TooLong ≡ found.Need → ⊥
    not_need same = absurd (cc (sym (ap is_long same)))

first_reads : (octets more : List ℕ) (count code : ℕ) (rest : List ℕ) (lines : List (List ℕ)) → LineFinds (found.Line count) octets → ReplyFollows lines (octets ++ more) code rest
    → (last : Bool) × (text : List ℕ) × IsReplyLine (take count octets) code last text
first_reads octets more count code rest [] finds (line, text, here_is, reads) =
    let same = same_line (octets ++ more) line rest count here_is (stays octets more count finds) in
    (true, text, subst (λ l. IsReplyLine l code true text) (same.front ∙ take-append-le count octets more (omega (arith, finds.2))) reads)
first_reads octets more count code rest (line ∷ lines) finds (text, behind, here_is, reads, follows) =
    let same = same_line (octets ++ more) line behind count here_is (stays octets more count finds) in
    (false, text, subst (λ l. IsReplyLine l code false text) (same.front ∙ take-append-le count octets more (omega (arith, finds.2))) reads)

pub hears_bad : (octets : List ℕ) (at count : ℕ) (other : Option ℕ) → BeginsReply octets at other → LineFinds (found.Line count) (drop at octets)
    → ((code : ℕ) (last : Bool) (text : List ℕ) → IsReplyLine (take count (drop at octets)) code last text → CodeAgrees other code → ⊥) → HearsReply octets Bad
hears_bad octets at count other begun finds none = λ more code rest reply.
    let there = begun.goes_on more code rest reply in
    let it = first_reads (drop at octets) more count code rest there.1.0 finds there.1.1 in
    none code it.0 it.1 it.2 there.0
