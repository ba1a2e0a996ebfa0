-- Where a line ends, by a search for CRLF.
use Rattle.std.proofs.Common.{◌≡◌, ℕ, zero, suc, ◌+◌, ◌<◌, ◌≤◌, List, [], ◌∷◌, ◌++◌, length, take, drop, get_or, inl, inr, refl, sym, ap, ◌∙◌, subst, append_assoc, length-append, arith}
use Rattle.std.proofs.Math.Seq.{take-append_seam}
use Rattle.std.proofs.lemmas.Bool.{cases_order}
use Rattle.std.proofs.lemmas.List.{get_or-take, length-take, length-take-le, take-append-le, drop-append-le}
use Rattle.memchr.specs.Find.{OccursAt, Nowhere}
use Rattle.lmtp_dialogue.specs.Lines.{line_end, HasNoLineEnd, IsFirstLine, LineFinds, LinesStand}
use Rattle.lmtp_dialogue.specs.declared.command_line.Found.{Found}
use Rattle.lmtp_dialogue.specs.declared.command_line.Found.TheVariants.{Need, Line, TooLong}

-- ---- where a line end stands

shifted : (n j : ℕ) → suc n + j ≡ suc (n + j)
shifted n j = omega arith

-- it stands behind what is in front of it
stands_behind : (front back : List ℕ) → OccursAt (front ++ (line_end ++ back)) line_end (length front)
stands_behind [] back = record {
  fits = omega arith;
  reads = reads_end;
}
  where
    reads_end : (j : ℕ) → j < 2 → get_or (line_end ++ back) (0 + j) 0 ≡ get_or line_end j 0
    reads_end zero less = refl
    reads_end (suc zero) less = refl
    reads_end (suc (suc j)) less = absurd (omega arith)
stands_behind (octet ∷ front) back =
    let later = stands_behind front back in
    record {
      fits = omega (arith, later.fits);
      reads = λ j less. ap (λ n. get_or (octet ∷ (front ++ (line_end ++ back))) n 0) (shifted (length front) j) ∙ later.reads j less;
    }

occurs_in : (text front back : List ℕ) → text ≡ front ++ (line_end ++ back) → OccursAt text line_end (length front)
occurs_in text front back same = subst (λ t. OccursAt t line_end (length front)) (sym same) (stands_behind front back)

-- and what is in front of it and behind it
splits_at : (text : List ℕ) (k : ℕ) → OccursAt text line_end k → text ≡ take k text ++ (line_end ++ drop (k + 2) text)
splits_at [] k occurs = absurd (omega (arith, occurs.fits))
splits_at (octet ∷ []) zero occurs = absurd (omega (arith, occurs.fits))
splits_at (octet ∷ next ∷ text) zero occurs =
    ap (λ o. o ∷ next ∷ text) (occurs.reads 0 (omega arith)) ∙ ap (λ o. 13 ∷ o ∷ text) (occurs.reads 1 (omega arith))
splits_at (octet ∷ text) (suc k) occurs =
    ap (λ t. octet ∷ t) (splits_at text k (record {
      fits = omega (arith, occurs.fits);
      reads = λ j less. sym (ap (λ n. get_or (octet ∷ text) n 0) (shifted k j)) ∙ occurs.reads j less;
    })) ∙ ap (λ n. octet ∷ (take k text ++ (line_end ++ drop n (octet ∷ text)))) (sym (shifted k 2))

-- ---- texts without one

pub no_end_in : (text : List ℕ) (most : ℕ) → length text ≤ most → Nowhere (OccursAt text line_end) 0 most → HasNoLineEnd text
no_end_in text most short nowhere = λ front back same.
    let lengths = ap length same ∙ length-append front (line_end ++ back) in
    nowhere (length front) (omega arith) (omega (arith, lengths, short)) (occurs_in text front back same)

-- a line up to the first
pub line_at : (text : List ℕ) (k : ℕ) → Nowhere (OccursAt text line_end) 0 k → OccursAt text line_end k → IsFirstLine text (take k text) (drop (k + 2) text)
line_at text k before occurs =
    let rest = drop (k + 2) text in
    let written = splits_at text k occurs in
    record {
      whole = λ front back same.
          let all : text ≡ front ++ (line_end ++ (back ++ 10 ∷ rest)) =
          written ∙ (sym (append_assoc (take k text) (13 ∷ []) (10 ∷ rest))
          ∙ (ap (λ t. t ++ 10 ∷ rest) same ∙ append_assoc front (line_end ++ back) (10 ∷ rest))) in
          let lengths = sym (length-append (take k text) (13 ∷ [])) ∙ (ap length same ∙ length-append front (line_end ++ back)) in
          let count = length-take-le k text (omega (arith, occurs.fits)) in
          before (length front) (omega arith) (omega (arith, lengths, count)) (occurs_in text front (back ++ 10 ∷ rest) all);
      written = written;
    }

-- ---- a search in the front of a text

occurs_more : (text : List ℕ) (most k : ℕ) → OccursAt (take most text) line_end k → OccursAt text line_end k
occurs_more text most k occurs =
    let short = length-take most text in
    record {
      fits = omega (arith, occurs.fits, short);
      reads = λ j less. sym (get_or-take most text (k + j) 0 (omega (arith, occurs.fits, short))) ∙ occurs.reads j less;
    }

occurs_less : (text : List ℕ) (most k : ℕ) → k + 2 ≤ length (take most text) → OccursAt text line_end k → OccursAt (take most text) line_end k
occurs_less text most k fits occurs =
    let short = length-take most text in
    record {
      fits = fits;
      reads = λ j less. get_or-take most text (k + j) 0 (omega (arith, fits, short)) ∙ occurs.reads j less;
    }

pub line_in : (text : List ℕ) (most k : ℕ) → Nowhere (OccursAt (take most text) line_end) 0 k → OccursAt (take most text) line_end k
    → IsFirstLine text (take k text) (drop (k + 2) text)
line_in text most k before occurs =
    line_at text k (λ j low less is. before j low less (occurs_less text most j (omega (arith, occurs.fits)) is)) (occurs_more text most k occurs)

pub line_fits : (text : List ℕ) (most k : ℕ) → OccursAt (take most text) line_end k → (k + 2 ≤ most) × (k + 2 ≤ length text)
line_fits text most k occurs =
    let short = length-take most text in
    (omega (arith, occurs.fits, short), omega (arith, occurs.fits, short))

-- ---- laws

first_occurs : (stream : List ℕ) (a : ℕ) → a + 2 ≤ length stream → IsFirstLine stream (take a stream) (drop (a + 2) stream) → OccursAt stream line_end a
first_occurs stream a fits is =
    subst (OccursAt stream line_end) (length-take-le a stream (omega (arith, fits))) (occurs_in stream (take a stream) (drop (a + 2) stream) is.written)

-- no line end stands before the first line's
none_before : (stream : List ℕ) (a b : ℕ) → a + 2 ≤ length stream → b + 2 ≤ length stream
    → IsFirstLine stream (take a stream) (drop (a + 2) stream) → IsFirstLine stream (take b stream) (drop (b + 2) stream) → a < b → ⊥
none_before stream a b fits_a fits_b first second less =
    let front = take b stream ++ 13 ∷ [] in
    let rest = 10 ∷ drop (b + 2) stream in
    let written : stream ≡ front ++ rest = second.written ∙ sym (append_assoc (take b stream) (13 ∷ []) rest) in
    let count : length front ≡ b + 1 = length-append (take b stream) (13 ∷ []) ∙ ap (λ n. n + 1) (length-take-le b stream (omega (arith, fits_b))) in
    let cut : take (length front) stream ≡ front = ap (take (length front)) written ∙ take-append_seam front rest in
    let there = occurs_less stream (length front) a (omega (arith, less, count, ap length cut)) (first_occurs stream a fits_a first) in
    let split = splits_at (take (length front) stream) a there in
    second.whole (take a (take (length front) stream)) (drop (a + 2) (take (length front) stream)) (sym cut ∙ split)

pub too_long : (stream : List ℕ) (a : ℕ) → LineFinds (Line a) stream → LineFinds TooLong stream → ⊥
too_long stream a first second =
    let count = length-take-le 2048 stream second.1 in
    let there = occurs_less stream 2048 a (omega (arith, first.1, count)) (first_occurs stream a first.2 first.0) in
    second.0 (take a (take 2048 stream)) (drop (a + 2) (take 2048 stream)) (splits_at (take 2048 stream) a there)

pub one_found : (a b : Found) (stream : List ℕ) → LineFinds a stream → LineFinds b stream → a ≡ b
one_found Need Need stream first second = refl
one_found Need (Line b) stream first second = absurd (first.0 (take b stream) (drop (b + 2) stream) second.0.written)
one_found Need TooLong stream first second = absurd (omega (arith, first.1, second.1))
one_found (Line a) Need stream first second = absurd (second.0 (take a stream) (drop (a + 2) stream) first.0.written)
one_found (Line a) (Line b) stream first second = elim (cases_order a b) [
  | inl same ↦ ap Line same
  | inr (inl less) ↦ absurd (none_before stream a b first.2 second.2 first.0 second.0 less)
  | inr (inr more) ↦ absurd (none_before stream b a second.2 first.2 second.0 first.0 more)
]
one_found (Line a) TooLong stream first second = absurd (too_long stream a first second)
one_found TooLong Need stream first second = absurd (omega (arith, first.1, second.1))
one_found TooLong (Line b) stream first second = absurd (too_long stream b second first)
one_found TooLong TooLong stream first second = refl

found_stays : (found : Found) (stream more : List ℕ) → (found ≡ Need → ⊥) → LineFinds found stream → LineFinds found (stream ++ more)
found_stays Need stream more some finds = absurd (some refl)
found_stays (Line count) stream more some finds =
    let front = take-append-le count stream more (omega (arith, finds.2)) in
    let back = drop-append-le (count + 2) stream more finds.2 in (
      subst (λ line. IsFirstLine (stream ++ more) line (drop (count + 2) (stream ++ more))) (sym front)
          (subst (IsFirstLine (stream ++ more) (take count stream)) (sym back) (record {
            whole = finds.0.whole;
            written = ap (λ t. t ++ more) finds.0.written ∙ append_assoc (take count stream) (line_end ++ drop (count + 2) stream) more;
          })),
      finds.1,
      omega (arith, finds.2, length-append stream more),
    )
found_stays TooLong stream more some finds =
    (subst HasNoLineEnd (sym (take-append-le 2048 stream more finds.1)) finds.0, omega (arith, finds.1, length-append stream more))

pub lines_stand : LinesStand
lines_stand = record { one = one_found; stays = found_stays }
