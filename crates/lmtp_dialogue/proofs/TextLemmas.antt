-- A text by its lines, and octet by octet.
use Rattle.std.proofs.Common.{◌≡◌, ℕ, ◌==◌, Bool, true, false, if◌then◌else◌, List, [], ◌∷◌, ◌++◌, refl, sym, ap, ◌∙◌, append_assoc, append-nil, subst, arith}
use Rattle.std.proofs.lemmas.List.Elements.{All-cons, All-head, All-nil, All-tail}
use Rattle.std.specs.List.{All, flat_map}
use Rattle.lmtp_dialogue.specs.Lines.{line_end, HasNoLineEnd, IsCrlfLine}
use Rattle.lmtp_dialogue.specs.Texts.{line_with_crlf, undotted, IsSentLine, IsSentText, after, gained, text_state_after, text_after, TextEndsAt, TextsAgree}
use Rattle.lmtp_dialogue.specs.declared.message_text.TextState.{TextState}
use Rattle.lmtp_dialogue.specs.declared.message_text.TextState.TheVariants.{Start, Dot, DotReturn, Inside, Return, Ended}

-- ---- lines

-- what stands behind the first octet of a line is one
pub line_rest : (octet : ℕ) (line : List ℕ) → IsCrlfLine (octet ∷ line) → IsCrlfLine line
line_rest octet line is = λ front back same. is (octet ∷ front) back (ap (λ t. octet ∷ t) same)

-- behind a CR stands no LF
pub no_feed : (line : List ℕ) → IsCrlfLine (13 ∷ 10 ∷ line) → ⊥
no_feed line is = is [] (line ++ 13 ∷ []) refl

-- ---- from a place in a line to the next line's front

-- a run over a line and what follows leads to the next line's front, and the text has this more
record Leads (from : TextState) (line gains rest : List ℕ) : Type 0 where
  place : text_state_after from (line ++ (line_end ++ rest)) ≡ text_state_after Start rest
  text : text_after from (line ++ (line_end ++ rest)) ≡ gains ++ (line_end ++ text_after Start rest)
  ends : TextEndsAt Start rest → TextEndsAt from (line ++ (line_end ++ rest))

-- the text has not ended at a place
abbrev pub is_open : TextState → Bool
is_open Ended = false
is_open place = true

pub open_apart : (place : TextState) → is_open place ≡ true → place ≡ Ended → ⊥
open_apart place is same = absurd (cc (sym is ∙ ap is_open same))

-- a line's end leads to the next line's front
ends_line : (from : TextState) (rest : List ℕ) → is_open from ≡ true → after from 13 ≡ Return → TextEndsAt Start rest → TextEndsAt from (line_end ++ rest)
ends_line from rest is step next = (open_apart from is, subst (λ p. TextEndsAt p (10 ∷ rest)) (sym step) (open_apart Return refl, next))

-- in a line, behind a CR of it or not
abbrev place_in : Bool → TextState
place_in true = Return
place_in false = Inside

abbrev Goes : Bool → List ℕ → Type 0
Goes true line = IsCrlfLine (13 ∷ line)
Goes false line = IsCrlfLine line

goes_line : (returned : Bool) (line : List ℕ) → Goes returned line → IsCrlfLine line
goes_line true line goes = line_rest 13 line goes
goes_line false line goes = goes

-- the test of an octet, and what it says
is_the : (octet wanted : ℕ) → (octet == wanted) ≡ true → octet ≡ wanted
is_the octet wanted same = grind (arith)

-- behind a CR another octet than LF follows
other_than_feed : (octet : ℕ) (line : List ℕ) (same : Bool) → (octet == 10) ≡ same → IsCrlfLine (13 ∷ octet ∷ line) → (octet == 10) ≡ false
other_than_feed octet line true test is = absurd (no_feed line (subst (λ o. IsCrlfLine (13 ∷ o ∷ line)) (is_the octet 10 test) is))
other_than_feed octet line false test is = test

-- one octet of a line: where it leads to, and what the text gains
step_by : (octet : ℕ) (returned : Bool) → (octet == 13) ≡ returned → (if octet == 13 then Return else Inside) ≡ place_in returned
step_by octet true test = rw test refl
step_by octet false test = rw test refl

step_in : (returned : Bool) (octet : ℕ) (line : List ℕ) → Goes returned (octet ∷ line) → after (place_in returned) octet ≡ place_in (octet == 13)
step_in true octet line goes = rw (other_than_feed octet line (octet == 10) refl goes) (step_by octet (octet == 13) refl)
step_in false octet line goes = step_by octet (octet == 13) refl

gain_in : (returned : Bool) (octet : ℕ) → gained (place_in returned) octet ≡ octet ∷ []
gain_in true octet = refl
gain_in false octet = refl

goes_by : (octet : ℕ) (line : List ℕ) (returned : Bool) → (octet == 13) ≡ returned → IsCrlfLine (octet ∷ line) → Goes returned line
goes_by octet line true test is = subst (λ o. IsCrlfLine (o ∷ line)) (is_the octet 13 test) is
goes_by octet line false test is = line_rest octet line is

goes_on : (returned : Bool) (octet : ℕ) (line : List ℕ) → Goes returned (octet ∷ line) → Goes (octet == 13) line
goes_on returned octet line goes = goes_by octet line (octet == 13) refl (goes_line returned (octet ∷ line) goes)

-- one octet more in front
leads_on : (from to : TextState) (octet : ℕ) (gains line more rest : List ℕ)
    → is_open from ≡ true → after from octet ≡ to → gained from octet ≡ gains → Leads to line more rest → Leads from (octet ∷ line) (gains ++ more) rest
leads_on from to octet gains line more rest is step gain later =
    let all = line ++ (line_end ++ rest) in
    record {
      place = ap (λ p. text_state_after p all) step ∙ later.place;
      text =
          ap (λ g. g ++ text_after (after from octet) all) gain
          ∙ (ap (λ p. gains ++ text_after p all) step ∙ (ap (λ t. gains ++ t) later.text ∙ sym (append_assoc gains more (line_end ++ text_after Start rest))));
      ends = λ next. (open_apart from is, subst (λ p. TextEndsAt p all) (sym step) (later.ends next));
    }

open_in : (returned : Bool) → is_open (place_in returned) ≡ true
open_in true = refl
open_in false = refl

inside : (returned : Bool) (line rest : List ℕ) → Goes returned line → Leads (place_in returned) line line rest
inside true [] rest goes = record { place = refl; text = refl; ends = ends_line Return rest refl refl }
inside false [] rest goes = record { place = refl; text = refl; ends = ends_line Inside rest refl refl }
inside returned (octet ∷ line) rest goes =
    leads_on (place_in returned) (place_in (octet == 13)) octet (octet ∷ []) line line rest (open_in returned) (step_in returned octet line goes) (gain_in returned octet)
    (inside (octet == 13) line rest (goes_on returned octet line goes))

-- ---- from a line's front

-- behind a dot and a CR
dot_return : (line rest : List ℕ) → IsCrlfLine (13 ∷ line) → Leads DotReturn line (13 ∷ line) rest
dot_return [] rest is = record { place = refl; text = refl; ends = ends_line DotReturn rest refl refl }
dot_return (octet ∷ line) rest is =
    let other = other_than_feed octet line (octet == 10) refl is in
    leads_on DotReturn (place_in (octet == 13)) octet (13 ∷ octet ∷ []) line line rest refl
    (rw other (step_by octet (octet == 13) refl)) (rw other refl) (inside (octet == 13) line rest (goes_on true octet line is))

-- behind a dot: some octet follows in the line
dot_by : (octet : ℕ) (line rest : List ℕ) (returned : Bool) → (octet == 13) ≡ returned → IsCrlfLine (octet ∷ line) → Leads Dot (octet ∷ line) (octet ∷ line) rest
dot_by octet line rest true test is =
    let same = is_the octet 13 test in
    leads_on Dot DotReturn octet [] line (octet ∷ line) rest refl (rw test refl) (rw test refl)
    (subst (λ o. Leads DotReturn line (o ∷ line) rest) (sym same) (dot_return line rest (subst (λ o. IsCrlfLine (o ∷ line)) same is)))
dot_by octet line rest false test is =
    leads_on Dot Inside octet (octet ∷ []) line line rest refl (rw test refl) (rw test refl) (inside false line rest (line_rest octet line is))

behind_dot : (line rest : List ℕ) → IsCrlfLine line → (line ≡ [] → ⊥) → Leads Dot line line rest
behind_dot [] rest is some = absurd (some refl)
behind_dot (octet ∷ line) rest is some = dot_by octet line rest (octet == 13) refl is

-- a whole line
front_by : (octet : ℕ) (line rest : List ℕ) (dotted : Bool) → (octet == 46) ≡ dotted → IsSentLine (octet ∷ line)
    → Leads Start (octet ∷ line) (undotted (octet ∷ line)) rest
front_by octet line rest true test is =
    let same = is_the octet 46 test in
    rw test (leads_on Start Dot octet [] line line rest refl (rw test refl) (rw test refl)
    (behind_dot line rest (line_rest octet line is.whole) (λ none. is.other (ap (λ t. octet ∷ t) none ∙ ap (λ o. o ∷ []) same))))
front_by octet line rest false test is =
    rw test (leads_on Start (place_in (octet == 13)) octet (octet ∷ []) line line rest refl
    (rw test (step_by octet (octet == 13) refl)) (rw test refl)
    (inside (octet == 13) line rest (goes_by octet line (octet == 13) refl is.whole)))

front : (line rest : List ℕ) → IsSentLine line → Leads Start line (undotted line) rest
front [] rest is = record { place = refl; text = refl; ends = ends_line Start rest refl refl }
front (octet ∷ line) rest is = front_by octet line rest (octet == 46) refl is

-- ---- a text's lines lead to its end

record Passes (lines : List (List ℕ)) (rest : List ℕ) : Type 0 where
  text : text_after Start (flat_map line_with_crlf lines ++ rest) ≡ flat_map (λ line. line_with_crlf (undotted line)) lines ++ text_after Start rest
  ends : TextEndsAt Start rest → TextEndsAt Start (flat_map line_with_crlf lines ++ rest)

joined : (line more rest : List ℕ) → (line_with_crlf line ++ more) ++ rest ≡ line ++ (line_end ++ (more ++ rest))
joined line more rest = append_assoc (line_with_crlf line) more rest ∙ append_assoc line line_end (more ++ rest)

passes : (lines : List (List ℕ)) (rest : List ℕ) → All IsSentLine lines → Passes lines rest
passes [] rest each = record { text = refl; ends = λ next. next }
passes (line ∷ lines) rest each =
    let later = passes lines rest (All-tail IsSentLine line lines each) in
    let here = front line (flat_map line_with_crlf lines ++ rest) (All-head IsSentLine line lines each) in
    let same = joined line (flat_map line_with_crlf lines) rest in
    record {
      text =
          ap (text_after Start) same
          ∙ (here.text ∙ (ap (λ t. undotted line ++ (line_end ++ t)) later.text
          ∙ sym (joined (undotted line) (flat_map (λ l. line_with_crlf (undotted l)) lines) (text_after Start rest))));
      ends = λ next. subst (TextEndsAt Start) (sym same) (here.ends (later.ends next));
    }

last_text : text_after Start (line_with_crlf (46 ∷ [])) ≡ []
last_text = refl

last_ends : TextEndsAt Start (line_with_crlf (46 ∷ []))
last_ends = (open_apart Start refl, (open_apart Dot refl, (open_apart DotReturn refl, refl)))

pub text_ends : (sent text : List ℕ) → IsSentText sent text → TextEndsAt Start sent
text_ends sent text is = subst (TextEndsAt Start) (sym is.written) ((passes is.lines (line_with_crlf (46 ∷ [])) is.each).ends last_ends)

pub text_same : (sent text : List ℕ) → IsSentText sent text → text_after Start sent ≡ text
text_same sent text is =
    ap (text_after Start) is.written ∙ ((passes is.lines (line_with_crlf (46 ∷ [])) is.each).text ∙ (append-nil _ ∙ sym is.means))

-- ---- where a text ends, its lines are found

-- the first of some octets, and the others
abbrev pub first_of : List ℕ → ℕ
first_of [] = 0
first_of (octet ∷ rest) = octet

abbrev pub others_of : List ℕ → List ℕ
others_of [] = []
others_of (octet ∷ rest) = rest

pub same_first : (a b : ℕ) (xs ys : List ℕ) → a ∷ xs ≡ b ∷ ys → a ≡ b
same_first a b xs ys same = ap first_of same

pub same_others : (a b : ℕ) (xs ys : List ℕ) → a ∷ xs ≡ b ∷ ys → xs ≡ ys
same_others a b xs ys same = ap others_of same

pub not_none : (a : ℕ) (xs : List ℕ) → a ∷ xs ≡ [] → ⊥
not_none a xs same = grind (arith, same)

pub none_longer : (octet : ℕ) (front back : List ℕ) → [] ≡ front ++ (octet ∷ back) → ⊥
none_longer octet [] back same = not_none octet back (sym same)
none_longer octet (next ∷ front) back same = not_none next (front ++ (octet ∷ back)) (sym same)

-- two texts with one octet more each
same_last : (xs ys : List ℕ) (a b : ℕ) → xs ++ a ∷ [] ≡ ys ++ b ∷ [] → a ≡ b
same_last [] [] a b same = same_first a b [] [] same
same_last [] (y ∷ ys) a b same = absurd (none_longer b ys [] (same_others a y [] (ys ++ b ∷ []) same))
same_last (x ∷ xs) [] a b same = absurd (none_longer a xs [] (sym (same_others x b (xs ++ a ∷ []) [] same)))
same_last (x ∷ xs) (y ∷ ys) a b same = same_last xs ys a b (same_others x y (xs ++ a ∷ []) (ys ++ b ∷ []) same)

same_front : (xs ys : List ℕ) (a b : ℕ) → xs ++ a ∷ [] ≡ ys ++ b ∷ [] → xs ≡ ys
same_front [] [] a b same = refl
same_front [] (y ∷ ys) a b same = absurd (none_longer b ys [] (same_others a y [] (ys ++ b ∷ []) same))
same_front (x ∷ xs) [] a b same = absurd (none_longer a xs [] (sym (same_others x b (xs ++ a ∷ []) [] same)))
same_front (x ∷ xs) (y ∷ ys) a b same =
    ap (λ o. o ∷ xs) (same_first x y (xs ++ a ∷ []) (ys ++ b ∷ []) same)
    ∙ ap (λ t. y ∷ t) (same_front xs ys a b (same_others x y (xs ++ a ∷ []) (ys ++ b ∷ []) same))

not_nothing : (xs : List ℕ) (a : ℕ) → xs ++ a ∷ [] ≡ [] → ⊥
not_nothing xs a same = none_longer a xs [] (sym same)

-- where a text without CRLF has one with an octet more, that is its LF
record EndsThere (text front : List ℕ) (octet : ℕ) : Type 0 where
  feed : octet ≡ 10
  return : text ≡ front ++ 13 ∷ []

at_end : (text front back : List ℕ) (octet : ℕ) → text ++ octet ∷ [] ≡ front ++ (line_end ++ back) → HasNoLineEnd text → EndsThere text front octet
at_end [] [] back octet same none = absurd (not_none 10 back (sym (same_others octet 13 [] (10 ∷ back) same)))
at_end [] (next ∷ front) back octet same none = absurd (none_longer 13 front (10 ∷ back) (same_others octet next [] (front ++ (line_end ++ back)) same))
at_end (first ∷ []) [] back octet same none = record {
  feed = same_first octet 10 [] back (same_others first 13 (octet ∷ []) (10 ∷ back) same);
  return = ap (λ o. o ∷ []) (same_first first 13 (octet ∷ []) (10 ∷ back) same);
}
at_end (first ∷ next ∷ text) [] back octet same none =
    absurd (none [] text (ap (λ o. o ∷ next ∷ text) (same_first first 13 (next ∷ text ++ octet ∷ []) (10 ∷ back) same)
    ∙ ap (λ o. 13 ∷ o ∷ text) (same_first next 10 (text ++ octet ∷ []) back (same_others first 13 (next ∷ (text ++ octet ∷ [])) (10 ∷ back) same))))
at_end (first ∷ text) (next ∷ front) back octet same none =
    let rest = at_end text front back octet (same_others first next (text ++ octet ∷ []) (front ++ (line_end ++ back)) same)
    (λ f b is. none (first ∷ f) b (ap (λ t. first ∷ t) is)) in
    record {
      feed = rest.feed;
      return = ap (λ o. o ∷ text) (same_first first next (text ++ octet ∷ []) (front ++ (line_end ++ back)) same) ∙ ap (λ t. next ∷ t) rest.return;
    }

-- a text has no CRLF with an octet more that is no LF, nor behind an octet that is no CR
pub apart : (octet wanted : ℕ) → (octet == wanted) ≡ false → octet ≡ wanted → ⊥
apart octet wanted other same = grind (arith, other, same)

no_end_more : (text : List ℕ) (octet : ℕ) → (octet == 10) ≡ false → HasNoLineEnd text → HasNoLineEnd (text ++ octet ∷ [])
no_end_more text octet other none = λ front back same. apart octet 10 other (at_end text front back octet same none).feed

no_end_behind : (text : List ℕ) (last octet : ℕ) → (last == 13) ≡ false → HasNoLineEnd (text ++ last ∷ []) → HasNoLineEnd ((text ++ last ∷ []) ++ octet ∷ [])
no_end_behind text last octet other none =
    λ front back same. apart last 13 other (same_last text front last 13 (at_end (text ++ last ∷ []) front back octet same none).return)

pub no_end_none : HasNoLineEnd []
no_end_none = λ front back same. none_longer 13 front (10 ∷ back) same

pub no_end_one : (octet : ℕ) → HasNoLineEnd (octet ∷ [])
no_end_one octet [] back same = not_none 10 back (sym (same_others octet 13 [] (10 ∷ back) same))
no_end_one octet (next ∷ front) back same = none_longer 13 front (10 ∷ back) (same_others octet next [] (front ++ (line_end ++ back)) same)

-- ---- what stands so far of a line, by where the next octet stands

-- a line that isn't a dot alone, behind an octet of it
record Begun (line : List ℕ) : Type 0 where
  some : line ≡ [] → ⊥
  none : (octet : ℕ) → HasNoLineEnd (line ++ octet ∷ [])
  other : line ≡ 46 ∷ [] → ⊥

-- the same, up to a CR
record Returned (line : List ℕ) : Type 0 where
  before : List ℕ
  written : line ≡ before ++ 13 ∷ []
  whole : IsSentLine before

abbrev Stands : TextState → List ℕ → Type 0
Stands Start line = line ≡ []
Stands Dot line = line ≡ 46 ∷ []
Stands DotReturn line = line ≡ 46 ∷ 13 ∷ []
Stands Inside line = Begun line
Stands Return line = Returned line
Stands Ended line = ⊥

-- what the text has of it
abbrev gains_of : TextState → List ℕ → List ℕ
gains_of Start line = []
gains_of Dot line = []
gains_of DotReturn line = []
gains_of Inside line = undotted line
gains_of Return line = undotted line
gains_of Ended line = []

-- what stands so far and what comes are lines and a dot alone
record Found (line gains sent text : List ℕ) : Type 0 where
  lines : List (List ℕ)
  each : All IsSentLine lines
  written : line ++ sent ≡ flat_map line_with_crlf lines ++ line_with_crlf (46 ∷ [])
  means : gains ++ text ≡ flat_map (λ l. line_with_crlf (undotted l)) lines

-- one octet was taken
found_more : (line gains more : List ℕ) (octet : ℕ) (sent text : List ℕ)
    → Found (line ++ octet ∷ []) (gains ++ more) sent text → Found line gains (octet ∷ sent) (more ++ text)
found_more line gains more octet sent text found = record {
  lines = found.lines;
  each = found.each;
  written = sym (append_assoc line (octet ∷ []) sent) ∙ found.written;
  means = sym (append_assoc gains more text) ∙ found.means;
}

-- an octet of a line leads to a place where it stands in the line so far
record Stepped (from : TextState) (line : List ℕ) (octet : ℕ) : Type 0 where
  stands : Stands (after from octet) (line ++ octet ∷ [])
  gains : gains_of (after from octet) (line ++ octet ∷ []) ≡ gains_of from line ++ gained from octet

undotted_by : (first octet : ℕ) (line : List ℕ) (dotted : Bool) → (first == 46) ≡ dotted → undotted (first ∷ (line ++ octet ∷ [])) ≡ undotted (first ∷ line) ++ octet ∷ []
undotted_by first octet line true test = rw test refl
undotted_by first octet line false test = rw test refl

undotted_more : (line : List ℕ) (octet : ℕ) → (line ≡ [] → ⊥) → undotted (line ++ octet ∷ []) ≡ undotted line ++ octet ∷ []
undotted_more [] octet some = absurd (some refl)
undotted_more (first ∷ line) octet some = undotted_by first octet line (first == 46) refl

-- behind a line's front
start_by : (octet : ℕ) (dotted returned : Bool) → (octet == 46) ≡ dotted → (octet == 13) ≡ returned → Stepped Start [] octet
start_by octet true returned dot test = record {
  stands = rw dot (ap (λ o. o ∷ []) (is_the octet 46 dot));
  gains = rw dot refl;
}
start_by octet false true dot test = record {
  stands = rw (dot, test) (record {
    before = [];
    written = ap (λ o. o ∷ []) (is_the octet 13 test);
    whole = record { whole = no_end_one 13; other = λ same. not_none 46 [] (sym same) };
  });
  gains = rw (dot, test, dot) refl;
}
start_by octet false false dot test = record {
  stands = rw (dot, test) (record {
    some = not_none octet [];
    none = λ next. no_end_behind [] octet next test (no_end_one octet);
    other = λ same. apart octet 46 dot (same_first octet 46 [] [] same);
  });
  gains = rw (dot, test, dot) refl;
}

-- behind a dot
dotted_by : (octet : ℕ) (returned : Bool) → (octet == 13) ≡ returned → Stepped Dot (46 ∷ []) octet
dotted_by octet true test = record {
  stands = rw test (ap (λ o. 46 ∷ o ∷ []) (is_the octet 13 test));
  gains = rw test refl;
}
dotted_by octet false test = record {
  stands = rw test (record {
    some = not_none 46 (octet ∷ []);
    none = λ next. no_end_behind (46 ∷ []) octet next test (no_end_behind [] 46 octet refl (no_end_one 46));
    other = λ same. not_none octet [] (same_others 46 46 (octet ∷ []) [] same);
  });
  gains = rw test refl;
}

-- in a line
inside_by : (line : List ℕ) (octet : ℕ) (returned : Bool) → (octet == 13) ≡ returned → Begun line → Stepped Inside line octet
inside_by line octet true test begun = record {
  stands = rw test (record {
    before = line;
    written = ap (λ o. line ++ o ∷ []) (is_the octet 13 test);
    whole = record { whole = begun.none 13; other = begun.other };
  });
  gains = rw test (undotted_more line octet begun.some);
}
inside_by line octet false test begun = record {
  stands = rw test (record {
    some = not_nothing line octet;
    none = λ next. no_end_behind line octet next test (begun.none octet);
    other = λ same. begun.some (same_front line [] octet 46 same);
  });
  gains = rw test (undotted_more line octet begun.some);
}

-- behind a CR, where no LF follows
returned_by : (line : List ℕ) (octet : ℕ) (returned : Bool) → (octet == 10) ≡ false → (octet == 13) ≡ returned → Returned line → Stepped Return line octet
returned_by line octet true feed test is =
    let none : HasNoLineEnd line = subst HasNoLineEnd (sym is.written) is.whole.whole in
    let some : line ≡ [] → ⊥ = λ same. not_nothing is.before 13 (sym is.written ∙ same) in
    record {
      stands = rw (feed, test) (record {
        before = line;
        written = ap (λ o. line ++ o ∷ []) (is_the octet 13 test);
        whole = record {
          whole = no_end_more line 13 refl none;
          other = λ same. apart 13 46 refl (same_last is.before [] 13 46 (sym is.written ∙ same));
        };
      });
      gains = rw (feed, test) (undotted_more line octet some);
    }
returned_by line octet false feed test is =
    let none : HasNoLineEnd line = subst HasNoLineEnd (sym is.written) is.whole.whole in
    let some : line ≡ [] → ⊥ = λ same. not_nothing is.before 13 (sym is.written ∙ same) in
    record {
      stands = rw (feed, test) (record {
        some = not_nothing line octet;
        none = λ next. no_end_behind line octet next test (no_end_more line octet feed none);
        other = λ same. some (same_front line [] octet 46 same);
      });
      gains = rw (feed, test) (undotted_more line octet some);
    }

-- behind a dot and a CR, where no LF follows
dot_returned_by : (octet : ℕ) (returned : Bool) → (octet == 10) ≡ false → (octet == 13) ≡ returned → Stepped DotReturn (46 ∷ 13 ∷ []) octet
dot_returned_by octet true feed test = record {
  stands = rw (feed, test) (record {
    before = 46 ∷ 13 ∷ [];
    written = ap (λ o. 46 ∷ 13 ∷ o ∷ []) (is_the octet 13 test);
    whole = record {
      whole = no_end_more (46 ∷ 13 ∷ []) 13 refl (no_end_behind [] 46 13 refl (no_end_one 46));
      other = λ same. not_none 13 [] (same_others 46 46 (13 ∷ []) [] same);
    };
  });
  gains = rw (feed, test) refl;
}
dot_returned_by octet false feed test = record {
  stands = rw (feed, test) (record {
    some = not_none 46 (13 ∷ octet ∷ []);
    none = λ next. no_end_behind (46 ∷ 13 ∷ []) octet next test (no_end_more (46 ∷ 13 ∷ []) octet feed (no_end_behind [] 46 13 refl (no_end_one 46)));
    other = λ same. not_none 13 (octet ∷ []) (same_others 46 46 (13 ∷ octet ∷ []) [] same);
  });
  gains = rw (feed, test) refl;
}

-- a whole line stands before the others
found_line : (line before sent text : List ℕ) → IsSentLine before → line ≡ before ++ 13 ∷ [] → Found [] [] sent text
    → Found line (undotted line) (10 ∷ sent) (10 ∷ text)
found_line line before sent text whole written found = record {
  lines = before ∷ found.lines;
  each = All-cons IsSentLine before found.lines whole found.each;
  written =
      let front : line ++ 10 ∷ sent ≡ line_with_crlf before ++ sent =
      ap (λ l. l ++ 10 ∷ sent) written ∙ (append_assoc before (13 ∷ []) (10 ∷ sent) ∙ sym (append_assoc before line_end sent)) in
      front ∙ (ap (λ t. line_with_crlf before ++ t) found.written ∙ sym (append_assoc (line_with_crlf before) (flat_map line_with_crlf found.lines) (line_with_crlf (46 ∷ []))));
  means =
      let front : undotted line ++ 10 ∷ text ≡ line_with_crlf (undotted before) ++ text =
      ap (λ l. undotted l ++ 10 ∷ text) written
      ∙ (ap (λ l. l ++ 10 ∷ text) (undotted_return before)
      ∙ (append_assoc (undotted before) (13 ∷ []) (10 ∷ text) ∙ sym (append_assoc (undotted before) line_end text))) in
      front ∙ ap (λ t. line_with_crlf (undotted before) ++ t) found.means;
}
  where
    undotted_return : (before : List ℕ) → undotted (before ++ 13 ∷ []) ≡ undotted before ++ 13 ∷ []
    undotted_return [] = refl
    undotted_return (first ∷ before) = undotted_more (first ∷ before) 13 (not_none first before)

-- one octet of a line, and what is found behind it
found_step : (from : TextState) (line : List ℕ) (octet : ℕ) (sent : List ℕ) → (step : Stepped from line octet)
    → Found (line ++ octet ∷ []) (gains_of (after from octet) (line ++ octet ∷ [])) sent (text_after (after from octet) sent)
    → Found line (gains_of from line) (octet ∷ sent) (text_after from (octet ∷ sent))
found_step from line octet sent step found =
    found_more line (gains_of from line) (gained from octet) octet sent (text_after (after from octet) sent)
    (subst (λ g. Found (line ++ octet ∷ []) g sent (text_after (after from octet) sent)) step.gains found)

-- nothing comes behind the end
nothing_behind : (sent : List ℕ) → TextEndsAt Ended sent → sent ≡ []
nothing_behind [] ends = refl
nothing_behind (octet ∷ sent) ends = absurd (ends.0 refl)

-- what is found behind an octet, from any place and line
abbrev Finds : List ℕ → Type 0
Finds sent = (from : TextState) (line : List ℕ) → Stands from line → TextEndsAt from sent → Found line (gains_of from line) sent (text_after from sent)

-- behind a CR of a line
behind_return : (line : List ℕ) (octet : ℕ) (sent : List ℕ) (fed : Bool) → (octet == 10) ≡ fed → Returned line → TextEndsAt (after Return octet) sent → Finds sent
    → Found line (undotted line) (octet ∷ sent) (text_after Return (octet ∷ sent))
behind_return line octet sent true feed is ends finds =
    subst (λ o. TextEndsAt (after Return o) sent → Found line (undotted line) (o ∷ sent) (text_after Return (o ∷ sent))) (sym (is_the octet 10 feed))
    (λ e. found_line line is.before sent (text_after Start sent) is.whole is.written (finds Start [] refl e)) ends
behind_return line octet sent false feed is ends finds =
    let step = returned_by line octet (octet == 13) feed refl is in
    found_step Return line octet sent step (finds (after Return octet) (line ++ octet ∷ []) step.stands ends)

-- the text's end
found_end : (sent : List ℕ) → sent ≡ [] → Found (46 ∷ 13 ∷ []) [] (10 ∷ sent) (text_after DotReturn (10 ∷ sent))
found_end sent none =
    subst (λ s. Found (46 ∷ 13 ∷ []) [] (10 ∷ s) (text_after DotReturn (10 ∷ s))) (sym none)
    (record { lines = []; each = All-nil IsSentLine; written = refl; means = refl })

behind_dot_return : (octet : ℕ) (sent : List ℕ) (fed : Bool) → (octet == 10) ≡ fed → TextEndsAt (after DotReturn octet) sent → Finds sent
    → Found (46 ∷ 13 ∷ []) [] (octet ∷ sent) (text_after DotReturn (octet ∷ sent))
behind_dot_return octet sent true feed ends finds =
    subst (λ o. TextEndsAt (after DotReturn o) sent → Found (46 ∷ 13 ∷ []) [] (o ∷ sent) (text_after DotReturn (o ∷ sent))) (sym (is_the octet 10 feed))
    (λ e. found_end sent (nothing_behind sent e)) ends
behind_dot_return octet sent false feed ends finds =
    let step = dot_returned_by octet (octet == 13) feed refl in
    found_step DotReturn (46 ∷ 13 ∷ []) octet sent step (finds (after DotReturn octet) (46 ∷ 13 ∷ octet ∷ []) step.stands ends)

no_stand : (from : TextState) (line : List ℕ) → from ≡ Ended → Stands from line → ⊥
no_stand from line same stands = subst (λ p. Stands p line) same stands

find : (sent : List ℕ) → Finds sent
find [] from line stands ends = absurd (no_stand from line ends stands)
find (octet ∷ sent) Start line stands ends =
    let step = start_by octet (octet == 46) (octet == 13) refl refl in
    subst (λ l. Found l [] (octet ∷ sent) (text_after Start (octet ∷ sent))) (sym stands)
    (found_step Start [] octet sent step (find sent (after Start octet) (octet ∷ []) step.stands ends.1))
find (octet ∷ sent) Dot line stands ends =
    let step = dotted_by octet (octet == 13) refl in
    subst (λ l. Found l [] (octet ∷ sent) (text_after Dot (octet ∷ sent))) (sym stands)
    (found_step Dot (46 ∷ []) octet sent step (find sent (after Dot octet) (46 ∷ octet ∷ []) step.stands ends.1))
find (octet ∷ sent) DotReturn line stands ends =
    subst (λ l. Found l [] (octet ∷ sent) (text_after DotReturn (octet ∷ sent))) (sym stands)
    (behind_dot_return octet sent (octet == 10) refl ends.1 (find sent))
find (octet ∷ sent) Inside line stands ends =
    let step = inside_by line octet (octet == 13) refl stands in
    found_step Inside line octet sent step (find sent (after Inside octet) (line ++ octet ∷ []) step.stands ends.1)
find (octet ∷ sent) Return line stands ends = behind_return line octet sent (octet == 10) refl stands ends.1 (find sent)
find (octet ∷ sent) Ended line stands ends = absurd stands

pub text_found : (sent : List ℕ) → TextEndsAt Start sent → IsSentText sent (text_after Start sent)
text_found sent ends =
    let found = find sent Start [] refl ends in
    record { lines = found.lines; each = found.each; written = found.written; means = found.means }

pub texts_agree : TextsAgree
texts_agree = record { ends = text_ends; same = text_same; only = text_found }
