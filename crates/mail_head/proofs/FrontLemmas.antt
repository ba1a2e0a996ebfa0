-- A front of a message that has an empty line has all of its fields.
use Rattle.std.proofs.Common.{◌≡◌, ℕ, ◌≤◌, ◌<◌, nat_lt, not, Bool, true, false, cond, ◌||◌, List, [], ◌∷◌, ◌++◌, length, take, drop, refl, sym, ap, ◌∙◌, subst}
use Rattle.std.proofs.Common.{inl, inr, arith, length-append}
use Rattle.std.proofs.lemmas.Bool.{not-true, lt-ltb, le-ltb}
use Rattle.std.proofs.lemmas.List.{append-nil, append_assoc, length-take-le, take-append-drop}
use Rattle.std.specs.List.{list_all, list_any, filter_map, concat}
use Rattle.mail_head.specs.Lines.{is_feed, is_other, at_front, lines_of, IsEnded, AreLines, is_empty_line, header_lines, body_lines, logical_lines}
use Rattle.mail_head.specs.Fields.{field_of}
use Rattle.mail_head.specs.Heads.{fields_of, body_of, body_start}
use Rattle.mail_head.proofs.CutLemmas.{cut_ended, lines_found, lines_only}
use Rattle.mail_head.proofs.FoldLemmas.{and_left, and_right}
use Rattle.mail_head.proofs.LineLemmas.{concat-lines_of}
use Rattle.mail_head.specs.Prefixes.{has_empty_line, IsHeaderPrefix}

-- a line without LF isn't empty
open_not_empty : (line : List ℕ) → list_all is_other line ≡ true → is_empty_line line ≡ false
open_not_empty [] others = refl
open_not_empty (octet ∷ []) others = grind (arith)
open_not_empty (octet ∷ next ∷ []) others = grind (arith)
open_not_empty (octet ∷ next ∷ third ∷ more) others = refl

-- an ended line stands first, whatever follows
ended_first : (line after rest : List ℕ) → IsEnded line → lines_of ((line ++ after) ++ rest) ≡ line ∷ lines_of (after ++ rest)
ended_first line after rest ended =
    ap lines_of (append_assoc line after rest) ∙ ap (λ t. lines_of (t ++ (after ++ rest))) ended.spelled
    ∙ cut_ended ended.text (after ++ rest) ended.others ∙ ap (λ t. t ∷ lines_of (after ++ rest)) (sym ended.spelled)

header_on : (test : Bool) (line : List ℕ) (more other : List (List ℕ)) → (test ≡ false → header_lines other ≡ header_lines more)
    → cond test [] (line ∷ header_lines other) ≡ cond test [] (line ∷ header_lines more)
header_on true line more other later = refl
header_on false line more other later = ap (λ lines. line ∷ lines) (later refl)

some_left : (test more : Bool) → (test || more) ≡ true → test ≡ false → more ≡ true
some_left true more some none = absurd (cc none)
some_left false more some none = some

-- the header is in the front
header_in : (lines : List (List ℕ)) (text rest : List ℕ) → AreLines lines text → list_any is_empty_line lines ≡ true
    → header_lines (lines_of (text ++ rest)) ≡ header_lines lines
header_in [] text rest are some = absurd (cc some)
header_in (line ∷ more) text rest (after, (spelled, (inl ended, are))) some =
    ap (λ t. header_lines (lines_of (t ++ rest))) spelled ∙ ap header_lines (ended_first line after rest ended)
    ∙ header_on (is_empty_line line) line more (lines_of (after ++ rest)) (λ none. header_in more after rest are (some_left (is_empty_line line) (list_any is_empty_line more) some none))
header_in (line ∷ more) text rest (after, (spelled, (inr last, are))) some =
    let none = open_not_empty line last.0.others in
    let nothing : more ≡ [] = lines_only after more are ∙ ap lines_of last.1 in
    let some_more : list_any is_empty_line more ≡ true = some_left (is_empty_line line) (list_any is_empty_line more) some none in
    absurd (let no : list_any is_empty_line [] ≡ true = ap (list_any is_empty_line) (sym nothing) ∙ some_more in cc no)

-- and so are the fields
pub fields_in_front : (front message : List ℕ) → IsHeaderPrefix front message → fields_of front ≡ fields_of message
fields_in_front front message has =
    let header = header_in (lines_of front) front has.rest (lines_found front) has.ended in
    ap (λ lines. filter_map field_of (logical_lines lines)) (sym header) ∙ ap fields_of (sym has.spelled)

-- ---- how long the header is

-- what follows the first empty line is no longer than the lines
body_within : (lines : List (List ℕ)) → length (concat (body_lines lines)) ≤ length (concat lines)
body_within [] = omega arith
body_within (line ∷ more) = by (is_empty_line line) (body_within more)
  where
    by : (test : Bool) → length (concat (body_lines more)) ≤ length (concat more) → length (concat (cond test more (body_lines more))) ≤ length (line ++ concat more)
    by true within = omega (arith, length-append line (concat more))
    by false within = omega (arith, length-append line (concat more))

-- the first line has octets, so what follows any line is shorter
pub body_shorter : (line : List ℕ) (more : List (List ℕ)) → 0 < length line → length (concat (body_lines (line ∷ more))) < length (concat (line ∷ more))
body_shorter line more present = by (is_empty_line line)
  where
    by : (test : Bool) → length (concat (cond test more (body_lines more))) < length (line ++ concat more)
    by true = omega (arith, length-append line (concat more))
    by false = omega (arith, length-append line (concat more), body_within more)

-- where a text has octets its first line does
at_front_first : (octet : ℕ) (lines : List (List ℕ)) → (line : List ℕ) × (more : List (List ℕ)) × (at_front octet lines ≡ (octet ∷ line) ∷ more)
at_front_first octet [] = ([], [], refl)
at_front_first octet (line ∷ more) = (line, more, refl)

first_of_text : (octet : ℕ) (rest : List ℕ) → (line : List ℕ) × (more : List (List ℕ)) × (lines_of (octet ∷ rest) ≡ (octet ∷ line) ∷ more)
first_of_text octet rest = by (is_feed octet)
  where
    by : (test : Bool) → (line : List ℕ) × (more : List (List ℕ)) × (cond test ((octet ∷ []) ∷ lines_of rest) (at_front octet (lines_of rest)) ≡ (octet ∷ line) ∷ more)
    by true = ([], lines_of rest, refl)
    by false = at_front_first octet (lines_of rest)

-- a text without LF joins the first line behind it
joins_first : (text line : List ℕ) (more : List (List ℕ)) (rest : List ℕ) → list_all is_other text ≡ true → lines_of rest ≡ line ∷ more → lines_of (text ++ rest) ≡ (text ++ line) ∷ more
joins_first [] line more rest others is = is
joins_first (octet ∷ text) line more rest others is =
    let not_feed : is_feed octet ≡ false = not-true (is_feed octet) (and_left _ _ others) in
    let later = joins_first text line more rest (and_right _ _ others) is in
    rw (not_feed, later) refl

-- behind a front with an empty line the body has all that follows the front
body_in : (lines : List (List ℕ)) (text rest : List ℕ) → AreLines lines text → list_any is_empty_line lines ≡ true → length rest ≤ length (body_of (text ++ rest))
body_in [] text rest are some = absurd (cc some)
body_in (line ∷ more) text rest (after, (spelled, (inl ended, are))) some =
    let cut : lines_of (text ++ rest) ≡ line ∷ lines_of (after ++ rest) = ap (λ t. lines_of (t ++ rest)) spelled ∙ ended_first line after rest ended in
    subst (λ (lines : List (List ℕ)). length rest ≤ length (concat (body_lines lines))) (sym cut)
    (by (is_empty_line line) refl (λ none. body_in more after rest are (some_left (is_empty_line line) (list_any is_empty_line more) some none)))
  where
    by : (test : Bool) → is_empty_line line ≡ test → (is_empty_line line ≡ false → length rest ≤ length (body_of (after ++ rest)))
        → length rest ≤ length (concat (cond test (lines_of (after ++ rest)) (body_lines (lines_of (after ++ rest)))))
    by true is later = omega (arith, ap length (concat-lines_of (after ++ rest)), length-append after rest)
    by false is later = later is
body_in (line ∷ more) text rest (after, (spelled, (inr last, are))) some =
    let none = open_not_empty line last.0.others in
    let nothing : more ≡ [] = lines_only after more are ∙ ap lines_of last.1 in
    let some_more : list_any is_empty_line more ≡ true = some_left (is_empty_line line) (list_any is_empty_line more) some none in
    absurd (let no : list_any is_empty_line [] ≡ true = ap (list_any is_empty_line) (sym nothing) ∙ some_more in cc no)

none_first : (test more : Bool) → (test || more) ≡ false → test ≡ false
none_first true more none = absurd (cc none)
none_first false more none = refl

none_more : (test more : Bool) → (test || more) ≡ false → more ≡ false
none_more true more none = absurd (cc none)
none_more false more none = none

-- behind one without, it has less
body_behind : (lines : List (List ℕ)) (text : List ℕ) (octet : ℕ) (rest : List ℕ) → AreLines lines text → list_any is_empty_line lines ≡ false
    → length (body_of (text ++ (octet ∷ rest))) < length (octet ∷ rest)
body_behind [] text octet rest are none =
    let first = first_of_text octet rest in
    let same : concat ((octet ∷ first.0) ∷ first.1) ≡ octet ∷ rest = ap concat (sym first.2) ∙ concat-lines_of (octet ∷ rest) in
    let shorter = body_shorter (octet ∷ first.0) first.1 (omega arith) in
    let less : length (concat (body_lines (lines_of (octet ∷ rest)))) < length (octet ∷ rest) =
    subst (λ (lines : List (List ℕ)). length (concat (body_lines lines)) < length (octet ∷ rest)) (sym first.2) (omega (arith, shorter, ap length same)) in
    subst (λ (t : List ℕ). length (body_of (t ++ (octet ∷ rest))) < length (octet ∷ rest)) (sym are) less
body_behind (line ∷ more) text octet rest (after, (spelled, (inl ended, are))) none =
    let cut : lines_of (text ++ (octet ∷ rest)) ≡ line ∷ lines_of (after ++ (octet ∷ rest)) = ap (λ t. lines_of (t ++ (octet ∷ rest))) spelled ∙ ended_first line after (octet ∷ rest) ended in
    subst (λ (lines : List (List ℕ)). length (concat (body_lines lines)) < length (octet ∷ rest)) (sym cut)
    (by (is_empty_line line) (none_first _ _ none) (body_behind more after octet rest are (none_more _ _ none)))
  where
    by : (test : Bool) → test ≡ false → length (body_of (after ++ (octet ∷ rest))) < length (octet ∷ rest)
        → length (concat (cond test (lines_of (after ++ (octet ∷ rest))) (body_lines (lines_of (after ++ (octet ∷ rest)))))) < length (octet ∷ rest)
    by true is later = absurd (cc is)
    by false is later = later
body_behind (line ∷ more) text octet rest (after, (spelled, (inr last, are))) none =
    let first = first_of_text octet rest in
    let whole : text ≡ line = spelled ∙ ap (λ t. line ++ t) last.1 ∙ append-nil line in
    let cut : lines_of (line ++ (octet ∷ rest)) ≡ (line ++ (octet ∷ first.0)) ∷ first.1 = joins_first line (octet ∷ first.0) first.1 (octet ∷ rest) last.0.others first.2 in
    let same : concat ((octet ∷ first.0) ∷ first.1) ≡ octet ∷ rest = ap concat (sym first.2) ∙ concat-lines_of (octet ∷ rest) in
    let below : length (concat first.1) < length (octet ∷ rest) = omega (arith, ap length same, length-append (octet ∷ first.0) (concat first.1)) in
    let less : length (concat (body_lines ((line ++ (octet ∷ first.0)) ∷ first.1))) < length (octet ∷ rest) = by (line ++ (octet ∷ first.0)) first.1 below in
    subst (λ (t : List ℕ). length (body_of (t ++ (octet ∷ rest))) < length (octet ∷ rest)) (sym whole)
    (subst (λ (lines : List (List ℕ)). length (concat (body_lines lines)) < length (octet ∷ rest)) (sym cut) less)
  where
    by : (joined : List ℕ) (behind : List (List ℕ)) → length (concat behind) < length (octet ∷ rest) → length (concat (body_lines (joined ∷ behind))) < length (octet ∷ rest)
    by joined behind below = of (is_empty_line joined)
      where
        of : (test : Bool) → length (concat (cond test behind (body_lines behind))) < length (octet ∷ rest)
        of true = below
        of false = omega (arith, body_within behind, below)

-- a message that goes on behind a front has the longer header where no line of the front is empty
pub longer_behind : (front : List ℕ) (octet : ℕ) (rest : List ℕ) → has_empty_line front ≡ false → length front < body_start (front ++ (octet ∷ rest))
longer_behind front octet rest none =
    omega (arith, body_behind (lines_of front) front octet rest (lines_found front) none, length-append front (octet ∷ rest))

pub shorter_in : (front rest : List ℕ) → has_empty_line front ≡ true → body_start (front ++ rest) ≤ length front
shorter_in front rest some = omega (arith, body_in (lines_of front) front rest (lines_found front) some, length-append front rest)

-- and so it is of the first so many octets of one that has more
pub longer_by : (most : ℕ) (message : List ℕ) → most < length message → not (has_empty_line (take most message)) ≡ nat_lt most (body_start message)
longer_by most message more = by (has_empty_line (take most message)) refl
  where
    count : length (take most message) ≡ most
    count = length-take-le most message (omega arith)

    spelled : take most message ++ drop most message ≡ message
    spelled = take-append-drop most message

    goes_on : (rest : List ℕ) → take most message ++ rest ≡ message → has_empty_line (take most message) ≡ false → most < body_start message
    goes_on [] is none = absurd (omega (arith, ap length is, count, length-append (take most message) []))
    goes_on (octet ∷ rest) is none =
        let longer : length (take most message) < body_start message = subst (λ (t : List ℕ). length (take most message) < body_start t) is (longer_behind (take most message) octet rest none) in
        omega (arith, longer, count)

    by : (test : Bool) → has_empty_line (take most message) ≡ test → not test ≡ nat_lt most (body_start message)
    by true is =
        let within : body_start message ≤ length (take most message) =
        subst (λ (t : List ℕ). body_start t ≤ length (take most message)) spelled (shorter_in (take most message) (drop most message) is) in
        sym (le-ltb most (body_start message) (omega (arith, within, count)))
    by false is = sym (lt-ltb most (body_start message) (goes_on (drop most message) spelled is))
