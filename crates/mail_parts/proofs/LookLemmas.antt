-- Lemmas on the octet that follows a boundary.
use Rattle.std.proofs.Common.{◌≡◌, ◌≢◌, ℕ, ◌+◌, ◌<◌, ◌==◌, inl, inr, Bool, true, false, cond, ◌&&◌, ◌||◌, None, List, [], ◌∷◌, ◌++◌, length, take, get_or, refl, sym, ap, subst, ◌∙◌, arith, eq-eqb, length-append, append_assoc}
use Rattle.std.proofs.Math.Seq.{get_or-append_seam}
use Rattle.std.proofs.lemmas.List.{nil_from_length}
use Rattle.std.proofs.lemmas.Bool.{false_from_ne_true}
use Rattle.std.proofs.lemmas.Slice.Eq.{bytes_eq-Decides}
use Rattle.std.specs.Prelude.{codes, bytes_eq}
use Rattle.std.specs.List.{concat, list_all}
use Rattle.octets.specs.Ascii.{is_blank}
use Rattle.mail_head.specs.Lines.{lines_of, AreLines, without_end, end_of}
use Rattle.mail_head.proofs.CutLemmas.{lines_found}
use Rattle.mail_head.proofs.EndLaws.{end_found, end_only}
use Rattle.mail_head.proofs.LineLemmas.{concat-lines_of}
use Rattle.mail_parts.specs.Sections.{behind, mark_if_padding, mark_behind, line_mark, is_padding, is_section_mark}
use Rattle.mail_parts.specs.Cutting.{may_follow, IsFirstInside}
use Rattle.mail_parts.specs.declared.section.LineMark.{LineMark}
use Rattle.mail_parts.specs.declared.section.LineMark.TheVariants.{Inside, Delimiter, Close}
use Rattle.mail_parts.proofs.BoundaryLaws.{mark_found, end_cons}

or_left : (a b : Bool) → (a || b) ≡ false → a ≡ false
or_left true b is = absurd (cc is)
or_left false b is = refl

or_right : (a b : Bool) → (a || b) ≡ false → b ≡ false
or_right true b is = absurd (cc is)
or_right false b is = is

not_octet : (octet other : ℕ) → (octet == other) ≡ false → octet ≢ other
not_octet octet other is same = let yes : true ≡ false = sym (eq-eqb octet other same) ∙ is in cc yes

-- an octet that nothing of this begins with leaves the line inside
inside_behind : (octet : ℕ) (rest : List ℕ) → may_follow octet ≡ false → mark_behind (octet ∷ rest) ≡ Inside
inside_behind octet rest other =
    let three = or_left (is_blank octet || octet == 13 || octet == 10) (octet == 45) other in
    let two = or_left (is_blank octet || octet == 13) (octet == 10) three in
    let blank : is_blank octet ≡ false = or_left (is_blank octet) (octet == 13) two in
    let no_return = not_octet octet 13 (or_right (is_blank octet) (octet == 13) two) in
    let no_feed = not_octet octet 10 (or_right (is_blank octet || octet == 13) (octet == 10) three) in
    let no_hyphen = not_octet octet 45 (or_right (is_blank octet || octet == 13 || octet == 10) (octet == 45) other) in
    let ended = end_cons octet rest (without_end rest) (end_of rest) no_return no_feed (end_found rest) in
    let own : octet ∷ without_end rest ≡ without_end (octet ∷ rest) = (end_only (octet ∷ rest) (octet ∷ without_end rest) (end_of rest) ended).0 in
    let padding : is_padding (octet ∷ rest) ≡ false = ap (list_all is_blank) (sym own) ∙ ap (λ b. b && list_all is_blank (without_end rest)) blank in
    let differs : bytes_eq (take 2 (octet ∷ rest)) (codes "--") ≡ false =
    false_from_ne_true (bytes_eq (take 2 (octet ∷ rest)) (codes "--")) (λ yes.
    let same : octet ∷ take 1 rest ≡ 45 ∷ 45 ∷ [] = (bytes_eq-Decides (take 2 (octet ∷ rest)) (codes "--")).0 yes in
    let is : octet ≡ 45 = cc same in
    no_hyphen is) in
    let none : behind (codes "--") (octet ∷ rest) ≡ None = rw differs refl in
    ap (λ t. cond t Delimiter (mark_if_padding (behind (codes "--") (octet ∷ rest)))) padding ∙ ap mark_if_padding none

-- lines that aren't none have octets
no_more : (next : List ℕ) (more : List (List ℕ)) (rest : List ℕ) → AreLines (next ∷ more) rest → rest ≡ [] → ⊥
no_more next more rest are none =
    let size : length next + length are.0 ≡ 0 = sym (length-append next are.0) ∙ (ap length (sym are.1.0) ∙ ap length none) in
    elim are.1.1.0 [
      | inl ended ↦ absurd (omega (arith, size, ap length ended.spelled, length-append ended.text (10 ∷ [])))
      | inr last ↦ absurd (last.0.present (nil_from_length next (omega (arith, size))))
    ]

-- a line that others follow ends with LF
ended_line : (line next : List ℕ) (more : List (List ℕ)) (text : List ℕ) → AreLines (line ∷ next ∷ more) text → (front : List ℕ) × (line ≡ front ++ 10 ∷ [])
ended_line line next more text are =
    let rest : List ℕ = are.0 in
    elim are.1.1.0 [
      | inl ended ↦ (ended.text, ended.spelled)
      | inr last ↦ absurd (no_more next more rest are.1.1.1 last.1)
    ]

no_tail : (tail boundary text line : List ℕ) (more : List (List ℕ)) (mark : LineMark) → lines_of text ≡ line ∷ more → length boundary + 2 < length text
    → get_or text (length boundary + 1) 0 ≢ 10 → may_follow (get_or text (length boundary + 2) 0) ≡ false
    → line ≡ 45 ∷ 45 ∷ (boundary ++ tail) → mark_behind tail ≡ mark → is_section_mark mark ≡ false → ⊥
no_tail (octet ∷ rest) boundary text line more mark lines within bare other spelled marked divides =
    let whole : text ≡ (45 ∷ 45 ∷ boundary) ++ octet ∷ (rest ++ concat more) =
    sym (concat-lines_of text) ∙ (ap concat lines ∙ (ap (λ l. l ++ concat more) spelled ∙ ap (λ t. 45 ∷ 45 ∷ t) (append_assoc boundary (octet ∷ rest) (concat more)))) in
    let place : length boundary + 2 ≡ length (45 ∷ 45 ∷ boundary) = omega arith in
    let there : get_or text (length boundary + 2) 0 ≡ octet =
    ap (λ t. get_or t (length boundary + 2) 0) whole
    ∙ (ap (λ n. get_or ((45 ∷ 45 ∷ boundary) ++ octet ∷ (rest ++ concat more)) n 0) place
    ∙ get_or-append_seam (45 ∷ 45 ∷ boundary) octet (rest ++ concat more) 0) in
    let inside : mark ≡ Inside = sym marked ∙ inside_behind octet rest (ap may_follow (sym there) ∙ other) in
    let both : true ≡ false = sym (ap is_section_mark inside) ∙ divides in
    cc both
no_tail [] boundary text line [] mark lines within bare other spelled marked divides =
    let whole : text ≡ line ++ [] = sym (concat-lines_of text) ∙ ap concat lines in
    absurd (omega (arith, ap length whole, length-append line [], ap length spelled, length-append boundary []))
no_tail [] boundary text line (next ∷ more) mark lines within bare other spelled marked divides =
    let P : List (List ℕ) → Type 0 = λ l. AreLines l text in
    let ended = ended_line line next more text (subst P lines (lines_found text)) in
    let whole : text ≡ ended.0 ++ 10 ∷ concat (next ∷ more) =
    sym (concat-lines_of text) ∙ (ap concat lines ∙ (ap (λ l. l ++ concat (next ∷ more)) ended.1 ∙ append_assoc ended.0 (10 ∷ []) (concat (next ∷ more)))) in
    let size : length ended.0 + 1 ≡ length boundary + 2 =
    omega (arith, ap length ended.1, length-append ended.0 (10 ∷ []), ap length spelled, length-append boundary []) in
    let place : length boundary + 1 ≡ length ended.0 = omega (arith, size) in
    let there : get_or text (length boundary + 1) 0 ≡ 10 =
    ap (λ t. get_or t (length boundary + 1) 0) whole
    ∙ (ap (λ n. get_or (ended.0 ++ 10 ∷ concat (next ∷ more)) n 0) place
    ∙ get_or-append_seam ended.0 10 (concat (next ∷ more)) 0) in
    bare there

unless : (mark : LineMark) (boundary text line : List ℕ) (more : List (List ℕ)) → lines_of text ≡ line ∷ more → length boundary + 2 < length text
    → get_or text (length boundary + 1) 0 ≢ 10 → may_follow (get_or text (length boundary + 2) 0) ≡ false → line_mark boundary line ≡ mark → is_section_mark mark ≡ true
unless Inside boundary text line more lines within bare other marked = refl
unless Delimiter boundary text line more lines within bare other marked =
    let found = mark_found boundary line Delimiter refl marked in
    absurd (no_tail found.0 boundary text line more Delimiter lines within bare other found.1 found.2 refl)
unless Close boundary text line more lines within bare other marked =
    let found = mark_found boundary line Close refl marked in
    absurd (no_tail found.0 boundary text line more Close lines within bare other found.1 found.2 refl)

-- the octet behind a boundary tells that the first line is no boundary line
pub first_inside : (boundary text : List ℕ) → length boundary + 2 < length text → get_or text (length boundary + 1) 0 ≢ 10
    → may_follow (get_or text (length boundary + 2) 0) ≡ false → IsFirstInside boundary text
first_inside boundary text within bare other = λ line more lines. unless (line_mark boundary line) boundary text line more lines within bare other refl
