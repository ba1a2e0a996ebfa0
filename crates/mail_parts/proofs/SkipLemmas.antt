-- Lemmas on a search for the next line that begins as a boundary line does.
use Rattle.std.proofs.Common.{◌≡◌, ℕ, zero, suc, ◌+◌, ◌<◌, ◌≤◌, ◌==◌, Bool, true, false, None, Some, List, [], ◌∷◌, ◌++◌, length, get_or, take, drop, refl, sym, ap, ◌∙◌, arith, subst, add-one, eq-eqb, eqb-true, length-append, length-drop, append_assoc}
use Rattle.std.proofs.lemmas.List.{take_at, drop_all}
use Rattle.std.proofs.lemmas.List.Folds.{list_all-append, concat-append}
use Rattle.std.specs.List.{concat, list_all}
use Rattle.memchr.specs.Find.{OccursAt, FindsNeedle}
use Rattle.memchr.proofs.lemmas.MatchLemmas.{OccursAt-from_part}
use Rattle.mail_head.specs.Lines.{at_front, lines_of}
use Rattle.mail_head.proofs.FoldLemmas.{and_true}
use Rattle.mail_parts.specs.Cutting.{IsFirstInside}
use Rattle.mail_parts.specs.Sections.{dash_boundary, line_mark, is_section_mark, is_section_line}
use Rattle.mail_parts.specs.declared.section.LineMark.{LineMark}
use Rattle.mail_parts.specs.declared.section.LineMark.TheVariants.{Inside, Delimiter, Close}
use Rattle.mail_parts.proofs.BoundaryLaws.{mark_found}
use Rattle.mail_parts.proofs.SectionLemmas.{HasPassed}

-- the first lines of a text: one, and others that are no boundary lines
pub record Skips (boundary text rest : List ℕ) : Type 0 where
  pub line : List ℕ
  pub passed : List (List ℕ)
  pub lines : lines_of text ≡ line ∷ (passed ++ lines_of rest)
  pub spelled : text ≡ line ++ (concat passed ++ rest)
  pub inside : list_all (is_section_line boundary) passed ≡ true

-- before this place no LF stands before what a boundary line begins with
pub record IsFree (boundary text : List ℕ) (end : ℕ) : Type 0 where
  pub none : (j : ℕ) → j < end → (tail : List ℕ) → drop j text ≡ dash_boundary boundary ++ tail → ⊥

free_later : (boundary rest : List ℕ) (octet end : ℕ) → IsFree boundary (octet ∷ rest) (suc end) → IsFree boundary rest end
free_later boundary rest octet end free = record { none = λ j less tail is. free.none (suc j) (omega arith) tail is }

-- a line that doesn't begin as a boundary line does is none
section_unless : (mark : LineMark) (boundary line : List ℕ) → line_mark boundary line ≡ mark
    → ((tail : List ℕ) → line ≡ 45 ∷ 45 ∷ (boundary ++ tail) → ⊥) → is_section_mark mark ≡ true
section_unless Inside boundary line marked free = refl
section_unless Delimiter boundary line marked free = let found = mark_found boundary line Delimiter refl marked in absurd (free found.0 found.1)
section_unless Close boundary line marked free = let found = mark_found boundary line Close refl marked in absurd (free found.0 found.1)

skip_other : (boundary : List ℕ) (octet : ℕ) (rest after : List ℕ) → (octet == 10) ≡ false → Skips boundary rest after → Skips boundary (octet ∷ rest) after
skip_other boundary octet rest after other skips = record {
  line = octet ∷ skips.line;
  passed = skips.passed;
  lines = rw other (ap (at_front octet) skips.lines);
  spelled = ap (λ t. octet ∷ t) skips.spelled;
  inside = skips.inside;
}

skip_feed : (boundary : List ℕ) (octet : ℕ) (rest after : List ℕ) → (octet == 10) ≡ true → ((tail : List ℕ) → rest ≡ 45 ∷ 45 ∷ (boundary ++ tail) → ⊥)
    → Skips boundary rest after → Skips boundary (octet ∷ rest) after
skip_feed boundary octet rest after feed free skips =
    let more : List ℕ = concat skips.passed ++ after in
    let none : (tail : List ℕ) → skips.line ≡ 45 ∷ 45 ∷ (boundary ++ tail) → ⊥ =
    λ tail is. free (tail ++ more) (skips.spelled ∙ (ap (λ t. t ++ more) is ∙ ap (λ t. 45 ∷ 45 ∷ t) (append_assoc boundary tail more))) in
    let inside : is_section_line boundary skips.line ≡ true = section_unless (line_mark boundary skips.line) boundary skips.line refl none in
    record {
      line = octet ∷ [];
      passed = skips.line ∷ skips.passed;
      lines = rw feed (ap (λ l. (octet ∷ []) ∷ l) skips.lines);
      spelled = ap (λ t. octet ∷ t) (skips.spelled ∙ sym (append_assoc skips.line (concat skips.passed) after));
      inside = and_true _ _ inside skips.inside;
    }

skip_octet : (test : Bool) (boundary : List ℕ) (octet : ℕ) (rest after : List ℕ) (end : ℕ) → (octet == 10) ≡ test → IsFree boundary (octet ∷ rest) (suc end)
    → Skips boundary rest after → Skips boundary (octet ∷ rest) after
skip_octet false boundary octet rest after end is free skips = skip_other boundary octet rest after is skips
skip_octet true boundary octet rest after end is free skips =
    let feed : octet ≡ 10 = eqb-true octet 10 is in
    let begins : (tail : List ℕ) → rest ≡ 45 ∷ 45 ∷ (boundary ++ tail) → octet ∷ rest ≡ 10 ∷ 45 ∷ 45 ∷ (boundary ++ tail) = λ tail same. cc in
    skip_feed boundary octet rest after is (λ tail same. free.none 0 (omega arith) tail (begins tail same)) skips

-- up to the line behind an LF
pub skip_to : (boundary text : List ℕ) (k : ℕ) → k < length text → (get_or text k 0 == 10) ≡ true → IsFree boundary text k → Skips boundary text (drop (suc k) text)
skip_to boundary [] k within feed free = absurd (omega arith)
skip_to boundary (octet ∷ rest) zero within feed free = record { line = octet ∷ []; passed = []; lines = rw feed refl; spelled = refl; inside = refl }
skip_to boundary (octet ∷ rest) (suc k) within feed free =
    skip_octet (octet == 10) boundary octet rest (drop (suc k) rest) k refl free
    (skip_to boundary rest k (omega arith) feed (free_later boundary rest octet k free))

one_line : (test : Bool) (octet : ℕ) → (octet == 10) ≡ test → lines_of (octet ∷ []) ≡ (octet ∷ []) ∷ []
one_line true octet is = rw is refl
one_line false octet is = rw is refl

-- up to the end
pub skip_all : (boundary text : List ℕ) → 0 < length text → IsFree boundary text (length text) → Skips boundary text []
skip_all boundary [] present free = absurd (omega arith)
skip_all boundary (octet ∷ []) present free =
    record { line = octet ∷ []; passed = []; lines = one_line (octet == 10) octet refl; spelled = refl; inside = refl }
skip_all boundary (octet ∷ (next ∷ rest)) present free =
    skip_octet (octet == 10) boundary octet (next ∷ rest) [] (length (next ∷ rest)) refl free
    (skip_all boundary (next ∷ rest) (omega arith) (free_later boundary (next ∷ rest) octet (length (next ∷ rest)) free))

-- what stands there is an occurrence
occurs : (boundary text tail : List ℕ) (j : ℕ) → drop j text ≡ dash_boundary boundary ++ tail → OccursAt text (dash_boundary boundary) j
occurs boundary text tail j is =
    let needle : List ℕ = dash_boundary boundary in
    let fits : j + length needle ≤ length text = omega (arith, ap length is, length-drop j text, length-append needle tail) in
    OccursAt-from_part text needle j fits (ap (take (length needle)) is ∙ take_at needle tail (length needle) refl)

-- the lines up to where the search has found one
pub skip_found : (boundary text : List ℕ) (k : ℕ) → FindsNeedle text (dash_boundary boundary) 0 (Some k) → Skips boundary text (drop (suc k) text)
skip_found boundary text k found =
    let there = found.1 in
    let fits : k + suc (suc (suc (length boundary))) ≤ length text = there.fits in
    let feed : get_or text k 0 ≡ 10 = ap (λ m. get_or text m 0) (let same : k ≡ k + 0 = omega arith in same) ∙ there.reads 0 (omega arith) in
    skip_to boundary text k (omega arith) (eq-eqb (get_or text k 0) 10 feed)
    (record { none = λ j less tail is. found.0.before j (omega arith) less (occurs boundary text tail j is) })

-- the lines up to the end, where it has found none
pub skip_none : (boundary text : List ℕ) → 0 < length text → FindsNeedle text (dash_boundary boundary) 0 None → Skips boundary text []
skip_none boundary text present none =
    skip_all boundary text present (record { none = λ j less tail is. none j (omega arith) (omega arith) (occurs boundary text tail j is) })

-- the first line is no boundary line, and those behind it are passed
passed_skip : (boundary text rest next : List ℕ) → HasPassed boundary text rest → IsFirstInside boundary rest → Skips boundary rest next → HasPassed boundary text next
passed_skip boundary text rest next so_far first skips =
    let own : is_section_line boundary skips.line ≡ true = first skips.line (skips.passed ++ lines_of next) skips.lines in
    let others : List (List ℕ) = skips.line ∷ skips.passed in
    let front : List ℕ = skips.line ++ concat skips.passed in
    record {
      passed = so_far.passed ++ others;
      lines = so_far.lines ∙ (ap (λ l. so_far.passed ++ l) skips.lines ∙ sym (append_assoc so_far.passed others (lines_of next)));
      spelled =
          so_far.spelled ∙ (ap (λ t. concat so_far.passed ++ t) (skips.spelled ∙ sym (append_assoc skips.line (concat skips.passed) next))
          ∙ (sym (append_assoc (concat so_far.passed) front next)
          ∙ ap (λ t. t ++ next) (sym (concat-append so_far.passed others))));
      inside = list_all-append (is_section_line boundary) so_far.passed others ∙ and_true _ _ so_far.inside (and_true _ _ own skips.inside);
    }

-- the same, up to the line that a search for the needle finds
pub passed_found : (boundary needle text rest next : List ℕ) (k : ℕ) → HasPassed boundary text rest → IsFirstInside boundary rest
    → needle ≡ dash_boundary boundary → FindsNeedle rest needle 0 (Some k) → next ≡ drop (k + 1) rest → HasPassed boundary text next
passed_found boundary needle text rest next k so_far first is found next_is =
    let P : List ℕ → Type 0 = λ n. FindsNeedle rest n 0 (Some k) in
    let Q : List ℕ → Type 0 = λ t. Skips boundary rest t in
    let same : drop (suc k) rest ≡ next = sym (next_is ∙ ap (λ m. drop m rest) (add-one k)) in
    passed_skip boundary text rest next so_far first (subst Q same (skip_found boundary rest k (subst P is found)))

positive : (n : ℕ) → (n == 0) ≡ false → 0 < n
positive zero is = absurd (cc is)
positive (suc n) is = omega arith

-- and up to the end, where it finds none
pub passed_all : (boundary needle text rest next : List ℕ) → HasPassed boundary text rest → IsFirstInside boundary rest
    → needle ≡ dash_boundary boundary → (length rest == 0) ≡ false → FindsNeedle rest needle 0 None → next ≡ drop (length rest) rest
    → HasPassed boundary text next
passed_all boundary needle text rest next so_far first is some none next_is =
    let P : List ℕ → Type 0 = λ n. FindsNeedle rest n 0 None in
    let Q : List ℕ → Type 0 = λ t. Skips boundary rest t in
    let same : [] ≡ next = sym (next_is ∙ drop_all (length rest) rest (omega arith)) in
    passed_skip boundary text rest next so_far first (subst Q same (skip_none boundary rest (positive (length rest) some) (subst P is none)))
