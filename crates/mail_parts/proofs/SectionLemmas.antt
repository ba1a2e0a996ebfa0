-- Lemmas on sections.
use Rattle.std.proofs.Common.{◌≡◌, ℕ, ◌+◌, ◌-◌, ◌<◌, Bool, true, false, ◌&&◌, None, Some, List, [], ◌∷◌, ◌++◌, length, take, refl, sym, ap, ◌∙◌, arith}
use Rattle.std.proofs.lemmas.List.{append_assoc, append-nil, take_at, length-append}
use Rattle.std.proofs.lemmas.List.Folds.{list_all-append, concat-append}
use Rattle.std.specs.List.{concat, list_all}
use Rattle.mail_head.specs.Lines.{lines_of, without_end}
use Rattle.mail_head.specs.Cuts.{CutsLine}
use Rattle.mail_head.proofs.FoldLemmas.{and_true, and_left, and_right}
use Rattle.mail_head.proofs.LineLemmas.{concat-lines_of}
use Rattle.std.specs.Prelude.{codes, option_and_then}
use Rattle.mail_parts.specs.Sections.{behind, mark_if_behind, line_mark, is_section_mark, is_section_line, lines_before, section_of, sections_by, sections_of, epilogue_by, epilogue_of}
use Rattle.mail_parts.specs.Cutting.{sections_behind, epilogue_behind}
use Rattle.mail_parts.specs.declared.section.LineMark.{LineMark}
use Rattle.mail_parts.specs.declared.section.LineMark.TheVariants.{Inside, Delimiter, Close}

-- a line that doesn't begin with two hyphens
pub mark_outside : (boundary line : List ℕ) → None ≡ behind (codes "--") line → Inside ≡ line_mark boundary line
unfolding line_mark
mark_outside boundary line none = ap (λ o. mark_if_behind (option_and_then (behind boundary) o)) none

-- one that does
pub mark_dashed : (boundary line after : List ℕ) → Some after ≡ behind (codes "--") line → mark_if_behind (behind boundary after) ≡ line_mark boundary line
unfolding line_mark
mark_dashed boundary line after there = ap (λ o. mark_if_behind (option_and_then (behind boundary) o)) there

-- some lines of a text were passed, none of them a boundary line
pub record HasPassed (boundary text rest : List ℕ) : Type 0 where
  pub passed : List (List ℕ)
  pub lines : lines_of text ≡ passed ++ lines_of rest
  pub spelled : text ≡ concat passed ++ rest
  pub inside : list_all (is_section_line boundary) passed ≡ true

pub passed_none : (boundary text : List ℕ) → HasPassed boundary text text
passed_none boundary text = record { passed = []; lines = refl; spelled = refl; inside = refl }

pub passed_more : (boundary text rest line after : List ℕ) → HasPassed boundary text rest → CutsLine rest line after
    → is_section_mark (line_mark boundary line) ≡ true → HasPassed boundary text after
passed_more boundary text rest line after so_far cut inside = record {
  passed = so_far.passed ++ line ∷ [];
  lines = so_far.lines ∙ (ap (λ l. so_far.passed ++ l) cut.first ∙ sym (append_assoc so_far.passed (line ∷ []) (lines_of after)));
  spelled =
      let all = concat-append so_far.passed (line ∷ []) in
      so_far.spelled ∙ (ap (λ t. concat so_far.passed ++ t) cut.spelled
      ∙ (sym (append_assoc (concat so_far.passed) line after)
      ∙ ap (λ t. t ++ after) (ap (λ t. concat so_far.passed ++ t) (sym (append-nil line)) ∙ sym all)));
  inside = list_all-append (is_section_line boundary) so_far.passed (line ∷ []) ∙ and_true _ _ so_far.inside (and_true _ _ inside refl);
}

-- its octets are the front of the text
pub passed_front : (boundary text rest : List ℕ) (so_far : HasPassed boundary text rest) → take (length text - length rest) text ≡ concat so_far.passed
passed_front boundary text rest so_far =
    let size : length text ≡ length (concat so_far.passed) + length rest = ap length so_far.spelled ∙ length-append (concat so_far.passed) rest in
    ap (take (length text - length rest)) so_far.spelled ∙ take_at (concat so_far.passed) rest (length text - length rest) (omega arith)

inside_is : (mark : LineMark) → is_section_mark mark ≡ true → mark ≡ Inside
inside_is Inside is = refl
inside_is Delimiter is = absurd (cc is)
inside_is Close is = absurd (cc is)

-- lines that are no boundary lines have no sections behind them
pub sections-passed : (boundary : List ℕ) (passed lines : List (List ℕ)) → list_all (is_section_line boundary) passed ≡ true
    → sections_of boundary (passed ++ lines) ≡ sections_of boundary lines
sections-passed boundary [] lines inside = refl
sections-passed boundary (line ∷ passed) lines inside =
    let mark = inside_is (line_mark boundary line) (and_left _ _ inside) in
    let later = sections-passed boundary passed lines (and_right _ _ inside) in
    ap (λ m. sections_by m (section_of boundary (passed ++ lines)) (sections_of boundary (passed ++ lines))) mark ∙ later

pub before-passed : (boundary : List ℕ) (passed : List (List ℕ)) (line : List ℕ) (more : List (List ℕ)) → list_all (is_section_line boundary) passed ≡ true
    → is_section_line boundary line ≡ false → lines_before boundary (passed ++ line ∷ more) ≡ passed
before-passed boundary [] line more inside other = rw other refl
before-passed boundary (first ∷ passed) line more inside other =
    let is : is_section_line boundary first ≡ true = and_left _ _ inside in
    let later = before-passed boundary passed line more (and_right _ _ inside) other in
    rw (is, later) refl

and_false : (a b : Bool) → b ≡ false → (a && b) ≡ false
and_false true b is = is
and_false false b is = refl

pub not_all : (boundary : List ℕ) (passed : List (List ℕ)) (line : List ℕ) (more : List (List ℕ)) → is_section_line boundary line ≡ false
    → list_all (is_section_line boundary) (passed ++ line ∷ more) ≡ false
not_all boundary passed line more other =
    list_all-append (is_section_line boundary) passed (line ∷ more)
    ∙ and_false (list_all (is_section_line boundary) passed) _ (ap (λ t. t && list_all (is_section_line boundary) more) other)

sections-at : (mark : LineMark) (boundary after : List ℕ) → is_section_mark mark ≡ false
    → sections_by mark (section_of boundary (lines_of after)) (sections_of boundary (lines_of after)) ≡ sections_behind mark boundary after
sections-at Inside boundary after other = absurd (cc other)
sections-at Delimiter boundary after other = refl
sections-at Close boundary after other = refl

-- a boundary line ends the section
pub cut_there : (boundary text rest line after front section : List ℕ) (mark : LineMark) → HasPassed boundary text rest → CutsLine rest line after
    → mark ≡ line_mark boundary line → is_section_mark mark ≡ false → front ≡ take (length text - length rest) text → section ≡ without_end front
    → (section ≡ section_of boundary (lines_of text)) × (sections_of boundary (lines_of text) ≡ sections_behind mark boundary after)
cut_there boundary text rest line after front section mark so_far cut is other front_is section_is =
    let boundary_line : is_section_line boundary line ≡ false = ap is_section_mark (sym is) ∙ other in
    let lines : lines_of text ≡ so_far.passed ++ line ∷ lines_of after = so_far.lines ∙ ap (λ l. so_far.passed ++ l) cut.first in
    let all = not_all boundary so_far.passed line (lines_of after) boundary_line in
    let before = before-passed boundary so_far.passed line (lines_of after) so_far.inside boundary_line in
    let own : section_of boundary (so_far.passed ++ line ∷ lines_of after) ≡ without_end (concat so_far.passed) = rw (all, before) refl in (
      section_is ∙ (ap without_end (front_is ∙ passed_front boundary text rest so_far) ∙ (sym own ∙ ap (section_of boundary) (sym lines))),
      ap (sections_of boundary) lines
          ∙ (sections-passed boundary so_far.passed (line ∷ lines_of after) so_far.inside
          ∙ (ap (λ m. sections_by m (section_of boundary (lines_of after)) (sections_of boundary (lines_of after))) (sym is)
          ∙ sections-at mark boundary after other)),
    )

-- no boundary line does
pub cut_nowhere : (boundary text rest : List ℕ) → HasPassed boundary text rest → rest ≡ []
    → (text ≡ section_of boundary (lines_of text)) × (sections_of boundary (lines_of text) ≡ [])
cut_nowhere boundary text rest so_far none =
    let lines : lines_of text ≡ so_far.passed = so_far.lines ∙ (ap (λ t. so_far.passed ++ lines_of t) none ∙ append-nil so_far.passed) in
    let all : list_all (is_section_line boundary) (lines_of text) ≡ true = ap (list_all (is_section_line boundary)) lines ∙ so_far.inside in (
      rw all (sym (concat-lines_of text)),
      ap (sections_of boundary) (lines ∙ sym (append-nil so_far.passed)) ∙ sections-passed boundary so_far.passed [] so_far.inside,
    )

-- nor do they have an epilogue
epilogue-passed : (boundary : List ℕ) (passed lines : List (List ℕ)) → list_all (is_section_line boundary) passed ≡ true
    → epilogue_of boundary (passed ++ lines) ≡ epilogue_of boundary lines
epilogue-passed boundary [] lines inside = refl
epilogue-passed boundary (line ∷ passed) lines inside =
    let mark = inside_is (line_mark boundary line) (and_left _ _ inside) in
    let later = epilogue-passed boundary passed lines (and_right _ _ inside) in
    ap (λ m. epilogue_by m (passed ++ lines) (epilogue_of boundary (passed ++ lines))) mark ∙ later

epilogue-at : (mark : LineMark) (boundary after : List ℕ) → is_section_mark mark ≡ false
    → epilogue_by mark (lines_of after) (epilogue_of boundary (lines_of after)) ≡ epilogue_behind mark boundary after
epilogue-at Inside boundary after other = absurd (cc other)
epilogue-at Delimiter boundary after other = refl
epilogue-at Close boundary after other = concat-lines_of after

-- the epilogue, where a boundary line ends the section
pub epilogue_there : (boundary text rest line after : List ℕ) (mark : LineMark) → HasPassed boundary text rest → CutsLine rest line after
    → mark ≡ line_mark boundary line → is_section_mark mark ≡ false
    → (epilogue_of boundary (lines_of text) ≡ epilogue_behind mark boundary after) × (length after < length text)
epilogue_there boundary text rest line after mark so_far cut is other =
    let lines : lines_of text ≡ so_far.passed ++ line ∷ lines_of after = so_far.lines ∙ ap (λ l. so_far.passed ++ l) cut.first in
    let all : length text ≡ length (concat so_far.passed) + length rest = ap length so_far.spelled ∙ length-append (concat so_far.passed) rest in
    let own : length rest ≡ length line + length after = ap length cut.spelled ∙ length-append line after in (
      ap (epilogue_of boundary) lines
          ∙ (epilogue-passed boundary so_far.passed (line ∷ lines_of after) so_far.inside
          ∙ (ap (λ m. epilogue_by m (lines_of after) (epilogue_of boundary (lines_of after))) (sym is)
          ∙ epilogue-at mark boundary after other)),
      omega (arith, all, own, cut.present),
    )

-- and where none does
pub epilogue_nowhere : (boundary text rest : List ℕ) → HasPassed boundary text rest → rest ≡ [] → epilogue_of boundary (lines_of text) ≡ []
epilogue_nowhere boundary text rest so_far none =
    let lines : lines_of text ≡ so_far.passed = so_far.lines ∙ (ap (λ t. so_far.passed ++ lines_of t) none ∙ append-nil so_far.passed) in
    ap (epilogue_of boundary) (lines ∙ sym (append-nil so_far.passed)) ∙ epilogue-passed boundary so_far.passed [] so_far.inside
