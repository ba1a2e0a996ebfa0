-- The sections of a multipart are those of the grammar.
use Rattle.std.proofs.Common.{◌≡◌, ℕ, inl, inr, true, false, List, [], ◌∷◌, ◌++◌, refl, sym, ap, ◌∙◌}
use Rattle.std.proofs.lemmas.List.{append-nil}
use Rattle.std.specs.List.{concat, list_all}
use Rattle.mail_head.specs.Lines.{without_end}
use Rattle.mail_parts.specs.Sections.{line_mark, is_section_mark, is_section_line, section_of, sections_by, sections_of}
use Rattle.mail_parts.specs.Multiparts.{SectionsStand, IsOpenSection}
use Rattle.mail_parts.specs.declared.section.LineMark.{LineMark}
use Rattle.mail_parts.specs.declared.section.LineMark.TheVariants.{Delimiter, Close}
use Rattle.mail_parts.proofs.SectionLemmas.{sections-passed, before-passed, not_all}

-- all sections of some lines that follow a delimiter
abbrev all_sections : List ℕ → List (List ℕ) → List (List ℕ)
all_sections boundary lines = section_of boundary lines ∷ sections_of boundary lines

pair : (x y : List ℕ) (xs ys : List (List ℕ)) → x ≡ y → xs ≡ ys → x ∷ xs ≡ y ∷ ys
pair x y xs ys e f = λ i. e i ∷ f i

open_section : (boundary text : List ℕ) (own rest lines : List (List ℕ)) → lines ≡ own ++ rest → list_all (is_section_line boundary) own ≡ true
    → IsOpenSection own rest text → text ∷ [] ≡ all_sections boundary lines
open_section boundary text own rest lines spelled inside is =
    let same : lines ≡ own = spelled ∙ (ap (λ r. own ++ r) is.0 ∙ append-nil own) in
    let section : section_of boundary own ≡ concat own = rw inside refl in
    let none : sections_of boundary own ≡ [] = ap (sections_of boundary) (sym (append-nil own)) ∙ sections-passed boundary own [] inside in
    pair text (section_of boundary own) [] (sections_of boundary own) (is.1 ∙ sym section) (sym none) ∙ ap (all_sections boundary) (sym same)

ended_section : (boundary text line : List ℕ) (mark : LineMark) (own rest later lines more : List (List ℕ)) → lines ≡ own ++ rest → list_all (is_section_line boundary) own ≡ true
    → rest ≡ line ∷ later → line_mark boundary line ≡ mark → is_section_mark mark ≡ false → text ≡ without_end (concat own)
    → more ≡ sections_by mark (section_of boundary later) (sections_of boundary later) → text ∷ more ≡ all_sections boundary lines
ended_section boundary text line mark own rest later lines more spelled inside is marked other text_is more_are =
    let same : lines ≡ own ++ line ∷ later = spelled ∙ ap (λ r. own ++ r) is in
    let boundary_line : is_section_line boundary line ≡ false = ap is_section_mark marked ∙ other in
    let all = not_all boundary own line later boundary_line in
    let before = before-passed boundary own line later inside boundary_line in
    let section : section_of boundary (own ++ line ∷ later) ≡ without_end (concat own) = rw (all, before) refl in
    let others : sections_of boundary (own ++ line ∷ later) ≡ sections_by mark (section_of boundary later) (sections_of boundary later) =
    sections-passed boundary own (line ∷ later) inside ∙ ap (λ m. sections_by m (section_of boundary later) (sections_of boundary later)) marked in
    pair text (section_of boundary (own ++ line ∷ later)) more (sections_of boundary (own ++ line ∷ later)) (text_is ∙ sym section) (more_are ∙ sym others)
    ∙ ap (all_sections boundary) (sym same)

-- what stands behind a delimiter is one list of sections, which are those of the definition
pub sections_stand : (boundary : List ℕ) (texts lines : List (List ℕ)) → SectionsStand boundary texts lines → texts ≡ all_sections boundary lines
sections_stand boundary [] lines stand = absurd stand
sections_stand boundary (text ∷ more) lines stand =
    elim stand.4 [
      | inl last ↦ ap (λ m. text ∷ m) last.0 ∙ open_section boundary text stand.0 stand.1 lines stand.2 stand.3 last.1
      | inr other ↦ elim other [
        | inl closed ↦
            let end = closed.1.1 in
            ended_section boundary text end.0 Close stand.0 stand.1 closed.1.0 lines more stand.2 stand.3 end.1 end.2 refl end.3 closed.0
        | inr next ↦
            let end = next.1 in
            ended_section boundary text end.0 Delimiter stand.0 stand.1 next.0 lines more stand.2 stand.3 end.1 end.2 refl end.3
            (sections_stand boundary more next.0 next.2)
      ]
    ]
