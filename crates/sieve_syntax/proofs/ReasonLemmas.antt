-- Lemmas on the reason of a `vacation`.
use Rattle.std.proofs.Common.{◌≡◌, ℕ, Bool, true, false, cond, ◌&&◌, ◌||◌, List, [], ◌∷◌, ◌++◌, Some, None, refl, sym, ap, ◌∙◌}
use Rattle.std.specs.List.{list_all, list_any, concat}
use Rattle.mail_head.specs.Lines.{lines_of, begins_blank, is_empty_line, logical_lines, header_lines}
use Rattle.mail_head.specs.Cuts.{CutsLogicalLine, after_empty}
use Rattle.mail_head.proofs.FoldLemmas.{and_left, and_right, blank_not_empty, header_step}
use Rattle.sieve_syntax.specs.Extension.Vacation.Reasons.{is_mime_line, is_entity}

no_empty : (test : Bool) (text : List ℕ) → cond test (Some text) None ≡ None → test ≡ false
no_empty true text h = absurd (cc h)
no_empty false text h = refl

any_folded : (others more : List (List ℕ)) → list_all begins_blank others ≡ true → list_any is_empty_line (others ++ more) ≡ list_any is_empty_line more
any_folded [] more all = refl
any_folded (line ∷ others) more all =
    let kept : is_empty_line line ≡ false = blank_not_empty line (and_left _ _ all) in
    ap (λ b. b || list_any is_empty_line (others ++ more)) kept ∙ any_folded others more (and_right _ _ all)

any_step : (text line after : List ℕ) → CutsLogicalLine text line after → after_empty (lines_of text) ≡ None → list_any is_empty_line (lines_of text) ≡ list_any is_empty_line (lines_of after)
any_step text line after cut none =
    let kept : is_empty_line cut.first ≡ false = no_empty (is_empty_line cut.first) (concat (cut.others ++ lines_of after)) (ap after_empty (sym cut.lines) ∙ none) in
    ap (list_any is_empty_line) cut.lines ∙ ap (λ b. b || list_any is_empty_line (cut.others ++ lines_of after)) kept ∙ any_folded cut.others (lines_of after) cut.folded

entity_cut : (text line after : List ℕ) → CutsLogicalLine text line after → after_empty (lines_of text) ≡ None → is_entity text ≡ list_any is_empty_line (lines_of after) && (is_mime_line line && list_all is_mime_line (logical_lines (header_lines (lines_of after))))
entity_cut text line after cut none =
    ap (λ b. b && list_all is_mime_line (logical_lines (header_lines (lines_of text)))) (any_step text line after cut none)
    ∙ ap (λ lines. list_any is_empty_line (lines_of after) && list_all is_mime_line lines) (header_step text line after cut none)

-- one logical line more, or one that is no MIME field
pub entity_step : (text line after : List ℕ) → CutsLogicalLine text line after → after_empty (lines_of text) ≡ None → is_mime_line line ≡ true → is_entity after ≡ is_entity text
entity_step text line after cut none is =
    sym (entity_cut text line after cut none ∙ ap (λ b. list_any is_empty_line (lines_of after) && (b && list_all is_mime_line (logical_lines (header_lines (lines_of after))))) is)

and_false : (b : Bool) → b && false ≡ false
and_false true = refl
and_false false = refl

pub entity_stop : (text line after : List ℕ) → CutsLogicalLine text line after → after_empty (lines_of text) ≡ None → is_mime_line line ≡ false → false ≡ is_entity text
entity_stop text line after cut none is =
    sym (entity_cut text line after cut none ∙ ap (λ b. list_any is_empty_line (lines_of after) && (b && list_all is_mime_line (logical_lines (header_lines (lines_of after))))) is ∙ and_false (list_any is_empty_line (lines_of after)))
