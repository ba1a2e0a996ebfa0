-- Lemmas on the first field with a name, and on the body.
use Rattle.std.proofs.Common.{◌≡◌, ℕ, Bool, true, false, cond, Option, None, Some, List, [], ◌∷◌, refl, sym, ap, ◌∙◌}
use Rattle.std.specs.Str.{str_eq_ignore_ascii_case}
use Rattle.std.specs.List.{concat, filter_map, cons_option}
use Rattle.mail_head.specs.Lines.{lines_of, is_empty_line, logical_lines, header_lines, body_lines}
use Rattle.mail_head.specs.Cuts.{CutsLogicalLine, after_empty}
use Rattle.mail_head.specs.Fields.{FieldText, field_of}
use Rattle.mail_head.specs.Heads.{fields_of, body_of}
use Rattle.mail_head.proofs.FoldLemmas.{header_step, body_step}
use Rattle.mail_parts.specs.MediaTypes.{value_or}
use Rattle.mail_parts.specs.Entities.{raw_if_named, first_named}

either : (test : Bool) (raw : List ℕ) (more : Option (List ℕ)) → cond test (Some raw) more ≡ value_or (cond test (Some raw) None) more
either true raw more = refl
either false raw more = refl

named_first : (name : List ℕ) (field : Option FieldText) (more : List FieldText) → first_named name (cons_option field more) ≡ value_or (raw_if_named name field) (first_named name more)
named_first name None more = refl
named_first name (Some field) more = either (str_eq_ignore_ascii_case field.name name) field.raw (first_named name more)

fields_step : (rest line after : List ℕ) → CutsLogicalLine rest line after → after_empty (lines_of rest) ≡ None → fields_of rest ≡ cons_option (field_of line) (fields_of after)
fields_step rest line after cut none = ap (filter_map field_of) (header_step rest line after cut none)

or_or : (found next later : Option (List ℕ)) → value_or (value_or found next) later ≡ value_or found (value_or next later)
or_or None next later = refl
or_or (Some raw) next later = refl

or_none : (found : Option (List ℕ)) → value_or found None ≡ found
or_none None = refl
or_none (Some raw) = refl

-- a field was read: what it has of that name counts if none before it has
pub found_more : (name rest line after : List ℕ) (field : Option FieldText) (found next pair all : Option (List ℕ)) → CutsLogicalLine rest line after
    → None ≡ after_empty (lines_of rest) → field ≡ field_of line → next ≡ raw_if_named name field → pair ≡ value_or found next
    → value_or found (first_named name (fields_of rest)) ≡ all → value_or pair (first_named name (fields_of after)) ≡ all
found_more name rest line after field found next pair all cut none read next_is pair_is so_far =
    let later = first_named name (fields_of after) in
    let step : first_named name (fields_of rest) ≡ value_or (raw_if_named name (field_of line)) later =
    ap (first_named name) (fields_step rest line after cut (sym none)) ∙ named_first name (field_of line) (fields_of after) in
    let own : next ≡ raw_if_named name (field_of line) = next_is ∙ ap (raw_if_named name) read in
    ap (λ f. value_or f later) pair_is
    ∙ (or_or found next later
    ∙ (ap (λ f. value_or found (value_or f later)) own
    ∙ (ap (value_or found) (sym step) ∙ so_far)))

-- no field is left
pub found_all : (name rest : List ℕ) (found all : Option (List ℕ)) → first_named name (fields_of rest) ≡ None → value_or found (first_named name (fields_of rest)) ≡ all → found ≡ all
found_all name rest found all none so_far = sym (or_none found) ∙ (ap (value_or found) (sym none) ∙ so_far)

-- at the end of the text
pub found_end : (name rest : List ℕ) (found all : Option (List ℕ)) → rest ≡ [] → value_or found (first_named name (fields_of rest)) ≡ all → found ≡ all
found_end name rest found all is so_far = found_all name rest found all (ap (λ t. first_named name (fields_of t)) is) so_far

test_of : (test : Bool) (text x : List ℕ) → cond test (Some text) None ≡ Some x → (test ≡ true) × (text ≡ x)
test_of true text x same = (refl, cc same)
test_of false text x same = cc same

no_lines : (lines : List (List ℕ)) (x : List ℕ) → after_empty lines ≡ Some x → header_lines lines ≡ []
no_lines [] x same = refl
no_lines (line ∷ more) x same = let t = test_of (is_empty_line line) (concat more) x same in rw (t.0) refl

body_there : (lines : List (List ℕ)) (x : List ℕ) → after_empty lines ≡ Some x → concat (body_lines lines) ≡ x
body_there [] x same = cc same
body_there (line ∷ more) x same = let t = test_of (is_empty_line line) (concat more) x same in rw (t.0) t.1

-- the header ends here
pub found_nowhere : (name rest x : List ℕ) → Some x ≡ after_empty (lines_of rest) → first_named name (fields_of rest) ≡ None
found_nowhere name rest x end = ap (λ lines. first_named name (filter_map field_of (logical_lines lines))) (no_lines (lines_of rest) x (sym end))

pub body_here : (rest x : List ℕ) → Some x ≡ after_empty (lines_of rest) → x ≡ body_of rest
body_here rest x end = sym (body_there (lines_of rest) x (sym end))

pub body_later : (rest line after : List ℕ) → CutsLogicalLine rest line after → None ≡ after_empty (lines_of rest) → body_of after ≡ body_of rest
body_later rest line after cut none = ap concat (sym (body_step rest line after cut (sym none)))
