-- Lemmas on reading a header line by line.
use Rattle.std.proofs.Common.{◌≡◌, ℕ, Bool, true, false, cond, ◌==◌, None, Some, List, [], ◌∷◌, ◌++◌, refl, sym, ap, ◌∙◌}
use Rattle.std.proofs.lemmas.List.{append_assoc, map-append}
use Rattle.std.specs.List.{concat, filter_map, cons_option}
use Rattle.mail_head.specs.Lines.{at_front, lines_of, logical_lines, header_lines, body_lines}
use Rattle.mail_head.specs.Cuts.{CutsLogicalLine, after_empty, rest_after_feed}
use Rattle.mail_head.specs.Fields.{FieldText, field_of, field_text_of, field_texts_of}
use Rattle.mail_head.specs.Heads.{fields_of}
use Rattle.mail_head.specs.declared.header.Field.{Field}
use Rattle.mail_head.proofs.LineLemmas.{concat-lines_of}
use Rattle.mail_head.proofs.FoldLemmas.{header_step, body_step}

-- the fields among the header lines of these lines
abbrev pub fields_in : List (List ℕ) → List FieldText
fields_in lines = filter_map field_of (logical_lines (header_lines lines))

-- the fields so far, and what is left of the message
pub record IsRead (message : List ℕ) (fields : List Field) (rest : List ℕ) : Type 0 where
  pub fields_left : fields_of message ≡ field_texts_of fields ++ fields_in (lines_of rest)
  pub body_left : body_lines (lines_of message) ≡ body_lines (lines_of rest)

-- LF at the front is an empty line
pub after_empty-feed : (octet : ℕ) (rest : List ℕ) → octet ≡ 10 → after_empty (lines_of (octet ∷ rest)) ≡ Some rest
after_empty-feed octet rest feed = rw feed (ap Some (concat-lines_of rest))

after_return : (test : Bool) (next : ℕ) (more : List ℕ) (lines : List (List ℕ)) → (next == 10) ≡ test → concat lines ≡ more
    → after_empty (at_front 13 (cond test ((next ∷ []) ∷ lines) (at_front next lines))) ≡ cond test (Some more) None
after_return true next more lines feed all = rw feed (ap Some all)
after_return false next more [] other all = rw other refl
after_return false next more ([] ∷ rest) other all = rw other refl
after_return false next more ((octet ∷ line) ∷ rest) other all = refl

-- CR at the front is an empty line with an LF after it
pub after_empty-return : (octet : ℕ) (rest : List ℕ) → octet ≡ 13 → after_empty (lines_of (octet ∷ rest)) ≡ rest_after_feed rest
after_empty-return octet [] is = rw is refl
after_empty-return octet (next ∷ more) is = rw is (after_return (next == 10) next more (lines_of more) refl (concat-lines_of more))

fields_step : (rest line after : List ℕ) → CutsLogicalLine rest line after → after_empty (lines_of rest) ≡ None
    → fields_in (lines_of rest) ≡ cons_option (field_of line) (fields_in (lines_of after))
fields_step rest line after cut none = ap (filter_map field_of) (header_step rest line after cut none)

-- a logical line that is a field was read
pub read_some : (message : List ℕ) (fields pushed : List Field) (rest line after : List ℕ) (field : Field) → IsRead message fields rest
    → CutsLogicalLine rest line after → after_empty (lines_of rest) ≡ None → Some (field_text_of field) ≡ field_of line → pushed ≡ fields ++ field ∷ []
    → IsRead message pushed after
read_some message fields pushed rest line after field so_far cut none is same =
    let step = fields_step rest line after cut none in
    let found : fields_in (lines_of rest) ≡ field_text_of field ∷ fields_in (lines_of after) = step ∙ ap (λ o. cons_option o (fields_in (lines_of after))) (sym is) in
    let texts : field_texts_of pushed ≡ field_texts_of fields ++ field_text_of field ∷ [] = ap field_texts_of same ∙ map-append field_text_of fields (field ∷ []) in
    record {
      fields_left =
          so_far.fields_left ∙ (ap (λ t. field_texts_of fields ++ t) found
          ∙ (sym (append_assoc (field_texts_of fields) (field_text_of field ∷ []) (fields_in (lines_of after)))
          ∙ ap (λ t. t ++ fields_in (lines_of after)) (sym texts)));
      body_left = so_far.body_left ∙ body_step rest line after cut none;
    }

-- a logical line that is no field was passed over
pub read_none : (message : List ℕ) (fields : List Field) (rest line after : List ℕ) → IsRead message fields rest
    → CutsLogicalLine rest line after → after_empty (lines_of rest) ≡ None → None ≡ field_of line → IsRead message fields after
read_none message fields rest line after so_far cut none is =
    let step = fields_step rest line after cut none in
    let found : fields_in (lines_of rest) ≡ fields_in (lines_of after) = step ∙ ap (λ o. cons_option o (fields_in (lines_of after))) (sym is) in
    record {
      fields_left = so_far.fields_left ∙ ap (λ t. field_texts_of fields ++ t) found;
      body_left = so_far.body_left ∙ body_step rest line after cut none;
    }
