-- The fields stand at their places.
use Rattle.std.proofs.Common.{◌≡◌, ℕ, ◌+◌, ◌-◌, ◌≤◌, Bool, true, false, cond, ◌==◌, Option, None, Some, List, [], ◌∷◌, ◌++◌, length, take, drop, get_or, map, refl, sym, ap, ◌∙◌, arith}
use Rattle.std.proofs.lemmas.List.{append-nil, append_assoc, take_at, drop_at, length-append, length-take-le, take-append-drop, get_or-append-add}
use Rattle.std.specs.List.{concat, filter_map, cons_option, slice_range}
use Rattle.mail_head.specs.Lines.{is_feed, lines_of, first_is_folded, onto_first, logical_lines, is_empty_line, header_lines, end_len}
use Rattle.mail_head.specs.Fields.{FieldText, IsField, field_of}
use Rattle.mail_head.specs.Heads.{header_of, fields_of, FieldPlace, place_in, with_place, places_from, places_of, text_at}
use Rattle.mail_head.proofs.LineLemmas.{concat-lines_of}
use Rattle.mail_head.proofs.FormLemmas.{field_is}

cond_le : (test : Bool) (x y n : ℕ) → x ≤ n → y ≤ n → cond test x y ≤ n
cond_le true x y n h k = h
cond_le false x y n h k = k

one_end : (octet : ℕ) → cond (octet == 10) (cond (octet == 13) 2 1) 0 ≤ 1
one_end octet = grind arith

-- a line end lies within its line
pub end_len-le : (line : List ℕ) → end_len line ≤ length line
end_len-le [] = omega arith
end_len-le (octet ∷ []) = one_end octet
end_len-le (octet ∷ (next ∷ more)) = cond_le (is_feed (get_or (octet ∷ (next ∷ more)) (length (octet ∷ (next ∷ more)) - 1) 0)) _ 0 _ (cond_le (get_or (octet ∷ (next ∷ more)) (length (octet ∷ (next ∷ more)) - 2) 0 == 13) 2 1 _ (omega arith) (omega arith)) (omega arith)

at_end : (front back : List ℕ) (i k : ℕ) → i ≡ length front + k → get_or (front ++ back) i 0 ≡ get_or back k 0
at_end front back i k is = rw is (get_or-append-add front back k 0)

one_octet : (octet : ℕ) → let with_feed : ℕ = cond (octet == 10) 1 0 in with_feed ≡ cond (octet == 10) (cond (octet == 13) 2 1) 0
one_octet octet = grind arith

-- a line ends as what follows its colon does
pub end_len-after : (front back : List ℕ) → end_len ((front ++ 58 ∷ []) ++ back) ≡ end_len back
end_len-after front [] =
    let whole : (front ++ 58 ∷ []) ++ [] ≡ front ++ 58 ∷ [] = append-nil (front ++ 58 ∷ []) in
    let size : length (front ++ 58 ∷ []) ≡ length front + 1 = length-append front (58 ∷ []) in
    let last : get_or (front ++ 58 ∷ []) (length (front ++ 58 ∷ []) - 1) 0 ≡ 58 = at_end front (58 ∷ []) (length (front ++ 58 ∷ []) - 1) 0 (omega (arith, size)) in
    rw (whole, last) refl
end_len-after front (octet ∷ []) =
    let before = front ++ 58 ∷ [] in
    let long : length before ≡ length front + 1 = length-append front (58 ∷ []) in
    let size : length (before ++ octet ∷ []) ≡ length before + 1 = length-append before (octet ∷ []) in
    let last : get_or (before ++ octet ∷ []) (length (before ++ octet ∷ []) - 1) 0 ≡ octet = at_end before (octet ∷ []) _ 0 (omega (arith, size)) in
    let moved : before ++ octet ∷ [] ≡ front ++ (58 ∷ octet ∷ []) = append_assoc front (58 ∷ []) (octet ∷ []) in
    let other : get_or (before ++ octet ∷ []) (length (before ++ octet ∷ []) - 2) 0 ≡ 58 =
    ap (λ t. get_or t (length (before ++ octet ∷ []) - 2) 0) moved ∙ at_end front (58 ∷ octet ∷ []) _ 0 (omega (arith, size, long)) in
    rw (last, other) (one_octet octet)
end_len-after front (octet ∷ (next ∷ more)) =
    let before = front ++ 58 ∷ [] in
    let back = octet ∷ (next ∷ more) in
    let size : length (before ++ back) ≡ length before + length back = length-append before back in
    let last : get_or (before ++ back) (length (before ++ back) - 1) 0 ≡ get_or back (length back - 1) 0 = at_end before back _ _ (omega (arith, size)) in
    let other : get_or (before ++ back) (length (before ++ back) - 2) 0 ≡ get_or back (length back - 2) 0 = at_end before back _ _ (omega (arith, size)) in
    rw (last, other) refl

slice_at : (front text back : List ℕ) (i j : ℕ) → i ≡ length front → j ≡ length front + length text → slice_range (front ++ (text ++ back)) i j ≡ text
slice_at front text back i j start end =
    let size : length text ≡ j - i = omega arith in
    ap (take (j - i)) (drop_at front (text ++ back) i (sym start)) ∙ take_at text back (j - i) size

same_field : (x y : FieldText) → x.name ≡ y.name → x.raw ≡ y.raw → x ≡ y
same_field x y p q = λ i. record { name = p i; raw = q i }

-- a field's texts are those at its place
pub field_placed : (before line after : List ℕ) (field : FieldText) → IsField line field → text_at (before ++ (line ++ after)) (place_in (length before) line field) ≡ field
field_placed before line after field is = same_field _ field name raw where
  name : slice_range (before ++ (line ++ after)) (length before) (length before + length field.name) ≡ field.name
  name =
      let split : line ++ after ≡ field.name ++ ((is.blanks ++ 58 ∷ is.after) ++ after) = ap (λ t. t ++ after) is.spelled ∙ append_assoc field.name (is.blanks ++ 58 ∷ is.after) after in
      ap (λ t. slice_range (before ++ t) (length before) (length before + length field.name)) split
      ∙ slice_at before field.name ((is.blanks ++ 58 ∷ is.after) ++ after) _ _ refl refl

  raw : slice_range (before ++ (line ++ after)) (length before + (length line - end_len line) - length field.raw) (length before + (length line - end_len line)) ≡ field.raw
  raw =
      let front = (field.name ++ is.blanks) ++ 58 ∷ [] in
      let whole : line ≡ front ++ is.after = is.spelled ∙ (sym (append_assoc field.name is.blanks (58 ∷ is.after)) ∙ sym (append_assoc (field.name ++ is.blanks) (58 ∷ []) is.after)) in
      let ending = drop (length is.after - end_len is.after) is.after in
      let parts : is.after ≡ field.raw ++ ending = sym (take-append-drop (length is.after - end_len is.after) is.after) ∙ ap (λ t. t ++ ending) (sym is.value) in
      let ends : end_len line ≡ end_len is.after = ap end_len whole ∙ end_len-after (field.name ++ is.blanks) is.after in
      let within = end_len-le is.after in
      let long : length field.raw ≡ length is.after - end_len is.after = ap length is.value ∙ length-take-le (length is.after - end_len is.after) is.after (omega arith) in
      let size : length line ≡ length front + length is.after = ap length whole ∙ length-append front is.after in
      let start : length (before ++ front) ≡ length before + length front = length-append before front in
      let split : before ++ (line ++ after) ≡ (before ++ front) ++ (field.raw ++ (ending ++ after)) =
      ap (λ t. before ++ (t ++ after)) whole
      ∙ (ap (λ t. before ++ ((front ++ t) ++ after)) parts
      ∙ (ap (λ t. before ++ t) (append_assoc front (field.raw ++ ending) after)
      ∙ (ap (λ t. before ++ (front ++ t)) (append_assoc field.raw ending after)
      ∙ sym (append_assoc before front (field.raw ++ (ending ++ after)))))) in
      ap (λ t. slice_range t (length before + (length line - end_len line) - length field.raw) (length before + (length line - end_len line))) split
      ∙ slice_at (before ++ front) field.raw (ending ++ after) _ _ (omega arith) (omega arith)

placed_step : (before line after : List ℕ) (found : Option FieldText) (places : List FieldPlace) (fields : List FieldText) → field_of line ≡ found
    → map (text_at (before ++ (line ++ after))) places ≡ fields
    → map (text_at (before ++ (line ++ after))) (with_place (length before) line found places) ≡ cons_option found fields
placed_step before line after None places fields none later = later
placed_step before line after (Some field) places fields some later =
    let here = field_placed before line after field (field_is line field some) in
    ap (λ t. t ∷ map (text_at (before ++ (line ++ after))) places) here ∙ ap (λ t. field ∷ t) later

-- the fields among logical lines stand at their places in a text that has these lines
pub places_from_placed : (before : List ℕ) (lines : List (List ℕ)) (after : List ℕ)
    → map (text_at (before ++ (concat lines ++ after))) (places_from (length before) lines) ≡ filter_map field_of lines
places_from_placed before [] after = refl
places_from_placed before (line ∷ more) after =
    let later = places_from_placed (before ++ line) more after in
    let size : length (before ++ line) ≡ length before + length line = length-append before line in
    let whole : (before ++ line) ++ (concat more ++ after) ≡ before ++ (line ++ (concat more ++ after)) = append_assoc before line (concat more ++ after) in
    let here : map (text_at (before ++ (line ++ (concat more ++ after)))) (places_from (length before + length line) more) ≡ filter_map field_of more =
    ap (λ t. map (text_at t) (places_from (length before + length line) more)) (sym whole) ∙ (ap (λ n. map (text_at ((before ++ line) ++ (concat more ++ after))) (places_from n more)) (sym size) ∙ later) in
    ap (λ t. map (text_at (before ++ t)) (places_from (length before) (line ∷ more))) (append_assoc line (concat more) after)
    ∙ placed_step before line (concat more ++ after) (field_of line) (places_from (length before + length line) more) (filter_map field_of more) refl here

concat-onto_first : (line : List ℕ) (texts : List (List ℕ)) → concat (onto_first line texts) ≡ line ++ concat texts
concat-onto_first line [] = refl
concat-onto_first line (next ∷ more) = append_assoc line next (concat more)

concat_choice : (test : Bool) (line : List ℕ) (texts : List (List ℕ)) → concat (cond test (onto_first line texts) (line ∷ texts)) ≡ line ++ concat texts
concat_choice true line texts = concat-onto_first line texts
concat_choice false line texts = refl

concat-logical_lines : (lines : List (List ℕ)) → concat (logical_lines lines) ≡ concat lines
concat-logical_lines [] = refl
concat-logical_lines (line ∷ more) = concat_choice (first_is_folded more) line (logical_lines more) ∙ ap (λ t. line ++ t) (concat-logical_lines more)

-- a text that stands before another one
record Begins (whole front : List ℕ) : Type 0 where
  rest : List ℕ
  spelled : whole ≡ front ++ rest

header_cut : (test : Bool) (line : List ℕ) (more header : List (List ℕ)) → Begins (concat more) (concat header) → Begins (line ++ concat more) (concat (cond test [] (line ∷ header)))
header_cut true line more header begins = record { rest = line ++ concat more; spelled = refl }
header_cut false line more header begins = record {
  rest = begins.rest;
  spelled = ap (λ t. line ++ t) begins.spelled ∙ sym (append_assoc line (concat header) begins.rest);
}

header_begins : (lines : List (List ℕ)) → Begins (concat lines) (concat (header_lines lines))
header_begins [] = record { rest = []; spelled = refl }
header_begins (line ∷ more) = header_cut (is_empty_line line) line more (header_lines more) (header_begins more)

-- the fields of a message stand at their places
pub fields_placed : (message : List ℕ) → map (text_at message) (places_of message) ≡ fields_of message
fields_placed message =
    let begins = header_begins (lines_of message) in
    let whole : message ≡ concat (header_of message) ++ begins.rest = sym (concat-lines_of message) ∙ (begins.spelled ∙ ap (λ t. t ++ begins.rest) (sym (concat-logical_lines (header_lines (lines_of message))))) in
    ap (λ t. map (text_at t) (places_of message)) whole ∙ places_from_placed [] (header_of message) begins.rest
