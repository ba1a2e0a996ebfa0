-- Lines on messages.
use Rattle.std.proofs.Common.{◌≡◌, ◌∙◌, ℕ, Bool, true, false, cond, List, [], ◌∷◌, ◌++◌, Option, Some, Result, Ok, Err, IfOk, OnOk, refl, sym, ap}
use Rattle.std.specs.Prelude.{option_map}
use Rattle.std.specs.List.{find}
use Rattle.daemon_log.specs.Lines.{Pair, line_start, log_line_of, pair_text, with_pairs}
use Rattle.mail_head.specs.Fields.{FieldText, field_text_of, field_texts_of}
use Rattle.mail_head.specs.declared.header.Field.{Field}
use Rattle.daemon_host.specs.MessageIds.{is_id_field}
use Rattle.maildir_moves.specs.declared.moving.Stay.{Stay}
use Rattle.daemon_host.specs.Log.{stay_line, IsWhy, IsStayLine, IsStayBy}

-- some reason stands there
pub some_why : {E : Type 0} (result : Result (List ℕ) E) (stay : Stay) (why : List ℕ) → IsWhy stay.why why → IfOk result (λ line. line ≡ stay_line stay.user stay.folder why)
    → IfOk result (λ line. IsStayLine stay line)
some_why (Ok line) stay why so is = (why, so, is)
some_why (Err error) stay why so is = is

-- it is told where its folder hadn't failed before
pub told_first : {E : Type 0} (result : Result (List ℕ) E) (stay : Stay) (first : Bool) → first ≡ true → IfOk result (λ line. IsStayLine stay line)
    → IfOk result (λ line. IsStayBy first stay line)
told_first result stay true is told = told
told_first result stay false is told = let never : ⊥ = cc in absurd never

-- pairs behind others
pub pairs_append : (front : List ℕ) (some more : List Pair) → with_pairs front (some ++ more) ≡ with_pairs (with_pairs front some) more
pairs_append front [] more = refl
pairs_append front (p ∷ some) more = pairs_append (front ++ pair_text p.name p.value) some more

-- pairs of four kinds, one behind the other
pub four_kinds : {A E : Type 0} (result : Result A E) (l0 l1 l2 l3 l4 : List ℕ) (a b c d : List Pair) → l1 ≡ with_pairs l0 a → l2 ≡ with_pairs l1 b → l3 ≡ with_pairs l2 c
    → OnOk result (l4 ≡ with_pairs l3 d) → OnOk result (l4 ≡ with_pairs l0 (a ++ (b ++ (c ++ d))))
four_kinds (Ok done) l0 l1 l2 l3 l4 a b c d first second third last =
    last ∙ (ap (λ l. with_pairs l d) (third ∙ ap (λ l. with_pairs l c) (second ∙ ap (λ l. with_pairs l b) first))
    ∙ (sym (pairs_append (with_pairs (with_pairs l0 a) b) c d) ∙ (sym (pairs_append (with_pairs l0 a) b (c ++ d)) ∙ sym (pairs_append l0 a (b ++ (c ++ d))))))
four_kinds (Err error) l0 l1 l2 l3 l4 a b c d first second third last = last

-- a line of three pairs and some more
pub three_and_more : {E : Type 0} (result : Result (List ℕ) E) (word l0 l1 l2 l3 l4 : List ℕ) (p q r : Pair) (more : List Pair) → l0 ≡ line_start word
    → l1 ≡ l0 ++ pair_text p.name p.value → l2 ≡ l1 ++ pair_text q.name q.value → l3 ≡ l2 ++ pair_text r.name r.value → l4 ≡ with_pairs l3 more
    → IfOk result (λ whole. whole ≡ l4 ++ 10 ∷ []) → IfOk result (λ line. line ≡ log_line_of word (p ∷ (q ∷ (r ∷ more))))
three_and_more (Ok line) word l0 l1 l2 l3 l4 p q r more begins first second third rest ends =
    ends ∙ ap (λ l. l ++ 10 ∷ []) (rest ∙ ap (λ l. with_pairs l more)
    (third ∙ ap (λ l. l ++ pair_text r.name r.value) (second ∙ ap (λ l. l ++ pair_text q.name q.value) (first ∙ ap (λ l. l ++ pair_text p.name p.value) begins))))
three_and_more (Err error) word l0 l1 l2 l3 l4 p q r more begins first second third rest ends = ends

-- pairs of two kinds
pub two_kinds : (l0 l1 l2 : List ℕ) (a b : List Pair) → l1 ≡ with_pairs l0 a → l2 ≡ with_pairs l1 b → l2 ≡ with_pairs l0 (a ++ b)
two_kinds l0 l1 l2 a b first second = second ∙ (ap (λ l. with_pairs l b) first ∙ sym (pairs_append l0 a b))

-- ---- a message's own name

choose_text : (is : Bool) (field : Field) (left : Option Field) (found : Option FieldText) → option_map field_text_of left ≡ found
    → option_map field_text_of (cond is (Some field) left) ≡ cond is (Some (field_text_of field)) found
choose_text true field left found same = refl
choose_text false field left found same = same

pub found_in_texts : (fields : List Field) → option_map field_text_of (find (λ field. is_id_field (field_text_of field)) fields) ≡ find is_id_field (field_texts_of fields)
found_in_texts [] = refl
found_in_texts (field ∷ rest) = choose_text (is_id_field (field_text_of field)) field _ _ (found_in_texts rest)
