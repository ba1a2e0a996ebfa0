-- The sequences that are decoded are those of the grammar.
use Rattle.std.proofs.Common.{◌≡◌, ◌≢◌, ◌||◌, ◌&&◌, ◌+◌, ◌<◌, ℕ, Bool, true, false, cond, Some, None, List, [], ◌∷◌, ◌++◌, length, take, drop, get_or, map, append_assoc, refl, sym, ap, ◌∙◌, inl, inr, arith}
use Rattle.std.proofs.Common.{length-append}
use Rattle.std.specs.Prelude.{◌==◌, nat_eq, nat_le, codes}
use Rattle.std.specs.List.{list_all, list_any, flat_map}
use Rattle.std.specs.Cmp.Lexicographic.{pointwise, bytes_decides}
use Rattle.std.proofs.Math.Seq.{take-append_seam, drop-append_seam, get_or-append_seam}
use Rattle.std.proofs.lemmas.Bool.{le-leb, cases_lt}
use Rattle.std.proofs.lemmas.List.{append-nil, drop_more, take-map, length-map, take-append-le, take-append-drop}
use Rattle.std.proofs.Math.ListN.{get_or-eq_default}
use Rattle.std.proofs.lemmas.List.Folds.{list_all-append, list_any-append}
use Rattle.std.proofs.lemmas.Grind.{common_steps}
use Rattle.octets.specs.Ascii.{lowered}
use Rattle.sieve_lex.specs.declared.encoded.Coding.{Coding}
use Rattle.sieve_lex.specs.declared.encoded.Coding.TheVariants.{Hex, Unicode}
use Rattle.sieve_lex.specs.declared.encoded.Sequence.TheVariants.{Absent}
use Rattle.sieve_lex.specs.Class.{is_white}
use Rattle.sieve_lex.specs.Encoded.{is_hex, is_inner, inner_len, is_closed, words_value, words_from, begins_with, opening_of, sequence_with, closed_by, sequence_at}
use Rattle.sieve_lex.specs.Rows.{Numeral, AreNumerals, numeral_spelling, AreNumeralWords, sequence_opening, IsSequence, BeginsWithSequence}
use Rattle.sieve_lex.proofs.Prefixes.{both, prefix_len-passed, prefix_all}
use Rattle.sieve_lex.proofs.RowLemmas.{and_true, hex_not_white, row_words, words_are}

-- ---- how it opens

front_long : (word front : List ℕ) → lowered front ≡ lowered word → length word ≡ length front
front_long word front same = sym (ap length same ∙ length-map word _) ∙ length-map front _

begins_so : (word front rest : List ℕ) → lowered front ≡ lowered word → begins_with word (front ++ rest) ≡ true
begins_so word front rest same =
    let n = front_long word front same in
    let taken : take (length word) (front ++ rest) ≡ front = ap (λ k. take k (front ++ rest)) n ∙ take-append_seam front rest in
    and_true _ _ (le-leb _ _ (omega (arith, n, length-append front rest))) ((bytes_decides _ _).1 (ap lowered taken ∙ same))

and_false : (a : Bool) → (a && false) ≡ false
and_false true = refl
and_false false = refl

unicode_no_hex : (front rest : List ℕ) → lowered front ≡ sequence_opening Unicode → begins_with (codes "${hex:") (front ++ rest) ≡ false
unicode_no_hex front rest same =
    let n = front_long (codes "${unicode:") front same in
    let taken : lowered (take 6 (front ++ rest)) ≡ codes "${unic" =
    ap lowered (take-append-le 6 front rest (omega (arith, n))) ∙ sym (take-map _ 6 front) ∙ ap (take 6) same in
    ap (λ l. nat_le 6 (length (front ++ rest)) && pointwise nat_eq l (codes "${hex:")) taken ∙ and_false (nat_le 6 (length (front ++ rest)))

opening_is : (coding : Coding) (front rest : List ℕ) → lowered front ≡ sequence_opening coding → opening_of (front ++ rest) ≡ Some (coding, length front)
opening_is Hex front rest same =
    ap (λ b. cond b (Some (Hex, 6)) (cond (begins_with (codes "${unicode:") (front ++ rest)) (Some (Unicode, 10)) None)) (begins_so (codes "${hex:") front rest same)
    ∙ ap (λ n. Some (Hex, n)) (front_long (codes "${hex:") front same)
opening_is Unicode front rest same =
    ap (λ b. cond b (Some (Hex, 6)) (cond (begins_with (codes "${unicode:") (front ++ rest)) (Some (Unicode, 10)) None)) (unicode_no_hex front rest same)
    ∙ ap (λ b. cond b (Some (Unicode, 10)) None) (begins_so (codes "${unicode:") front rest same)
    ∙ ap (λ n. Some (Unicode, n)) (front_long (codes "${unicode:") front same)

-- ---- what is inside

inner_white : (s : List ℕ) → list_all is_white s ≡ true → list_all is_inner s ≡ true
inner_white [] all = refl
inner_white (b ∷ s) all = let parts = both _ _ all in and_true _ _ (or_right (is_hex b) (is_white b) parts.0) (inner_white s parts.1)
  where
    or_right : (x y : Bool) → y ≡ true → (x || y) ≡ true
    or_right true y is = refl
    or_right false y is = is

inner_hex : (s : List ℕ) → list_all is_hex s ≡ true → list_all is_inner s ≡ true
inner_hex [] all = refl
inner_hex (b ∷ s) all = let parts = both _ _ all in and_true _ _ (ap (λ x. x || is_white b) parts.0) (inner_hex s parts.1)

inner_two : (s t : List ℕ) → list_all is_inner s ≡ true → list_all is_inner t ≡ true → list_all is_inner (s ++ t) ≡ true
inner_two s t one two = list_all-append is_inner s t ∙ and_true _ _ one two

inner_numerals : (numerals : List Numeral) → AreNumerals numerals → list_all is_inner (flat_map numeral_spelling numerals) ≡ true
inner_numerals [] are = refl
inner_numerals (n ∷ []) are = inner_two (n.word ++ n.blanks) [] (inner_two n.word n.blanks (inner_hex n.word are.digits) (inner_white n.blanks are.white)) refl
inner_numerals (n ∷ (next ∷ more)) (is, (parted, others)) =
    inner_two (n.word ++ n.blanks) (flat_map numeral_spelling (next ∷ more)) (inner_two n.word n.blanks (inner_hex n.word is.digits) (inner_white n.blanks is.white)) (inner_numerals (next ∷ more) others)

pub row_inner : (s : List ℕ) (words : List (List ℕ)) → AreNumeralWords s words → list_all is_inner s ≡ true
row_inner s words row =
    ap (list_all is_inner) row.spelled ∙ inner_two row.lead (flat_map numeral_spelling row.numerals) (inner_white row.lead row.blank) (inner_numerals row.numerals row.each)

any_first : (word rest : List ℕ) → word ≢ [] → list_all is_hex word ≡ true → list_any is_hex (word ++ rest) ≡ true
any_first [] rest some all = absurd (some refl)
any_first (b ∷ word) rest some all = ap (λ x. x || list_any is_hex (word ++ rest)) (both _ _ all).0

any_right : (s t : List ℕ) → list_any is_hex t ≡ true → list_any is_hex (s ++ t) ≡ true
any_right s t is = list_any-append is_hex s t ∙ or_true (list_any is_hex s) (list_any is_hex t) is
  where
    or_true : (x y : Bool) → y ≡ true → (x || y) ≡ true
    or_true true y is = refl
    or_true false y is = is

numerals_any : (numerals : List Numeral) → AreNumerals numerals → map (λ n. n.word) numerals ≢ [] → list_any is_hex (flat_map numeral_spelling numerals) ≡ true
numerals_any [] are some = absurd (some refl)
numerals_any (n ∷ []) are some = ap (list_any is_hex) (append_assoc n.word n.blanks []) ∙ any_first n.word (n.blanks ++ []) are.some are.digits
numerals_any (n ∷ (next ∷ more)) (is, others) some =
    let rest = flat_map numeral_spelling (next ∷ more) in ap (list_any is_hex) (append_assoc n.word n.blanks rest) ∙ any_first n.word (n.blanks ++ rest) is.some is.digits

row_any : (s : List ℕ) (words : List (List ℕ)) → AreNumeralWords s words → words ≢ [] → list_any is_hex s ≡ true
row_any s words row some =
    ap (list_any is_hex) row.spelled ∙ any_right row.lead (flat_map numeral_spelling row.numerals) (numerals_any row.numerals row.each (λ e. some (row.named ∙ e)))

-- ---- a sequence of the grammar is read

module _ (row rest : List ℕ) (words : List (List ℕ)) (is : AreNumeralWords row words) (some : words ≢ []) where
  inner_is_row : inner_len (row ++ 125 ∷ rest) ≡ length row
  inner_is_row = let e = prefix_len-passed is_inner row (125 ∷ rest) (row_inner row words is) in omega (arith, e)

  row_taken : take (inner_len (row ++ 125 ∷ rest)) (row ++ 125 ∷ rest) ≡ row
  row_taken = ap (λ n. take n (row ++ 125 ∷ rest)) inner_is_row ∙ take-append_seam row (125 ∷ rest)

  row_closed : is_closed (row ++ 125 ∷ rest) ≡ true
  row_closed =
      let brace : get_or (row ++ 125 ∷ rest) (inner_len (row ++ 125 ∷ rest)) 0 ≡ 125 = ap (λ n. get_or (row ++ 125 ∷ rest) n 0) inner_is_row ∙ get_or-append_seam row 125 rest 0 in
      and_true _ _ (ap (λ b. b == 125) brace) (ap (list_any is_hex) row_taken ∙ row_any row words is some)

pub sequence_read : (coding : Coding) (s rest : List ℕ) (words : List (List ℕ)) → IsSequence coding s words → sequence_at (s ++ rest) ≡ sequence_with coding (length s) (words_value coding words)
sequence_read coding s rest words q =
    let after : List ℕ = q.row ++ 125 ∷ rest in
    let text : s ++ rest ≡ q.front ++ after =
    ap (λ t. t ++ rest) q.spelled ∙ append_assoc q.front (q.row ++ 125 ∷ []) rest ∙ ap (λ t. q.front ++ t) (append_assoc q.row (125 ∷ []) rest) in
    let opens : opening_of (q.front ++ after) ≡ Some (coding, length q.front) = opening_is coding q.front after q.opens in
    let behind : drop (length q.front) (q.front ++ after) ≡ after = drop-append_seam q.front after in
    let read : words_from [] (take (inner_len after) after) ≡ words = ap (words_from []) (row_taken q.row rest words q.numbers q.some) ∙ row_words q.row words q.numbers in
    let len : length q.front + inner_len after + 1 ≡ length s =
    omega (arith, inner_is_row q.row rest words q.numbers q.some, ap length q.spelled, length-append q.front (q.row ++ 125 ∷ []), length-append q.row (125 ∷ [])) in
    ap sequence_at text ∙ ap (λ o. closed_by o (q.front ++ after)) opens
    ∙ ap (λ t. cond (is_closed t) (sequence_with coding (length q.front + inner_len t + 1) (words_value coding (words_from [] (take (inner_len t) t)))) Absent) behind
    ∙ ap (λ b. cond b (sequence_with coding (length q.front + inner_len after + 1) (words_value coding (words_from [] (take (inner_len after) after)))) Absent) (row_closed q.row rest words q.numbers q.some)
    ∙ ap (λ n. sequence_with coding n (words_value coding (words_from [] (take (inner_len after) after)))) len
    ∙ ap (λ ws. sequence_with coding (length s) (words_value coding ws)) read

-- ---- what is read is a sequence of the grammar

no_hex : (hex white : Bool) → (hex ≡ true → white ≡ false) → white ≡ true → hex ≡ false
no_hex true white none is = let bad : false ≡ true = sym (none refl) ∙ is in absurd (cc bad)
no_hex false white none is = refl

none_hex : (s : List ℕ) → list_all is_white s ≡ true → list_any is_hex s ≡ false
none_hex [] all = refl
none_hex (b ∷ s) all = let parts = both _ _ all in ap (λ x. x || list_any is_hex s) (no_hex (is_hex b) (is_white b) (hex_not_white b) parts.0) ∙ none_hex s parts.1

row_none : (s : List ℕ) (numerals : List Numeral) (lead : List ℕ) → s ≡ lead ++ flat_map numeral_spelling numerals → list_all is_white lead ≡ true → [] ≡ map (λ n. n.word) numerals → list_any is_hex s ≡ false
row_none s [] lead spelled white named = ap (list_any is_hex) (spelled ∙ append-nil lead) ∙ none_hex lead white
row_none s (n ∷ more) lead spelled white named = absurd (cc named)

words_some : (row : List ℕ) (words : List (List ℕ)) → AreNumeralWords row words → list_any is_hex row ≡ true → words ≢ []
words_some row words is any e =
    let none = row_none row is.numerals is.lead is.spelled is.blank (sym e ∙ is.named) in
    let bad : false ≡ true = sym none ∙ any in cc bad

inside : (t : List ℕ) (k : ℕ) → get_or t k 0 ≡ 125 → k < length t
inside t k is = elim (cases_lt k (length t)) [ inl below ↦ below | inr past ↦ (let none = get_or-eq_default t 0 past in absurd (omega (arith, is, none))) ]

is_same : (a b : ℕ) → (a == b) ≡ true → a ≡ b
is_same a b is = grind (arith, common_steps)

module _ (text : List ℕ) (coding : Coding) (n : ℕ) (opens : lowered (take n text) ≡ sequence_opening coding) where
  closed_found : is_closed (drop n text) ≡ true → BeginsWithSequence text
  closed_found closed =
      let t : List ℕ = drop n text in
      let k : ℕ = inner_len t in
      let row : List ℕ = take k t in
      let both_are = both _ _ closed in
      let brace : get_or t k 0 ≡ 125 = is_same _ _ both_are.0 in
      let numbers : AreNumeralWords row (words_from [] row) = (words_are row (words_from [] row) (prefix_all is_inner t)).0 refl in
      let here : t ≡ row ++ 125 ∷ drop (k + 1) t =
      sym (take-append-drop k t) ∙ ap (λ l. row ++ l) (drop_more t k 0 (inside t k brace) ∙ ap (λ b. b ∷ drop (k + 1) t) brace) in
      let whole : text ≡ (take n text ++ (row ++ 125 ∷ [])) ++ drop (k + 1) t =
      sym (take-append-drop n text) ∙ ap (λ l. take n text ++ l) (here ∙ sym (append_assoc row (125 ∷ []) (drop (k + 1) t))) ∙ sym (append_assoc (take n text) (row ++ 125 ∷ []) (drop (k + 1) t)) in
      record {
        coding = coding;
        sequence = take n text ++ (row ++ 125 ∷ []);
        rest = drop (k + 1) t;
        words = words_from [] row;
        parts = whole;
        is = record { front = take n text; row = row; opens = opens; numbers = numbers; some = words_some row (words_from [] row) numbers both_are.1; spelled = refl };
      }

  by_closed : (closed : Bool) → is_closed (drop n text) ≡ closed → (closed_by (Some (coding, n)) text ≡ Absent → ⊥) → BeginsWithSequence text
  by_closed true is some = closed_found is
  by_closed false is some =
      absurd (some (ap (λ b. cond b (sequence_with coding (n + inner_len (drop n text) + 1) (words_value coding (words_from [] (take (inner_len (drop n text)) (drop n text))))) Absent) is))

begun : (word text : List ℕ) → begins_with word text ≡ true → lowered (take (length word) text) ≡ lowered word
begun word text is = (bytes_decides _ _).0 (both _ _ is).1

by_opening : (text : List ℕ) (hex unicode : Bool) → begins_with (codes "${hex:") text ≡ hex → begins_with (codes "${unicode:") text ≡ unicode
    → (closed_by (cond hex (Some (Hex, 6)) (cond unicode (Some (Unicode, 10)) None)) text ≡ Absent → ⊥) → BeginsWithSequence text
by_opening text true unicode h u some = by_closed text Hex 6 (begun (codes "${hex:") text h) (is_closed (drop 6 text)) refl some
by_opening text false true h u some = by_closed text Unicode 10 (begun (codes "${unicode:") text u) (is_closed (drop 10 text)) refl some
by_opening text false false h u some = absurd (some refl)

pub sequence_found : (text : List ℕ) → (sequence_at text ≡ Absent → ⊥) → BeginsWithSequence text
sequence_found text some = by_opening text (begins_with (codes "${hex:") text) (begins_with (codes "${unicode:") text) refl refl some
