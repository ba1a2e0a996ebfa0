-- A text that was written in a header field is read back from it.
use Rattle.std.proofs.Common.{◌≡◌, ◌≢◌, ℕ, ◌+◌, ◌-◌, Bool, true, false, cond, ◌==◌, ◌&&◌, ◌||◌, not, nat_le, Option, None, Some, List, [], ◌∷◌, ◌++◌, length, get_or, refl, sym, ap, ◌∙◌, subst, codes, bytes_eq, ⊎_elim, arith}
use Rattle.std.proofs.lemmas.Bool.{cases_Bool}
use Rattle.std.proofs.lemmas.List.{append-nil, append_assoc, take_at, length-append, get_or-append-add}
use Rattle.std.proofs.lemmas.List.Folds.{list_all-append}
use Rattle.std.proofs.lemmas.Str.{is_utf8-from_IsUtf8}
use Rattle.std.specs.Prelude.{IsUtf8}
use Rattle.std.specs.Str.{is_utf8}
use Rattle.std.specs.List.{list_all, concat}
use Rattle.std.specs.Option.{unwrap_or, is_some}
use Rattle.octets.specs.Ascii.{is_blank, is_printable}
use Rattle.base64.specs.Engines.{standard}
use Rattle.base64.specs.GeneralPurpose.{IsBytes, encode_of, decoded_of}
use Rattle.mail_head.specs.Lines.{is_other, at_front, lines_of, begins_blank, first_is_folded, end_len, without_end}
use Rattle.mail_head.specs.Heads.{unfolded_lines, unfold_of}
use Rattle.mail_head.proofs.LineLemmas.{goes_on-lines_of}
use Rattle.mail_head.proofs.FoldLemmas.{and_left, and_right, and_true}
use Rattle.mail_head.proofs.CutLemmas.{cut_ended, cut_open}
use Rattle.mail_words.specs.Runs.{is_nonblank, begins_nonblank, before_runs, runs_of}
use Rattle.mail_words.specs.Words.{is_unmarked, between_questions, is_visible, meaning_in, encoded_word_text}
use Rattle.mail_words.specs.Values.{given_from, decoded_text}
use Rattle.mail_words.specs.Headers.{begins_question, has_mark, is_plain_value, AreEncodedPieces, word_for, others_for, words_for, IsWorded}
use Rattle.mail_words.specs.Laws.{IsReadBack}
use Rattle.mail_words.proofs.RunLemmas.{given_front}
use Rattle.mail_words.proofs.WordLaws.{parts_front}
use Rattle.mail_words.proofs.PieceLemmas.{after_valid, piece_valid}
use Rattle.mail_words.proofs.AlphabetLemmas.{is_safe, safe_encoding, encoding_present, encoding_decodes, bytes_front, bytes_back}

-- what passes one test passes another that asks less
list_all-weaker : (p q : ℕ → Bool) (xs : List ℕ) → ((x : ℕ) → p x ≡ true → q x ≡ true) → list_all p xs ≡ true → list_all q xs ≡ true
list_all-weaker p q [] weaker all = refl
list_all-weaker p q (x ∷ xs) weaker all =
    let first : p x ≡ true = and_left _ _ all in
    let rest : list_all p xs ≡ true = and_right (p x) (list_all p xs) all in
    and_true _ _ (weaker x first) (list_all-weaker p q xs weaker rest)

visible_nonblank : (octet : ℕ) → is_visible octet ≡ true → is_nonblank octet ≡ true
visible_nonblank octet seen = grind arith

visible_other : (octet : ℕ) → is_visible octet ≡ true → is_other octet ≡ true
visible_other octet seen = grind arith

pub printable_other : (octet : ℕ) → is_printable octet ≡ true → is_other octet ≡ true
printable_other octet seen = grind arith

safe_visible : (octet : ℕ) → is_safe octet ≡ true → is_visible octet ≡ true
safe_visible octet safe = and_left _ _ safe

not_true : (test : Bool) → not test ≡ true → test ≡ false
not_true true h = absurd (cc h)
not_true false h = refl

safe_unmarked : (octet : ℕ) → is_safe octet ≡ true → is_unmarked octet ≡ true
safe_unmarked octet safe = and_right (is_visible octet) (is_unmarked octet) safe

-- a word with this text in B
word_with : (encoded piece : List ℕ) → list_all is_safe encoded ≡ true → (length encoded == 0) ≡ false → decoded_of standard encoded ≡ Some piece → is_utf8 piece ≡ true
    → encoded_word_text (codes "=?UTF-8?B?" ++ (encoded ++ codes "?=")) ≡ Some piece
word_with encoded piece safe present decodes valid =
    let seen : list_all is_visible encoded ≡ true = list_all-weaker is_safe is_visible encoded safe_visible safe in
    let parts = parts_front encoded (codes "=") (list_all-weaker is_safe is_unmarked encoded safe_unmarked safe) in
    rw (parts, present, seen, decodes, valid) refl

-- a word that was written is recognised, and says its piece
pub word_read : (piece : List ℕ) → IsBytes piece → IsUtf8 piece → piece ≢ [] → encoded_word_text (word_for piece) ≡ Some piece
word_read piece bytes valid some =
    word_with (encode_of standard piece) piece (safe_encoding piece bytes) (encoding_present piece some) (encoding_decodes piece bytes) (is_utf8-from_IsUtf8 piece valid)

-- its octets are visible
word_visible : (piece : List ℕ) → IsBytes piece → list_all is_visible (word_for piece) ≡ true
word_visible piece bytes =
    let encoded = encode_of standard piece in
    let seen : list_all is_visible encoded ≡ true = list_all-weaker is_safe is_visible encoded safe_visible (safe_encoding piece bytes) in
    list_all-append is_visible (codes "=?UTF-8?B?") (encoded ++ codes "?=") ∙ and_true _ _ refl (list_all-append is_visible encoded (codes "?=") ∙ and_true _ _ seen refl)

-- words with spaces between
spaced : List (List ℕ) → List ℕ
spaced [] = []
spaced (piece ∷ more) = 32 ∷ (word_for piece ++ spaced more)

-- pieces that can be written
AreTexts : List (List ℕ) → Type 0
AreTexts [] = Unit {0}
AreTexts (piece ∷ more) = (IsBytes piece × (IsUtf8 piece × (piece ≢ []))) × AreTexts more

texts_from : (pieces : List (List ℕ)) (text : List ℕ) → IsBytes text → IsUtf8 text → AreEncodedPieces pieces text → AreTexts pieces
unfolding AreTexts
texts_from [] text bytes valid are = tt
texts_from (piece ∷ more) text bytes valid (rest, (cut, are)) =
    let both : IsBytes (piece ++ rest) = subst IsBytes cut.spelled bytes in
    ((bytes_front piece rest both, (piece_valid text piece rest valid cut, cut.present)), texts_from more rest (bytes_back piece rest both) (after_valid text piece rest valid cut) are)

joined_pieces : (pieces : List (List ℕ)) (text : List ℕ) → AreEncodedPieces pieces text → text ≡ concat pieces
joined_pieces [] text are = are
joined_pieces (piece ∷ more) text (rest, (cut, are)) = cut.spelled ∙ ap (λ t. piece ++ t) (joined_pieces more rest are)

-- a line that CRLF ends, without its line end
without_crlf : (line : List ℕ) → without_end (line ++ (13 ∷ 10 ∷ [])) ≡ line
without_crlf line =
    let whole = line ++ (13 ∷ 10 ∷ []) in
    let size : length whole ≡ length line + 2 = length-append line (13 ∷ 10 ∷ []) in
    let one : length whole - 1 ≡ length line + 1 = omega arith in
    let two : length whole - 2 ≡ length line + 0 = omega arith in
    let last : get_or whole (length whole - 1) 0 ≡ 10 = ap (λ i. get_or whole i 0) one ∙ get_or-append-add line (13 ∷ 10 ∷ []) 1 0 in
    let other : get_or whole (length whole - 2) 0 ≡ 13 = ap (λ i. get_or whole i 0) two ∙ get_or-append-add line (13 ∷ 10 ∷ []) 0 0 in
    let ends : end_len whole ≡ 2 = rw (last, other) refl in
    let front : length line ≡ length whole - end_len whole = omega arith in
    take_at line (13 ∷ 10 ∷ []) (length whole - end_len whole) front

-- a text without line end unfolds to itself
pub unfold_plain : (text : List ℕ) → list_all is_other text ≡ true → unfold_of text ≡ text
unfold_plain [] all = refl
unfold_plain (octet ∷ rest) all = ap unfolded_lines (cut_open (octet ∷ rest) (λ none. absurd (cc none)) all) ∙ append-nil (octet ∷ rest)

-- a printable text unfolds to itself
pub unfold_printable : (text : List ℕ) → list_all is_printable text ≡ true → unfold_of text ≡ text
unfold_printable text printable = unfold_plain text (list_all-weaker is_printable is_other text printable_other printable)

-- CRLF before a blank is removed
pub unfold_crlf : (front rest : List ℕ) → list_all is_other front ≡ true → begins_blank rest ≡ true → unfold_of ((front ++ (13 ∷ 10 ∷ [])) ++ rest) ≡ front ++ unfold_of rest
unfold_crlf front rest all blank =
    let line : front ++ (13 ∷ 10 ∷ []) ≡ (front ++ 13 ∷ []) ++ 10 ∷ [] = sym (append_assoc front (13 ∷ []) (10 ∷ [])) in
    let others : list_all is_other (front ++ 13 ∷ []) ≡ true = list_all-append is_other front (13 ∷ []) ∙ and_true _ _ all refl in
    let cut : lines_of ((front ++ (13 ∷ 10 ∷ [])) ++ rest) ≡ (front ++ (13 ∷ 10 ∷ [])) ∷ lines_of rest =
    ap (λ t. lines_of (t ++ rest)) line ∙ (cut_ended (front ++ 13 ∷ []) rest others ∙ ap (λ t. t ∷ lines_of rest) (sym line)) in
    let goes : first_is_folded (lines_of rest) ≡ true = goes_on-lines_of rest ∙ blank in
    ap unfolded_lines cut ∙ (ap (λ t. cond t (without_end (front ++ (13 ∷ 10 ∷ []))) (front ++ (13 ∷ 10 ∷ [])) ++ unfold_of rest) goes ∙ ap (λ t. t ++ unfold_of rest) (without_crlf front))

-- words unfold to words with spaces between
unfold_words : (pieces : List (List ℕ)) (front : List ℕ) → AreTexts pieces → list_all is_other front ≡ true → unfold_of (front ++ others_for pieces) ≡ front ++ spaced pieces
unfolding AreTexts spaced
unfold_words [] front are all = ap unfold_of (append-nil front) ∙ (unfold_plain front all ∙ sym (append-nil front))
unfold_words (piece ∷ more) front are all =
    let word = 32 ∷ word_for piece in
    let seen = word_visible piece are.0.0 in
    let others : list_all is_other word ≡ true = and_true _ _ refl (list_all-weaker is_visible is_other (word_for piece) visible_other seen) in
    let rest = word ++ others_for more in
    let moved : front ++ others_for (piece ∷ more) ≡ (front ++ (13 ∷ 10 ∷ [])) ++ rest = sym (append_assoc front (13 ∷ 10 ∷ []) rest) in
    ap unfold_of moved ∙ (unfold_crlf front rest all refl ∙ ap (λ t. front ++ t) (unfold_words more word are.1 others))

spaced_nonblank : (pieces : List (List ℕ)) → begins_nonblank (spaced pieces) ≡ false
unfolding spaced
spaced_nonblank [] = refl
spaced_nonblank (piece ∷ more) = refl

-- what a recognised word and what stands before it give
word_gives : (after_word : Bool) (blanks word piece : List ℕ) (runs : List (List ℕ)) (found : Option (List ℕ)) → found ≡ Some piece
    → cond (after_word && is_some found) [] blanks ++ (unwrap_or found word ++ given_from (is_some found) runs) ≡ cond (after_word && true) [] blanks ++ (piece ++ given_from true runs)
word_gives after_word blanks word piece runs found is = ap (λ f. cond (after_word && is_some f) [] blanks ++ (unwrap_or f word ++ given_from (is_some f) runs)) is

word_not_empty : (piece : List ℕ) → word_for piece ≢ []
word_not_empty piece same = cc same

-- words with spaces between say their pieces
given_spaced : (pieces : List (List ℕ)) → AreTexts pieces → given_from true (runs_of (spaced pieces)) ≡ concat pieces
unfolding AreTexts spaced
given_spaced [] are = refl
given_spaced (piece ∷ more) are =
    let nonblank : list_all is_nonblank (word_for piece) ≡ true = list_all-weaker is_visible is_nonblank (word_for piece) visible_nonblank (word_visible piece are.0.0) in
    let read = word_read piece are.0.0 are.0.1.0 are.0.1.1 in
    given_front true (32 ∷ []) (word_for piece) (spaced more) refl nonblank (spaced_nonblank more) (λ none. absurd (word_not_empty piece none))
    ∙ (word_gives true (32 ∷ []) (word_for piece) piece (runs_of (spaced more)) (encoded_word_text (word_for piece)) read
    ∙ ap (λ t. piece ++ t) (given_spaced more are.1))

-- the words of pieces say the pieces
words_back : (pieces : List (List ℕ)) → AreTexts pieces → decoded_text (unfold_of (words_for pieces)) ≡ concat pieces
unfolding AreTexts
words_back [] are = refl
words_back (piece ∷ more) are =
    let seen = word_visible piece are.0.0 in
    let others : list_all is_other (word_for piece) ≡ true = list_all-weaker is_visible is_other (word_for piece) visible_other seen in
    let nonblank : list_all is_nonblank (word_for piece) ≡ true = list_all-weaker is_visible is_nonblank (word_for piece) visible_nonblank seen in
    let read = word_read piece are.0.0 are.0.1.0 are.0.1.1 in
    ap decoded_text (unfold_words more (word_for piece) are.1 others)
    ∙ (given_front false [] (word_for piece) (spaced more) refl nonblank (spaced_nonblank more) (λ none. absurd (word_not_empty piece none))
    ∙ (word_gives false [] (word_for piece) piece (runs_of (spaced more)) (encoded_word_text (word_for piece)) read
    ∙ ap (λ t. piece ++ t) (given_spaced more are.1)))

-- parts of which the first is not `=` are no word
meaning_front : (front : List ℕ) (more : List (List ℕ)) → bytes_eq front (codes "=") ≡ false → meaning_in (front ∷ more) ≡ None
meaning_front front [] other = refl
meaning_front front (a ∷ []) other = refl
meaning_front front (a ∷ b ∷ []) other = refl
meaning_front front (a ∷ b ∷ c ∷ []) other = refl
meaning_front front (a ∷ b ∷ c ∷ d ∷ []) other = rw other refl
meaning_front front (a ∷ b ∷ c ∷ d ∷ e ∷ more) other = refl

second_no : (a : Bool) → (a && false) ≡ false
second_no true = refl
second_no false = refl

or_left_no : (a b : Bool) → (a || b) ≡ false → a ≡ false
or_left_no true b h = absurd (cc h)
or_left_no false b h = refl

or_right_no : (a b : Bool) → (a || b) ≡ false → b ≡ false
or_right_no true b h = absurd (cc h)
or_right_no false b h = h

front_longer : (octet next : ℕ) (parts : List (List ℕ)) → meaning_in (at_front octet (at_front next parts)) ≡ None
front_longer octet next [] = refl
front_longer octet next (part ∷ more) = meaning_front (octet ∷ next ∷ part) more (second_no (octet == 61))

front_one : (octet : ℕ) (question : Bool) (next : ℕ) (parts : List (List ℕ)) → (octet == 61 && question) ≡ false → meaning_in (at_front octet (cond question ([] ∷ parts) (at_front next parts))) ≡ None
front_one octet true next parts no_mark = meaning_front (octet ∷ []) parts no_mark
front_one octet false next parts no_mark = front_longer octet next parts

front_any : (octet : ℕ) (question : Bool) (parts : List (List ℕ)) → meaning_in (at_front octet parts) ≡ None → meaning_in (cond question ([] ∷ parts) (at_front octet parts)) ≡ None
front_any octet true parts none = meaning_front [] parts refl
front_any octet false parts none = none

-- a run without `=?` is no word
no_mark_word : (run : List ℕ) → has_mark run ≡ false → encoded_word_text run ≡ None
no_mark_word [] no_mark = refl
no_mark_word (octet ∷ []) no_mark = front_any octet (octet == 63) ([] ∷ []) refl
no_mark_word (octet ∷ (next ∷ rest)) no_mark =
    front_any octet (octet == 63) (between_questions (next ∷ rest)) (front_one octet (next == 63) next (between_questions rest) (or_left_no (octet == 61 && next == 63) (has_mark (next ∷ rest)) no_mark))

-- no run of these has `=?`
abbrev NoMarks : List (List ℕ) → Type 0
NoMarks [] = Unit {0}
NoMarks (run ∷ more) = (has_mark run ≡ false) × NoMarks more

same_both : {A : Type 0} (test : Bool) (x : A) → cond test x x ≡ x
same_both true x = refl
same_both false x = refl

plain_step : (found : Option (List ℕ)) (run : List ℕ) (more : List (List ℕ)) → found ≡ None → given_from false more ≡ concat more
    → cond (begins_blank run) run (unwrap_or found run) ++ given_from (is_some found) more ≡ run ++ concat more
plain_step found run more is later =
    ap (λ f. cond (begins_blank run) run (unwrap_or f run) ++ given_from (is_some f) more) is
    ∙ (ap (λ t. t ++ given_from false more) (same_both (begins_blank run) run) ∙ ap (λ t. run ++ t) later)

-- runs without `=?` give themselves
given_plain : (runs : List (List ℕ)) → NoMarks runs → given_from false runs ≡ concat runs
given_plain [] none = refl
given_plain (run ∷ more) none = plain_step (encoded_word_text run) run more (no_mark_word run none.0) (given_plain more none.1)

concat_cond : (test : Bool) (octet : ℕ) (run : List ℕ) (more : List (List ℕ)) → concat (cond test ((octet ∷ run) ∷ more) ((octet ∷ []) ∷ run ∷ more)) ≡ octet ∷ concat (run ∷ more)
concat_cond true octet run more = refl
concat_cond false octet run more = refl

concat_before : (octet : ℕ) (runs : List (List ℕ)) → concat (before_runs octet runs) ≡ octet ∷ concat runs
concat_before octet [] = refl
concat_before octet (run ∷ more) = concat_cond (cond (is_blank octet) (begins_blank run) (begins_nonblank run)) octet run more

-- the runs joined are the text
pub concat-runs_of : (text : List ℕ) → concat (runs_of text) ≡ text
concat-runs_of [] = refl
concat-runs_of (octet ∷ rest) = concat_before octet (runs_of rest) ∙ ap (λ t. octet ∷ t) (concat-runs_of rest)

both_no : (a b : Bool) → a ≡ false → b ≡ false → (a || b) ≡ false
both_no a b p q = rw (p, q) refl

question_front : (octet : ℕ) (run rest : List ℕ) → (octet == 61 && begins_question (run ++ rest)) ≡ false → (octet == 61 && begins_question run) ≡ false
question_front octet [] rest no_mark = second_no (octet == 61)
question_front octet (next ∷ run) rest no_mark = no_mark

marks_cond : (test : Bool) (octet : ℕ) (run : List ℕ) (more : List (List ℕ)) → NoMarks (run ∷ more) → (octet == 61 && begins_question run) ≡ false
    → NoMarks (cond test ((octet ∷ run) ∷ more) ((octet ∷ []) ∷ run ∷ more))
marks_cond true octet run more none no_mark = (both_no _ _ no_mark none.0, none.1)
marks_cond false octet run more none no_mark = (both_no _ _ (second_no (octet == 61)) refl, none)

marks_before : (octet : ℕ) (runs : List (List ℕ)) → NoMarks runs → (octet == 61 && begins_question (concat runs)) ≡ false → NoMarks (before_runs octet runs)
marks_before octet [] none no_mark = (both_no _ _ (second_no (octet == 61)) refl, tt)
marks_before octet (run ∷ more) none no_mark =
    marks_cond (cond (is_blank octet) (begins_blank run) (begins_nonblank run)) octet run more none (question_front octet run (concat more) no_mark)

-- the runs of a text without `=?`
no_marks : (text : List ℕ) → has_mark text ≡ false → NoMarks (runs_of text)
no_marks [] no_mark = tt
no_marks (octet ∷ rest) no_mark =
    let here : (octet == 61 && begins_question rest) ≡ false = or_left_no _ (has_mark rest) no_mark in
    let later = no_marks rest (or_right_no (octet == 61 && begins_question rest) (has_mark rest) no_mark) in
    marks_before octet (runs_of rest) later (ap (λ t. octet == 61 && begins_question t) (concat-runs_of rest) ∙ here)

-- a plain text is read back
plain_back : (text : List ℕ) → is_plain_value text ≡ true → decoded_text (unfold_of text) ≡ text
plain_back text plain =
    let rest : (list_all is_printable text && not (has_mark text)) ≡ true = and_right (nat_le (length text) 200) _ plain in
    let printable : list_all is_printable text ≡ true = and_left _ _ rest in
    let no_mark : has_mark text ≡ false = not_true (has_mark text) (and_right (list_all is_printable text) (not (has_mark text)) rest) in
    ap decoded_text (unfold_printable text printable) ∙ (given_plain (runs_of text) (no_marks text no_mark) ∙ concat-runs_of text)

-- words are read back
worded_back : (text value : List ℕ) → IsBytes text → IsUtf8 text → IsWorded text value → decoded_text (unfold_of value) ≡ text
worded_back text value bytes valid worded =
    let texts = texts_from worded.pieces text bytes valid worded.cut in
    ap (λ t. decoded_text (unfold_of t)) worded.spelled ∙ (words_back worded.pieces texts ∙ sym (joined_pieces worded.pieces text worded.cut))

-- a text that was written in a header field is read back from it
pub read_back : (text value : List ℕ) → IsBytes text → IsUtf8 text → IsReadBack text value
read_back text value bytes valid written = ⊎_elim
    (λ plain. ap (λ t. decoded_text (unfold_of t)) (written.plain plain) ∙ plain_back text plain)
    (λ other. worded_back text value bytes valid (written.worded other))
    (cases_Bool (is_plain_value text))
