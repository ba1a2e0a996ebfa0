-- Lemmas on the pieces of a text and their words.
use Rattle.std.proofs.Common.{◌≡◌, ℕ, zero, suc, ◌+◌, ◌<◌, ◌≤◌, Bool, true, List, [], ◌∷◌, ◌++◌, length, take, drop, refl, sym, ap, ◌∙◌, subst, ◌==◌, arith}
use Rattle.std.proofs.lemmas.List.{append-nil, append_assoc, take-append-drop, length-take-le, take_at, drop_at, nil_from_length}
use Rattle.std.proofs.lemmas.Bool.{eqb-true}
use Rattle.std.proofs.lemmas.Str.{IsCharBoundary-past_char, len_utf8_bounds, IsUtf8-take, IsUtf8-drop}
use Rattle.std.specs.Char.{len_utf8}
use Rattle.std.specs.Prelude.{IsUtf8, IsCharBoundary, encode_utf8_all}
use Rattle.mail_words.specs.Headers.{CutsPiece, AreEncodedPieces, word_for, others_for, words_for, between, IsWorded}

-- pieces were cut off, and their words were written
pub record IsWritten (text rest value : List ℕ) : Type 0 where
  pub pieces : List (List ℕ)
  pub joins : (more : List (List ℕ)) → AreEncodedPieces more rest → AreEncodedPieces (pieces ++ more) text
  pub spelled : value ≡ words_for pieces

others_for-push : (pieces : List (List ℕ)) (piece : List ℕ) → others_for (pieces ++ piece ∷ []) ≡ others_for pieces ++ (13 ∷ 10 ∷ 32 ∷ word_for piece)
others_for-push [] piece = ap (λ t. 13 ∷ 10 ∷ 32 ∷ t) (append-nil (word_for piece))
others_for-push (first ∷ more) piece =
    ap (λ t. 13 ∷ 10 ∷ 32 ∷ (word_for first ++ t)) (others_for-push more piece)
    ∙ ap (λ t. 13 ∷ 10 ∷ 32 ∷ t) (sym (append_assoc (word_for first) (others_for more) (13 ∷ 10 ∷ 32 ∷ word_for piece)))

-- the words of pieces and of one more
pub words_push : (pieces : List (List ℕ)) (piece value : List ℕ) → value ≡ words_for pieces → value ++ (between value ++ word_for piece) ≡ words_for (pieces ++ piece ∷ [])
words_push [] piece value is = rw is (sym (append-nil (word_for piece)))
words_push (first ∷ more) piece value is =
    rw is (append_assoc (word_for first) (others_for more) (13 ∷ 10 ∷ 32 ∷ word_for piece) ∙ ap (λ t. word_for first ++ t) (sym (others_for-push more piece)))

first_char : (text : List ℕ) (n : ℕ) → IsUtf8 text → 0 < length text → ((i : ℕ) → n < i → i ≤ 45 → IsCharBoundary text i → ⊥) → 0 < n
first_char text n ([], is) present nearest = absurd (omega (arith, ap length is.1))
first_char text (suc n) (char ∷ more, is) present nearest = omega arith
first_char text zero (char ∷ more, is) present nearest =
    let bounds = len_utf8_bounds char in
    let valid : IsUtf8 text = (char ∷ more, is) in
    absurd (nearest (0 + len_utf8 char) (omega (arith, bounds.0)) (omega (arith, bounds.1)) (IsCharBoundary-past_char text (encode_utf8_all more) 0 char (omega arith) valid (sym is.1)))

-- the longest piece of a text
pub piece_cut : (text piece rest : List ℕ) (n : ℕ) → IsUtf8 text → 0 < length text → n ≤ 45 → IsCharBoundary text n → ((i : ℕ) → n < i → i ≤ 45 → IsCharBoundary text i → ⊥)
    → piece ≡ take n text → rest ≡ drop n text → CutsPiece text piece rest
piece_cut text piece rest n valid present small whole nearest front back =
    let some = first_char text n valid present nearest in
    let size : length piece ≡ n = ap length front ∙ length-take-le n text whole.0 in
    record {
      spelled = sym (take-append-drop n text) ∙ (ap (λ t. t ++ drop n text) (sym front) ∙ ap (λ t. piece ++ t) (sym back));
      present = λ none. let zero : length piece ≡ 0 = ap length none in absurd (omega arith);
      length_is = rw size (record { small = small; whole = whole; longest = nearest });
    }

-- one piece more was cut off and its word written
pub written_more : (text rest value written piece after : List ℕ) → IsWritten text rest value → CutsPiece rest piece after → written ≡ value ++ (between value ++ word_for piece) → IsWritten text after written
written_more text rest value written piece after so_far cut is = record {
  pieces = so_far.pieces ++ piece ∷ [];
  joins = λ more are. rw append_assoc (so_far.joins (piece ∷ more) (after, (cut, are)));
  spelled = is ∙ words_push so_far.pieces piece value so_far.spelled;
}

-- all pieces were cut off
pub written_all : (text rest value : List ℕ) → IsWritten text rest value → rest ≡ [] → IsWorded text value
written_all text rest value so_far none = record {
  pieces = so_far.pieces;
  cut = rw append-nil at (so_far.joins [] none);
  spelled = so_far.spelled;
}

-- nothing was
pub written_none : (text : List ℕ) → IsWritten text text []
written_none text = record { pieces = []; joins = λ more are. are; spelled = refl }

-- what follows a piece is text
pub after_valid : (text piece after : List ℕ) → IsUtf8 text → CutsPiece text piece after → IsUtf8 after
after_valid text piece after valid cut =
    let back : drop (length piece) text ≡ after = ap (drop (length piece)) cut.spelled ∙ drop_at piece after (length piece) refl in
    subst IsUtf8 back (IsUtf8-drop text (length piece) valid cut.length_is.whole)

-- a piece is text
pub piece_valid : (text piece after : List ℕ) → IsUtf8 text → CutsPiece text piece after → IsUtf8 piece
piece_valid text piece after valid cut =
    let front : take (length piece) text ≡ piece = ap (take (length piece)) cut.spelled ∙ take_at piece after (length piece) refl in
    subst IsUtf8 front (IsUtf8-take text (length piece) valid cut.length_is.whole)

-- a text that was found empty
pub emptied : (text : List ℕ) (test : Bool) → test ≡ (length text == 0) → test ≡ true → text ≡ []
emptied text test is holds = nil_from_length text (eqb-true (length text) 0 (sym is ∙ holds))
