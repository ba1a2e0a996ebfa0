-- A text has one list of pieces.
use Rattle.std.proofs.Common.{◌≡◌, ℕ, Bool, true, false, List, [], ◌∷◌, ◌++◌, length, take, drop, refl, sym, ap, ◌∙◌, subst, ⊎_elim, arith}
use Rattle.std.proofs.lemmas.Bool.{cases_lt}
use Rattle.std.proofs.lemmas.List.{take_at, drop_at}
use Rattle.mail_words.specs.Headers.{IsPieceLength, CutsPiece, AreEncodedPieces, IsHeaderText, is_plain_value, words_for}

one_length : (text : List ℕ) (m n : ℕ) → IsPieceLength text m → IsPieceLength text n → m ≡ n
one_length text m n a b = ⊎_elim
    (λ less. absurd (a.longest n less b.small b.whole))
    (λ more. ⊎_elim (λ less. absurd (b.longest m less a.small a.whole)) (λ same. omega arith) (cases_lt n m))
    (cases_lt m n)

cut_front : (text piece rest : List ℕ) → CutsPiece text piece rest → take (length piece) text ≡ piece
cut_front text piece rest cut = ap (take (length piece)) cut.spelled ∙ take_at piece rest (length piece) refl

cut_back : (text piece rest : List ℕ) → CutsPiece text piece rest → drop (length piece) text ≡ rest
cut_back text piece rest cut = ap (drop (length piece)) cut.spelled ∙ drop_at piece rest (length piece) refl

-- two lists of pieces of a text are one
pub pieces_only : (text : List ℕ) (pieces others : List (List ℕ)) → AreEncodedPieces pieces text → AreEncodedPieces others text → pieces ≡ others
pieces_only text [] [] are were = refl
pieces_only text [] (other ∷ more) are (rest, (cut, were)) = absurd (cut.present (empty other rest (sym cut.spelled ∙ are))) where
  empty : (front back : List ℕ) → front ++ back ≡ [] → front ≡ []
  empty [] back none = refl
  empty (x ∷ front) back none = absurd (cc none)
pieces_only text (piece ∷ more) [] (rest, (cut, are)) were = absurd (cut.present (empty piece rest (sym cut.spelled ∙ were))) where
  empty : (front back : List ℕ) → front ++ back ≡ [] → front ≡ []
  empty [] back none = refl
  empty (x ∷ front) back none = absurd (cc none)
pieces_only text (piece ∷ more) (other ∷ others) (rest, (cut, are)) (left, (took, were)) =
    let size = one_length text (length piece) (length other) cut.length_is took.length_is in
    let same : piece ≡ other = sym (cut_front text piece rest cut) ∙ (ap (λ n. take n text) size ∙ cut_front text other left took) in
    let after : rest ≡ left = sym (cut_back text piece rest cut) ∙ (ap (λ n. drop n text) size ∙ cut_back text other left took) in
    let later = pieces_only rest more others are (subst (AreEncodedPieces others) (sym after) were) in
    ap (λ p. p ∷ more) same ∙ ap (λ t. other ∷ t) later

value_at : (plain : Bool) (text one two : List ℕ) → is_plain_value text ≡ plain → IsHeaderText text one → IsHeaderText text two → one ≡ two
value_at true text one two is first second = first.plain is ∙ sym (second.plain is)
value_at false text one two is first second =
    let here = first.worded is in
    let there = second.worded is in
    here.spelled ∙ (ap words_for (pieces_only text here.pieces there.pieces here.cut there.cut) ∙ sym there.spelled)

-- a text is written in one way
pub one_value : (text one two : List ℕ) → IsHeaderText text one → IsHeaderText text two → one ≡ two
one_value text one two = value_at (is_plain_value text) text one two refl
