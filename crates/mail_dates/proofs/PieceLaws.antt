-- The first piece of a text is the one that stands there.
use Rattle.std.proofs.Common.{◌≡◌, ℕ, suc, ◌+◌, ◌==◌, ◌&&◌, Bool, true, false, cond, Option, Some, None, List, [], ◌∷◌, ◌++◌, drop, take, length, refl, ap, sym, ◌∙◌, subst, arith}
use Rattle.std.specs.List.{prefix_len, list_all}
use Rattle.std.specs.Option.{option_map}
use Rattle.std.proofs.lemmas.List.{take-append-drop}
use Rattle.std.proofs.Math.Seq.{take-append_seam, drop-append_seam}
use Rattle.std.proofs.lemmas.Bool.{ne_eqb, false≢true}
use Rattle.std.specs.Bool.{IsTrue}
use Rattle.octets.proofs.Lists.{some_pair}
use Rattle.mail_dates.specs.Gaps.{gap_before}
use Rattle.mail_dates.specs.Pieces.{goes_on, IsPieceEnd, IsDatePieceShape, IsDatePiece}
use Rattle.mail_dates.specs.Reading.{after_gap, cut, piece}
use Rattle.mail_dates.proofs.GapLaws.{IsStart, IsLed, gap_again, gap_is}

one-add : (n : ℕ) → 1 + n ≡ suc n
one-add n = omega arith

-- a run is as long as it goes on
pub both_true : (a b : Bool) → (a && b) ≡ true → (a ≡ true) × (b ≡ true)
both_true true b is = (refl, is)
both_true false b is = absurd (cc)

run_len : (first : ℕ) (more after : List ℕ) → list_all (goes_on first) more ≡ true → IsPieceEnd first after → prefix_len (goes_on first) (more ++ after) ≡ length more
run_len first [] [] all end = refl
run_len first [] (octet ∷ after) all end = rw end refl
run_len first (octet ∷ more) after all end =
    let both = both_true (goes_on first octet) (list_all (goes_on first) more) all in
    rw both.0 (rw (run_len first more after both.1 end) (omega arith))

passes_at : (first octet : ℕ) (more : List ℕ) (test : Bool) → goes_on first octet ≡ test → list_all (goes_on first) (take (prefix_len (goes_on first) more) more) ≡ true
    → list_all (goes_on first) (take (cond test (1 + prefix_len (goes_on first) more) 0) (octet ∷ more)) ≡ true
passes_at first octet more true is others = rw (one-add (prefix_len (goes_on first) more), is) others
passes_at first octet more false is others = refl

ends_at : (first octet : ℕ) (more : List ℕ) (test : Bool) → goes_on first octet ≡ test → IsPieceEnd first (drop (prefix_len (goes_on first) more) more)
    → IsPieceEnd first (drop (cond test (1 + prefix_len (goes_on first) more) 0) (octet ∷ more))
ends_at first octet more true is others = rw (one-add (prefix_len (goes_on first) more)) others
ends_at first octet more false is others = is

run_passes : (first : ℕ) (others : List ℕ) → list_all (goes_on first) (take (prefix_len (goes_on first) others) others) ≡ true
run_passes first [] = refl
run_passes first (octet ∷ more) = passes_at first octet more (goes_on first octet) refl (run_passes first more)

run_ends : (first : ℕ) (others : List ℕ) → IsPieceEnd first (drop (prefix_len (goes_on first) others) others)
run_ends first [] = tt
run_ends first (octet ∷ more) = ends_at first octet more (goes_on first octet) refl (run_ends first more)

cut_again : (word after : List ℕ) → IsDatePieceShape word after → cut (word ++ after) ≡ (word, after)
unfolding cut
cut_again [] after shape = rw shape refl
cut_again (first ∷ more) after shape =
    let n = run_len first more after shape.1.0 shape.1.1 in
    rw n (rw (take-append_seam more after, drop-append_seam more after) refl)

start_of : (word after : List ℕ) → IsDatePieceShape word after → IsStart (word ++ after)
start_of [] after shape = rw shape tt
start_of (first ∷ more) after shape = shape.0

cut_shape : (text : List ℕ) → IsStart text → IsDatePieceShape (cut text).0 (cut text).1
unfolding cut
cut_shape [] start = refl
cut_shape (first ∷ more) start = (start, (run_passes first more, run_ends first more))

cut_joined : (text : List ℕ) → (cut text).0 ++ (cut text).1 ≡ text
unfolding cut
cut_joined [] = refl
cut_joined (first ∷ more) = ap (λ s. first ∷ s) (take-append-drop (prefix_len (goes_on first) more) more)

-- the piece that stands there is found
pub piece_again : (text word after : List ℕ) → IsDatePiece text word after → piece text ≡ Some (word, after)
unfolding piece
piece_again text word after is =
    let found : after_gap 0 false text ≡ Some (word ++ after) = rw is.spelled (gap_again is.gap (word ++ after) is.is_gap (start_of word after is.shaped)) in
    rw found (ap Some (cut_again word after is.shaped))

piece_cut : (text rest : List ℕ) → IsLed text rest → IsDatePiece text (cut rest).0 (cut rest).1
piece_cut text rest led = record { gap = led.gap; is_gap = led.is_gap; shaped = cut_shape rest led.starts; spelled = led.spelled ∙ ap (gap_before led.gap) (sym (cut_joined rest)) }

piece_from : (text word after : List ℕ) (rest : Option (List ℕ)) → after_gap 0 false text ≡ rest → option_map cut rest ≡ Some (word, after) → IsDatePiece text word after
piece_from text word after None is found = absurd (cc)
piece_from text word after (Some rest) is found =
    let both = some_pair (cut rest) (word, after) found in
    let here = piece_cut text rest (gap_is text rest is) in
    subst (λ (a : List ℕ). IsDatePiece text word a) both.1 (subst (λ (w : List ℕ). IsDatePiece text w (cut rest).1) both.0 here)

-- the piece that is found stands there
pub piece_is : (text word after : List ℕ) → piece text ≡ Some (word, after) → IsDatePiece text word after
unfolding piece
piece_is text word after found = piece_from text word after (after_gap 0 false text) refl found

-- where no piece is left, nothing is
pub over_is : (text after : List ℕ) → piece text ≡ Some ([], after) → piece text ≡ Some ([], [])
over_is text after found = let end : after ≡ [] = (piece_is text [] after found).shaped in found ∙ ap (λ (a : List ℕ). Some ([], a)) end

deep : (n : ℕ) → (suc n == 0) ≡ false
deep n = ne_eqb (suc n) 0 (λ e. absurd (omega arith))

some_differs : (first : ℕ) (more after : List ℕ) → (let one : Option (List ℕ × List ℕ) = Some (first ∷ more, after) in one ≡ Some ([], [])) → ⊥
some_differs first more after same = let words : first ∷ more ≡ [] = (some_pair (first ∷ more, after) ([], []) same).0 in absurd (cc)

-- whether the piece that is found is none
pub over_exact : (text word after : List ℕ) (result : Bool) → piece text ≡ Some (word, after) → result ≡ (length word == 0)
    → (IsTrue result → piece text ≡ Some ([], [])) × (piece text ≡ Some ([], []) → IsTrue result)
over_exact text [] after result found is = rw is ((λ _. over_is text after found), (λ _. refl))
over_exact text (first ∷ more) after result found is =
    rw (is, deep (length more)) ((λ no. absurd (false≢true no)), (λ none. absurd (some_differs first more after (sym found ∙ none))))
