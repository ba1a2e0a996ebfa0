-- The first piece of a text, and the pieces of what follows it.
use Rattle.std.proofs.Common.{◌≡◌, ℕ, zero, suc, ◌<◌, ◌≤◌, false, List, [], ◌∷◌, take, drop, length, Option, Some, None, refl, ap, sym, ◌∙◌, arith}
use Rattle.std.proofs.lemmas.List.{length-drop, take-append-drop}
use Rattle.mail_address.specs.declared.scanner.AddrPieceKind.{AddrPieceKind}
use Rattle.mail_address.specs.declared.scanner.AddrPieceKind.TheVariants as K
use Rattle.mail_address.specs.Reading.{front, front_of, closed, len_before, after_close, after_comment, pieces, pieces_within, IsNextAddrPiece}

closed-some : (kind : AddrPieceKind) (others : List ℕ) (len : Option ℕ) → 0 < (closed kind others len).1
closed-some kind others None = omega arith
closed-some kind others (Some len) = omega arith

front-some : (kind : AddrPieceKind) (others : List ℕ) → 0 < (front_of kind others).1
front-some K.Atom others = omega arith
front-some K.Quoted others = closed-some K.Quoted others (len_before others (after_close 34 false others))
front-some K.Literal others = closed-some K.Literal others (len_before others (after_close 93 false others))
front-some K.Comment others = closed-some K.Comment others (len_before others (after_comment 0 false others))
front-some _ others = omega arith

-- what follows the first piece is shorter
rest-shorter : (octet : ℕ) (others : List ℕ) (len : ℕ) → 0 < len → length (drop len (octet ∷ others)) ≤ length others
rest-shorter octet others zero some = absurd (omega arith)
rest-shorter octet others (suc len) some = omega (arith, length-drop len others)

pieces-none : (n : ℕ) → pieces_within n [] ≡ []
pieces-none zero = refl
pieces-none (suc n) = refl

-- a bound that is large enough changes nothing
pub pieces-any : (n m : ℕ) (text : List ℕ) → length text ≤ n → length text ≤ m → pieces_within n text ≡ pieces_within m text
pieces-any n m [] short fits = pieces-none n ∙ sym (pieces-none m)
pieces-any zero m (octet ∷ others) short fits = absurd (omega arith)
pieces-any (suc n) zero (octet ∷ others) short fits = absurd (omega arith)
pieces-any (suc n) (suc m) (octet ∷ others) short fits =
    let rest = drop (front octet others).1 (octet ∷ others) in
    let shorter : length rest ≤ length others = rest-shorter octet others (front octet others).1 (front-some _ others) in
    ap (λ more. (record { kind = (front octet others).0; text = take (front octet others).1 (octet ∷ others) }) ∷ more) (pieces-any n m rest (omega arith) (omega arith))

-- the pieces of a text are its first one, and those of what follows it
pub pieces-next : (octet : ℕ) (others : List ℕ) → IsNextAddrPiece (octet ∷ others) (front octet others).0 (take (front octet others).1 (octet ∷ others)) (drop (front octet others).1 (octet ∷ others))
unfolding pieces
pieces-next octet others =
    let rest = drop (front octet others).1 (octet ∷ others) in
    let shorter : length rest ≤ length others = rest-shorter octet others (front octet others).1 (front-some _ others) in
    record {
      shorter = omega arith;
      cut = sym (take-append-drop (front octet others).1 (octet ∷ others));
      pieces = ap (λ more. (record { kind = (front octet others).0; text = take (front octet others).1 (octet ∷ others) }) ∷ more) (pieces-any (length others) (length rest) rest shorter (omega arith));
    }

-- the first piece, as the scanner cuts it off
pub next-at : (octet : ℕ) (others text first rest : List ℕ) (found : AddrPieceKind × ℕ) → text ≡ octet ∷ others → found ≡ front octet others → first ≡ take found.1 text → rest ≡ drop found.1 text → IsNextAddrPiece text found.0 first rest
next-at octet others text first rest found is seen taken left = rw (taken, left, is, seen) (pieces-next octet others)

-- the empty text has no pieces
pub pieces-nil : (text : List ℕ) → length text ≡ 0 → pieces text ≡ []
unfolding pieces
pieces-nil [] none = refl
pieces-nil (octet ∷ others) none = absurd (omega arith)
