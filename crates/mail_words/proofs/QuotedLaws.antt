-- A text in Q stands for the octets of its pieces.
use Rattle.std.proofs.Common.{◌≡◌, ℕ, ◌+◌, ◌*◌, Bool, true, false, cond, ◌==◌, Option, None, Some, List, [], ◌∷◌, ◌++◌, refl, sym, ap, ◌∙◌}
use Rattle.std.proofs.lemmas.Bool.{eqb-true}
use Rattle.std.specs.Option.{option_and_then}
use Rattle.octets.proofs.Lists.{some_is}
use Rattle.mail_words.specs.declared.quoted.Mode.TheVariants.{InText, AfterMark}
use Rattle.mail_words.specs.Quoted.{hex_digit_of, QPiece, Plain, Space, Escaped, q_piece_text, hex_octet_of, q_piece_value, q_text, AreValues, IsQEncoded, with_octet, quoted_from, quoted_of}

plain_value : (octet first : ℕ) (mark low : Bool) → cond mark None (cond low None (Some octet)) ≡ Some first → (mark ≡ false) × ((low ≡ false) × (octet ≡ first))
plain_value octet first true low same = absurd (cc same)
plain_value octet first false true same = absurd (cc same)
plain_value octet first false false same = (refl, (refl, some_is octet first same))

both_digits : (high low : Option ℕ) (first : ℕ) (rest : List ℕ) → hex_octet_of high low ≡ Some first
    → option_and_then (λ h. option_and_then (λ l. with_octet (h * 16 + l) (Some rest)) low) high ≡ Some (first ∷ rest)
both_digits None low first rest same = absurd (cc same)
both_digits (Some h) None first rest same = absurd (cc same)
both_digits (Some h) (Some l) first rest same = ap (λ o. Some (o ∷ rest)) (some_is (h * 16 + l) first same)

-- what is written so is read so
pub quoted_again : (pieces : List QPiece) (octets : List ℕ) → AreValues pieces octets → quoted_of (q_text pieces) ≡ Some octets
quoted_again [] octets are = ap Some (sym are)
quoted_again (Plain octet ∷ more) octets (first, (rest, (is, (value, are)))) =
    let parts = plain_value octet first (octet == 61) (octet == 95) value in
    let later = quoted_again more rest are in
    let same : octet ∷ rest ≡ octets = ap (λ o. o ∷ rest) parts.1.1 ∙ sym is in
    rw (parts.0, parts.1.0, later) (ap Some same)
quoted_again (Space ∷ more) octets (first, (rest, (is, (value, are)))) =
    let later = quoted_again more rest are in
    let same : 32 ∷ rest ≡ octets = ap (λ o. o ∷ rest) (some_is 32 first value) ∙ sym is in
    rw later (ap Some same)
quoted_again (Escaped high low ∷ more) octets (first, (rest, (is, (value, are)))) =
    let later = quoted_again more rest are in
    rw later (both_digits (hex_digit_of high) (hex_digit_of low) first rest value ∙ ap Some (sym is))

-- an octet was read before these
with_found : (octet : ℕ) (more : Option (List ℕ)) (octets : List ℕ) → with_octet octet more ≡ Some octets → (rest : List ℕ) × ((more ≡ Some rest) × (octets ≡ octet ∷ rest))
with_found octet None octets same = absurd (cc same)
with_found octet (Some rest) octets same = (rest, (refl, sym (some_is (octet ∷ rest) octets same)))

-- one piece more in front
piece_more : (piece : QPiece) (text octets : List ℕ) (first : ℕ) → q_piece_value piece ≡ Some first → IsQEncoded text octets → IsQEncoded (q_piece_text piece ++ text) (first ∷ octets)
piece_more piece text octets first value is = record {
  pieces = piece ∷ is.pieces;
  spelled = ap (λ t. q_piece_text piece ++ t) is.spelled;
  valued = (first, (octets, (refl, (value, is.valued))));
}

plain_more : (octet : ℕ) (rest octets : List ℕ) (low : Bool) → (octet == 61) ≡ false → (octet == 95) ≡ low → IsQEncoded rest octets → IsQEncoded (octet ∷ rest) (cond low 32 octet ∷ octets)
plain_more octet rest octets true other low is = rw (eqb-true octet 95 low) (piece_more Space rest octets 32 refl is)
plain_more octet rest octets false other high is = piece_more (Plain octet) rest octets octet (rw (other, high) refl) is

escape_more : (high low : ℕ) (rest octets : List ℕ) (h l : Option ℕ) → hex_digit_of high ≡ h → hex_digit_of low ≡ l → ((rests : List ℕ) → quoted_of rest ≡ Some rests → IsQEncoded rest rests)
    → option_and_then (λ a. option_and_then (λ b. with_octet (a * 16 + b) (quoted_from InText rest)) l) h ≡ Some octets → IsQEncoded (61 ∷ high ∷ low ∷ rest) octets
escape_more high low rest octets None l dh dl later same = absurd (cc same)
escape_more high low rest octets (Some a) None dh dl later same = absurd (cc same)
escape_more high low rest octets (Some a) (Some b) dh dl later same =
    let found = with_found (a * 16 + b) (quoted_from InText rest) octets same in
    let value : q_piece_value (Escaped high low) ≡ Some (a * 16 + b) = rw (dh, dl) refl in
    rw found.1.1 (piece_more (Escaped high low) rest found.0 (a * 16 + b) value (later found.0 found.1.0))

none_digit : (high : Option ℕ) (octets : List ℕ) → option_and_then (λ (h : ℕ). let none : Option (List ℕ) = None in none) high ≡ Some octets → ⊥
none_digit None octets same = cc same
none_digit (Some h) octets same = cc same

first_way : (test : Bool) (octet : ℕ) (rest octets : List ℕ) → (octet == 61) ≡ test
    → ((rests : List ℕ) → quoted_of rest ≡ Some rests → IsQEncoded rest rests)
    → (quoted_from AfterMark rest ≡ Some octets → IsQEncoded (61 ∷ rest) octets)
    → cond test (quoted_from AfterMark rest) (with_octet (cond (octet == 95) 32 octet) (quoted_from InText rest)) ≡ Some octets → IsQEncoded (octet ∷ rest) octets
first_way true octet rest octets mark later escaped same = rw (eqb-true octet 61 mark) (escaped same)
first_way false octet rest octets other later escaped same =
    let found = with_found (cond (octet == 95) 32 octet) (quoted_from InText rest) octets same in
    rw found.1.1 (plain_more octet rest found.0 (octet == 95) other refl (later found.0 found.1.0))

-- what is read so is written so
pub quoted_is : (text octets : List ℕ) → quoted_of text ≡ Some octets → IsQEncoded text octets
quoted_is [] octets same = record { pieces = []; spelled = refl; valued = sym (some_is [] octets same) }
quoted_is (octet ∷ []) octets same =
    first_way (octet == 61) octet [] octets refl (λ rests is. quoted_is [] rests is) (λ none. absurd (cc none)) same
quoted_is (octet ∷ (high ∷ [])) octets same =
    first_way (octet == 61) octet (high ∷ []) octets refl (λ rests is. quoted_is (high ∷ []) rests is) (λ none. absurd (none_digit (hex_digit_of high) octets none)) same
quoted_is (octet ∷ (high ∷ (low ∷ rest))) octets same =
    first_way (octet == 61) octet (high ∷ (low ∷ rest)) octets refl (λ rests is. quoted_is (high ∷ (low ∷ rest)) rests is)
    (λ escaped. escape_more high low rest octets (hex_digit_of high) (hex_digit_of low) refl refl (λ rests is. quoted_is rest rests is) escaped) same
