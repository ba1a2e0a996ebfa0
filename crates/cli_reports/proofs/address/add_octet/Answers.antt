-- An octet that is escaped is two digits.
use Rattle.std.proofs.Common.{◌≡◌, ◌++◌, ◌/◌, ◌%◌, ℕ, List, [], ◌∷◌, OnOk, cond, slice_index, true, rules, sym, ap, ◌∙◌, subst}
use Rattle.hex.specs.Hex.{encode_lower, encode_with, lower_digits}
use Rattle.cli_reports.specs.Addresses.{is_escaped as is_escaped_of, address_octet}
use Rattle.cli_reports.proofs.address.add_octet.Goals as goal

digits_of : (octet high low : ℕ) → is_escaped_of octet ≡ true → high ≡ slice_index lower_digits (octet / 16) → low ≡ slice_index lower_digits (octet % 16)
    → 92 ∷ high ∷ low ∷ [] ≡ address_octet octet
unfolding encode_with
digits_of octet high low escaped first second =
    ap (λ (x : ℕ). 92 ∷ x ∷ low ∷ []) first
    ∙ ap (λ (x : ℕ). 92 ∷ slice_index lower_digits (octet / 16) ∷ x ∷ []) second
    ∙ sym (ap (λ b. cond b (92 ∷ encode_lower (octet ∷ [])) (octet ∷ [])) escaped)

pub returns : goal.returns
returns c =
    let escaped : is_escaped_of c.args.octet ≡ true = search rules in
    subst (λ (shown : List ℕ). OnOk c.extend_from_slice.result (c.extend_from_slice.new.self ≡ c.args.text.now ++ shown))
    (digits_of c.args.octet c.digit.result c.digit-2.result escaped c.digit.ensures c.digit-2.ensures) c.extend_from_slice.ensures.ok
