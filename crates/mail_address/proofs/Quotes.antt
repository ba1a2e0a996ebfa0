-- The value of a quoted string is that of its octets and pairs.
use Rattle.std.proofs.Common.{◌≡◌, ℕ, ◌==◌, true, false, cond, List, [], ◌∷◌, refl, ap, sym, ◌∙◌}
use Rattle.mail_address.specs.Pieces.{Inner, Plain, Pair, inner_before, inner_value, IsInside, IsEnclosed, IsQuotedWord, unquoted_text, unquoted_from}

written-value : (inside : List Inner) → IsInside 34 inside → unquoted_from false (inner_before inside (34 ∷ [])) ≡ inner_value inside
written-value [] plain = refl
written-value (Plain octet ∷ more) plain =
    let rest = inner_before more (34 ∷ []) in
    let marks : List ℕ = cond (octet == 34) (unquoted_from false rest) (octet ∷ unquoted_from false rest) in
    ap (λ b. cond b (unquoted_from true rest) marks) plain.1.0
    ∙ ap (λ b. cond b (unquoted_from false rest) (octet ∷ unquoted_from false rest)) plain.0
    ∙ ap (λ s. octet ∷ s) (written-value more plain.1.1)
written-value (Pair octet ∷ more) plain = ap (λ s. octet ∷ s) (written-value more plain)

pub quoted-value : (text value : List ℕ) → IsQuotedWord text value → IsEnclosed 34 34 text × (value ≡ unquoted_text text)
quoted-value text value q = (
  record { inside = q.inside; plain = q.plain; spelled = q.spelled },
  q.is ∙ sym (ap unquoted_text q.spelled ∙ written-value q.inside q.plain),
)

pub value-quoted : (text value : List ℕ) → IsEnclosed 34 34 text × (value ≡ unquoted_text text) → IsQuotedWord text value
value-quoted text value both =
    let e = both.0 in
    record { inside = e.inside; plain = e.plain; spelled = e.spelled; is = both.1 ∙ ap unquoted_text e.spelled ∙ written-value e.inside e.plain }
