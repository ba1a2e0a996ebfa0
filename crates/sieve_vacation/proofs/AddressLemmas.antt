-- A text and an address, compared without a copy.
use Rattle.std.proofs.Common.{◌≡◌, ℕ, ◌≤◌, ◌==◌, Bool, true, false, nat_eq, ◌&&◌, List, [], ◌∷◌, ◌++◌, length, take, drop, refl, ap, sym, ◌∙◌, arith}
use Rattle.std.proofs.lemmas.Bool.Decides.{nat_tests}
use Rattle.std.proofs.lemmas.List.{take-append-drop, length-take-le}
use Rattle.std.specs.Char.{to_ascii_lowercase}
use Rattle.mail_address.specs.declared.address.Addr.{Addr}
use Rattle.mail_address.specs.Spelling.{unquoted_address}
use Rattle.sieve_vacation.specs.Cases.{same_ignoring_case}

at_sign : (octet : ℕ) → nat_eq 64 (to_ascii_lowercase octet) ≡ (octet == 64)
at_sign octet = grind (arith, nat_tests)

and_assoc : (a b c : Bool) → (a && (b && c)) ≡ ((a && b) && c)
and_assoc true b c = refl
and_assoc false b c = refl

-- texts cut at one place are the same where their parts are
parts_apart : (local front domain rest : List ℕ) (at : ℕ) → length front ≡ length local
    → same_ignoring_case (local ++ 64 ∷ domain) (front ++ at ∷ rest) ≡ (same_ignoring_case local front && ((at == 64) && same_ignoring_case domain rest))
parts_apart [] [] domain rest at even = ap (λ b. b && same_ignoring_case domain rest) (at_sign at)
parts_apart [] (y ∷ front) domain rest at even = absurd (omega arith)
parts_apart (x ∷ local) [] domain rest at even = absurd (omega arith)
parts_apart (x ∷ local) (y ∷ front) domain rest at even =
    ap (λ b. nat_eq (to_ascii_lowercase x) (to_ascii_lowercase y) && b) (parts_apart local front domain rest at (omega arith))
    ∙ and_assoc (nat_eq (to_ascii_lowercase x) (to_ascii_lowercase y)) (same_ignoring_case local front) ((at == 64) && same_ignoring_case domain rest)

-- the same, where the text is cut after as many octets as the local part has
pub address_is : (address : Addr) (local text front rest after : List ℕ) (at : ℕ) → local ≡ address.local → length local ≤ length text
    → front ≡ take (length local) text → rest ≡ drop (length local) text → rest ≡ at ∷ after
    → same_ignoring_case (unquoted_address address) text ≡ (same_ignoring_case local front && ((at == 64) && same_ignoring_case address.domain after))
address_is address local text front rest after at is within first second cut =
    let n = length local in
    let even : length front ≡ n = ap length first ∙ length-take-le n text within in
    let whole : text ≡ front ++ at ∷ after = sym (take-append-drop n text) ∙ (ap (λ t. t ++ drop n text) (sym first) ∙ ap (λ t. front ++ t) (sym second ∙ cut)) in
    ap (λ t. same_ignoring_case (t ++ 64 ∷ address.domain) text) (sym is) ∙ (ap (same_ignoring_case (local ++ 64 ∷ address.domain)) whole ∙ parts_apart local front address.domain after at even)
