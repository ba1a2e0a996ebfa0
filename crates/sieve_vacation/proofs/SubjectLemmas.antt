-- The first characters of a mail's subject.
use Rattle.std.proofs.Common.{◌≡◌, ℕ, ◌+◌, ◌<◌, ◌≤◌, Bool, true, false, cond, List, [], ◌∷◌, ◌++◌, length, get_or, take, refl, sym, ap, ◌∙◌, subst, codes, arith}
use Rattle.std.proofs.lemmas.Bool.{lt-ltb, false_from_ne_true, ltb-true}
use Rattle.std.proofs.lemmas.List.{append-nil, take_more, take_all}
use Rattle.std.proofs.lemmas.Str.{encodes-append}
use Rattle.std.specs.Prelude.{encode_utf8, encode_utf8_all, nat_lt}
use Rattle.std.specs.Str.{chars}
use Rattle.sieve_vacation.specs.Layout.{shortened}

-- the character that comes next, after so many
pub short_at : (characters : List ℕ) (k n character : ℕ) → n ≡ k → (k < length characters) × (character ≡ get_or characters k character)
    → (n < length characters) × (character ≡ get_or characters n character)
short_at characters k n character is at = (omega (arith, at.0), at.1 ∙ ap (λ i. get_or characters i character) (sym is))

-- one character more
pub short_more : (characters : List ℕ) (n character : ℕ) (old new : List ℕ) → (n < length characters) × (character ≡ get_or characters n character)
    → old ≡ encode_utf8_all (take n characters) → new ≡ old ++ encode_utf8 character → new ≡ encode_utf8_all (take (n + 1) characters)
short_more characters n character old new at so_far pushed =
    let one : encode_utf8_all (character ∷ []) ≡ encode_utf8 character = append-nil (encode_utf8 character) in
    let more : take (n + 1) characters ≡ take n characters ++ character ∷ [] = take_more characters n character at.0 ∙ ap (λ c. take n characters ++ c ∷ []) (sym at.1) in
    pushed ∙ ap (λ t. t ++ encode_utf8 character) so_far
    ∙ (ap (λ t. encode_utf8_all (take n characters) ++ t) (sym one) ∙ (sym (encodes-append (take n characters) (character ∷ [])) ∙ ap encode_utf8_all (sym more)))

-- there are more than 256
pub short_cut : (text : List ℕ) (n : ℕ) (old new : List ℕ) → n ≡ 256 → n < length (chars text) → old ≡ encode_utf8_all (take n (chars text)) → new ≡ old ++ codes "..."
    → new ≡ shortened text
short_cut text n old new is more so_far pushed =
    let many : nat_lt 256 (length (chars text)) ≡ true = lt-ltb 256 (length (chars text)) (omega arith) in
    let front : old ≡ encode_utf8_all (take 256 (chars text)) = so_far ∙ ap (λ k. encode_utf8_all (take k (chars text))) is in
    rw many (pushed ∙ ap (λ t. t ++ codes "...") front)

-- there are 256 at most
pub short_whole : (text : List ℕ) (n : ℕ) (old : List ℕ) → n ≤ 256 → n ≡ length (chars text) → old ≡ encode_utf8_all (take n (chars text)) → old ≡ shortened text
short_whole text n old few is so_far =
    let one = take_all n (chars text) (omega arith) in
    let other = take_all 256 (chars text) (omega arith) in
    let none : nat_lt 256 (length (chars text)) ≡ false = false_from_ne_true (nat_lt 256 (length (chars text))) (λ many. let more = ltb-true 256 (length (chars text)) many in absurd (omega arith)) in
    rw none (so_far ∙ (ap encode_utf8_all (one ∙ sym other) ∙ sym (append-nil (encode_utf8_all (take 256 (chars text))))))
