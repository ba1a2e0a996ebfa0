-- The values of RFC 5229, section 4.1, and near them what they aren't.
use Rattle.std.proofs.Common.{refl, ◌≡◌, ◌≢◌, ℕ, zero, suc, ◌<◌, true, false, List, [], ◌∷◌, length, get_or, codes, ap, arith, lit≤}
use Rattle.std.specs.Fmt.{digits}
use Rattle.sieve_template.specs.Values.{quoted_text}
use Rattle.sieve_template.specs.Modifiers.{precedence_at, Modifies, RepeatsPrecedence, AppliesAt, IsSetTo}
use Rattle.sieve_template.specs.declared.modifier.Modifier.{Modifier}
use Rattle.sieve_template.specs.declared.modifier.Modifier.TheVariants.{Lower, Upper, LowerFirst, UpperFirst, QuoteWildcard, Length}
use Rattle.sieve_template.proofs.ValueLemmas.{cut_nowhere}

-- set :length "b" of "juMBlEd lETteRS" is "15", and :lower "jumbled letters"

length_of_text : Modifies Length (codes "juMBlEd lETteRS") (codes "15")
unfolding digits
length_of_text = refl

lower_text : Modifies Lower (codes "juMBlEd lETteRS") (codes "jumbled letters")
lower_text = refl

upper_first_text : Modifies UpperFirst (codes "juMBlEd lETteRS") (codes "JuMBlEd lETteRS")
upper_first_text = refl

-- only the first letter changes
lower_first_alone : Modifies LowerFirst (codes "ABC") (codes "abc") → ⊥
lower_first_alone e = omega (arith, ap (λ l. get_or l 1 0) e)

-- two octets of UTF-8 are one character

one_character : Modifies Length (195 ∷ 169 ∷ []) (codes "1")
unfolding digits
one_character = refl

not_two : Modifies Length (195 ∷ 169 ∷ []) (codes "2") → ⊥
unfolding digits
not_two e = omega (arith, ap (λ l. get_or l 0 0) e)

-- :quotewildcard of "Rock*" is "Rock\*", and of a backslash two
rock : Modifies QuoteWildcard (codes "Rock*") (82 ∷ 111 ∷ 99 ∷ 107 ∷ 92 ∷ 42 ∷ [])
rock = (5, cut_nowhere true (codes "Rock*") 5 refl (record { octets = lit≤ tt; characters = lit≤ tt }), refl)

backslash : quoted_text (92 ∷ []) ≡ 92 ∷ 92 ∷ []
backslash = refl

-- no octet but `*`, `?` and the backslash is quoted
no_dot : quoted_text (codes ".") ≡ codes "."
no_dot = refl

-- :upperfirst :lower gives "Jumbled letters": the letters are lowered first, in whatever order the modifiers stand
applies_none : (modifiers : List Modifier) (precedence : ℕ) (value : List ℕ) → ((k : ℕ) → k < length modifiers → precedence_at modifiers k ≢ precedence) → AppliesAt modifiers precedence value value
applies_none modifiers precedence value none = record { applied = λ k inside at. absurd (none k inside at); otherwise = λ absent. refl }

first_of_two : (k : ℕ) → k < 2 → precedence_at (UpperFirst ∷ Lower ∷ []) k ≡ 30 → Modifies (get_or (UpperFirst ∷ Lower ∷ []) k Lower) (codes "jumbled letters") (codes "Jumbled letters")
first_of_two zero inside at = refl
first_of_two (suc zero) inside at = absurd (omega (arith, at))
first_of_two (suc (suc k)) inside at = absurd (omega (arith, inside))

second_of_two : (k : ℕ) → k < 2 → precedence_at (UpperFirst ∷ Lower ∷ []) k ≡ 40 → Modifies (get_or (UpperFirst ∷ Lower ∷ []) k Lower) (codes "juMBlEd lETteRS") (codes "jumbled letters")
second_of_two zero inside at = absurd (omega (arith, at))
second_of_two (suc zero) inside at = refl
second_of_two (suc (suc k)) inside at = absurd (omega (arith, inside))

neither : (precedence : ℕ) → precedence < 30 → (k : ℕ) → k < 2 → precedence_at (UpperFirst ∷ Lower ∷ []) k ≢ precedence
neither precedence low zero inside at = omega (arith, low, at)
neither precedence low (suc zero) inside at = omega (arith, low, at)
neither precedence low (suc (suc k)) inside at = omega (arith, inside)

jumbled : IsSetTo (UpperFirst ∷ Lower ∷ []) (codes "juMBlEd lETteRS") (codes "Jumbled letters")
jumbled = record {
  cased = codes "jumbled letters";
  first_cased = codes "Jumbled letters";
  quoted = codes "Jumbled letters";
  counted = codes "Jumbled letters";
  by_case = record { applied = second_of_two; otherwise = λ none. absurd (none 1 (omega arith) refl) };
  by_first = record { applied = first_of_two; otherwise = λ none. absurd (none 0 (omega arith) refl) };
  by_quoting = applies_none (UpperFirst ∷ Lower ∷ []) 20 (codes "Jumbled letters") (neither 20 (omega arith));
  by_length = applies_none (UpperFirst ∷ Lower ∷ []) 10 (codes "Jumbled letters") (neither 10 (omega arith));
  kept = (15, cut_nowhere false (codes "Jumbled letters") 15 refl (record { octets = lit≤ tt; characters = lit≤ tt }), refl);
}

-- :lower and :upper are of one precedence, :lower and :upperfirst aren't
conflict : RepeatsPrecedence (Lower ∷ Upper ∷ []) 1
conflict = (0, omega arith, refl)

different : (j : ℕ) → j < 1 → precedence_at (Lower ∷ UpperFirst ∷ []) j ≡ precedence_at (Lower ∷ UpperFirst ∷ []) 1 → ⊥
different zero low same = omega (arith, same)
different (suc j) low same = omega (arith, low)

no_conflict : RepeatsPrecedence (Lower ∷ UpperFirst ∷ []) 1 → ⊥
no_conflict h = different h.0 h.1 h.2
