-- What is kept of a value is what the definition says, and so is what `set` stores.
use Rattle.std.proofs.Common.{refl, ◌≡◌, ◌≢◌, ℕ, zero, suc, ◌<◌, ◌≤◌, ◌==◌, ◌||◌, ◌&&◌, Bool, true, false, cond, nat_le, List, [], ◌∷◌, length, take, get_or, Option, Some, None, sym, ap, subst, ◌∙◌, ⊎_elim, arith}
use Rattle.std.proofs.lemmas.Bool.{cases_Bool, or_cases, or_left, or_right, leb-true, le-leb, eq-eqb, eqb-true, cases_lt}
use Rattle.sieve_template.specs.declared.limits.TheConstants.{MAX_VALUE_CHARACTERS, MAX_VALUE_OCTETS}
use Rattle.sieve_template.specs.Values.{begins_character, character_count, written_text_as, FitsVariable, EndsCharacter, IsCutAt, IsKeptAs, may_end, greatest_member, kept_as}
use Rattle.sieve_template.specs.Modifiers.{precedence_of, precedence_at, Modifies, HaveNoConflict, AppliesAt, IsSetTo, modified, first_with, modified_if_any, value_set}
use Rattle.sieve_template.specs.declared.modifier.Modifier.{Modifier}
use Rattle.sieve_template.specs.declared.modifier.Modifier.TheVariants.{Lower, Upper, LowerFirst, UpperFirst, QuoteWildcard, Length}
use Rattle.sieve_template.proofs.SetLaws.{kept_one, modifies_one}
use Rattle.sieve_template.proofs.ModifierLemmas.{applies_one}

-- ---- the greatest number that passes

greatest_within : (passes : ℕ → Bool) (n : ℕ) → greatest_member passes n ≤ n
greatest_within passes zero = omega arith
greatest_within passes (suc n) = step (passes (suc n)) (greatest_within passes n)
  where
    step : (b : Bool) → greatest_member passes n ≤ n → cond b (suc n) (greatest_member passes n) ≤ suc n
    step true h = omega arith
    step false h = omega (arith, h)

greatest_passes : (passes : ℕ → Bool) (n : ℕ) → passes 0 ≡ true → passes (greatest_member passes n) ≡ true
greatest_passes passes zero first = first
greatest_passes passes (suc n) first = step (passes (suc n)) refl (greatest_passes passes n first)
  where
    step : (b : Bool) → passes (suc n) ≡ b → passes (greatest_member passes n) ≡ true → passes (cond b (suc n) (greatest_member passes n)) ≡ true
    step true is h = is
    step false is h = h

greatest_longest : (passes : ℕ → Bool) (n other : ℕ) → other ≤ n → passes other ≡ true → other ≤ greatest_member passes n
greatest_longest passes zero other low is = omega (arith, low)
greatest_longest passes (suc n) other low is = step (passes (suc n)) refl (greatest_longest passes n other)
  where
    step : (b : Bool) → passes (suc n) ≡ b → (other ≤ n → passes other ≡ true → other ≤ greatest_member passes n) → other ≤ cond b (suc n) (greatest_member passes n)
    step true at later = omega (arith, low)
    step false at later = ⊎_elim
        (λ (below : other < suc n). later (omega (arith, below)) is)
        (λ (above : suc n ≤ other).
        let same : other ≡ suc n = omega (arith, low, above) in
        let bad : false ≡ true = sym at ∙ ap passes (sym same) ∙ is in absurd (cc bad))
        (cases_lt other (suc n))

-- ---- where a value may end

both_true : (a b : Bool) → (a && b) ≡ true → (a ≡ true) × (b ≡ true)
both_true true b is = (refl, is)
both_true false b is = absurd (cc is)

and_true : (a b : Bool) → a ≡ true → b ≡ true → (a && b) ≡ true
and_true true b one two = two
and_true false b one two = absurd (cc one)

whole_if : (quote : Bool) (text : List ℕ) (place : ℕ) → may_end quote text place ≡ true → EndsCharacter text place
whole_if quote text place is some inside = ⊎_elim
    (λ first. absurd (omega (arith, some, eqb-true place 0 first)))
    (λ more. ⊎_elim
    (λ past. absurd (omega (arith, inside, leb-true (length text) place past)))
    (λ begins. begins)
    (or_cases (nat_le (length text) place) (begins_character (get_or text place 0)) more))
    (or_cases (place == 0) (nat_le (length text) place || begins_character (get_or text place 0)) (both_true _ _ is).0)

fits_if : (quote : Bool) (text : List ℕ) (place : ℕ) → may_end quote text place ≡ true → FitsVariable (written_text_as quote (take place text))
fits_if quote text place is =
    let both = both_true _ _ ((both_true _ _ is).1) in
    record { octets = leb-true _ _ both.0; characters = leb-true _ _ both.1 }

may_if : (quote : Bool) (text : List ℕ) (place : ℕ) → EndsCharacter text place → FitsVariable (written_text_as quote (take place text)) → may_end quote text place ≡ true
may_if quote text place whole fits = and_true _ _ begins (and_true _ _ (le-leb _ _ fits.octets) (le-leb _ _ fits.characters))
  where
    begins : (place == 0 || (nat_le (length text) place || begins_character (get_or text place 0))) ≡ true
    begins = ⊎_elim
        (λ (none : place < 1). or_left (place == 0) _ (eq-eqb place 0 (omega (arith, none))))
        (λ (some : 1 ≤ place). or_right (place == 0) _ (⊎_elim
        (λ (inside : place < length text). or_right (nat_le (length text) place) _ (whole (omega (arith, some)) inside))
        (λ (past : length text ≤ place). or_left (nat_le (length text) place) _ (le-leb _ _ past))
        (cases_lt place (length text))))
        (cases_lt place 1)

nothing_fits : (quote : Bool) (text : List ℕ) → may_end quote text 0 ≡ true
nothing_fits true text = refl
nothing_fits false text = refl

pub kept_is : (quote : Bool) (text : List ℕ) → IsKeptAs quote text (kept_as quote text)
unfolding kept_as
kept_is quote text =
    let passes : ℕ → Bool = may_end quote text in
    let place : ℕ = greatest_member passes (length text) in
    let is : may_end quote text place ≡ true = greatest_passes passes (length text) (nothing_fits quote text) in (
      place,
      record {
        within = greatest_within passes (length text);
        whole = whole_if quote text place is;
        fits = fits_if quote text place is;
        longest = λ other low whole fits. greatest_longest passes (length text) other low (may_if quote text other whole fits);
      },
      refl,
    )

pub kept_same : (quote : Bool) (text kept : List ℕ) → IsKeptAs quote text kept → kept ≡ kept_as quote text
kept_same quote text kept is = kept_one quote text kept (kept_as quote text) is (kept_is quote text)

-- ---- modifiers

modifies_is : (modifier : Modifier) (value : List ℕ) → Modifies modifier value (modified modifier value)
modifies_is Lower value = refl
modifies_is Upper value = refl
modifies_is LowerFirst value = refl
modifies_is UpperFirst value = refl
modifies_is QuoteWildcard value = kept_is true value
modifies_is Length value = refl

pub modified_same : (modifier : Modifier) (value out : List ℕ) → Modifies modifier value out → out ≡ modified modifier value
modified_same modifier value out is = modifies_one modifier value out (modified modifier value) is (modifies_is modifier value)

-- the first modifier of a precedence, and its place
abbrev FoundFirst : List Modifier → ℕ → Option Modifier → Type 0
FoundFirst modifiers precedence None = (k : ℕ) → k < length modifiers → precedence_at modifiers k ≢ precedence
FoundFirst modifiers precedence (Some modifier) = (k : ℕ) × (k < length modifiers) × (precedence_at modifiers k ≡ precedence) × (get_or modifiers k Lower ≡ modifier)

first_found : (modifiers : List Modifier) (precedence : ℕ) → FoundFirst modifiers precedence (first_with modifiers precedence)
first_found [] precedence = λ k inside. absurd (omega (arith, inside))
first_found (modifier ∷ more) precedence = step (precedence_of modifier == precedence) refl (first_with more precedence) (first_found more precedence)
  where
    step : (b : Bool) → (precedence_of modifier == precedence) ≡ b → (later : Option Modifier) → FoundFirst more precedence later → FoundFirst (modifier ∷ more) precedence (cond b (Some modifier) later)
    step true is later h = (0, omega arith, eqb-true _ _ is, refl)
    step false is None h = none
      where
        none : (k : ℕ) → k < length (modifier ∷ more) → precedence_at (modifier ∷ more) k ≢ precedence
        none zero inside same = let bad : false ≡ true = sym is ∙ eq-eqb _ _ same in absurd (cc bad)
        none (suc k) inside same = h k (omega (arith, inside)) same
    step false is (Some other) h = (suc h.0, omega (arith, h.1), h.2, h.3)

-- where no two have one precedence, that is what the modifiers of the precedence make of a value
pub applies_first : (modifiers : List Modifier) (precedence : ℕ) (value : List ℕ) → HaveNoConflict modifiers → AppliesAt modifiers precedence value (modified_if_any (first_with modifiers precedence) value)
applies_first modifiers precedence value alone = step (first_with modifiers precedence) (first_found modifiers precedence)
  where
    step : (found : Option Modifier) → FoundFirst modifiers precedence found → AppliesAt modifiers precedence value (modified_if_any found value)
    step None none = record { applied = λ k inside at. absurd (none k inside at); otherwise = λ absent. refl }
    step (Some modifier) h = applies_one modifiers precedence value (modified modifier value) modifier h.0 alone h.1 h.2 h.3 (modifies_is modifier value)

pub set_is : (modifiers : List Modifier) (value : List ℕ) → HaveNoConflict modifiers → IsSetTo modifiers value (value_set modifiers value)
unfolding value_set
set_is modifiers value alone =
    let cased : List ℕ = modified_if_any (first_with modifiers 40) value in
    let first_cased : List ℕ = modified_if_any (first_with modifiers 30) cased in
    let quoted : List ℕ = modified_if_any (first_with modifiers 20) first_cased in
    let counted : List ℕ = modified_if_any (first_with modifiers 10) quoted in
    record {
      cased = cased;
      first_cased = first_cased;
      quoted = quoted;
      counted = counted;
      by_case = applies_first modifiers 40 value alone;
      by_first = applies_first modifiers 30 cased alone;
      by_quoting = applies_first modifiers 20 first_cased alone;
      by_length = applies_first modifiers 10 quoted alone;
      kept = kept_is false counted;
    }
