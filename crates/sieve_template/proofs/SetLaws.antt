-- What `set` stores is one text.
use Rattle.std.proofs.Common.{◌≡◌, ◌≢◌, ◌⊎◌, ℕ, zero, suc, ◌<◌, ◌≤◌, Bool, true, false, List, length, take, get_or, sym, ap, subst, ◌∙◌, inl, inr, ⊎_elim, arith}
use Rattle.std.proofs.lemmas.List.{take_all}
use Rattle.std.proofs.lemmas.Bool.{cases_eq}
use Rattle.sieve_template.specs.Values.{written_text_as, FitsVariable, IsKeptAs}
use Rattle.sieve_template.specs.Modifiers.{precedence_at, Modifies, AppliesAt, IsSetTo}
use Rattle.sieve_template.specs.declared.modifier.Modifier.{Modifier}
use Rattle.sieve_template.specs.declared.modifier.Modifier.TheVariants.{Lower, Upper, LowerFirst, UpperFirst, QuoteWildcard, Length}

pub kept_one : (quote : Bool) (text a b : List ℕ) → IsKeptAs quote text a → IsKeptAs quote text b → a ≡ b
kept_one quote text a b one other =
    let low : one.0 ≤ other.0 = other.1.longest one.0 one.1.within one.1.whole one.1.fits in
    let high : other.0 ≤ one.0 = one.1.longest other.0 other.1.within other.1.whole other.1.fits in
    let same : one.0 ≡ other.0 = omega arith in
    one.2 ∙ ap (λ n. written_text_as quote (take n text)) same ∙ sym other.2

pub modifies_one : (modifier : Modifier) (value a b : List ℕ) → Modifies modifier value a → Modifies modifier value b → a ≡ b
modifies_one Lower value a b one other = one ∙ sym other
modifies_one Upper value a b one other = one ∙ sym other
modifies_one LowerFirst value a b one other = one ∙ sym other
modifies_one UpperFirst value a b one other = one ∙ sym other
modifies_one QuoteWildcard value a b one other = kept_one true value a b one other
modifies_one Length value a b one other = one ∙ sym other

-- some modifier has the precedence, or none has
Sought : List Modifier → ℕ → ℕ → Type 0
Sought modifiers precedence n = ((k : ℕ) × (k < n) × (precedence_at modifiers k ≡ precedence)) ⊎ ((k : ℕ) → k < n → precedence_at modifiers k ≢ precedence)

none_further : (modifiers : List Modifier) (precedence n : ℕ) → ((k : ℕ) → k < n → precedence_at modifiers k ≢ precedence) → precedence_at modifiers n ≢ precedence
    → (k : ℕ) → k < suc n → precedence_at modifiers k ≢ precedence
none_further modifiers precedence n before here k low same = ⊎_elim
    (λ last. here (subst (λ j. precedence_at modifiers j ≡ precedence) last same))
    (λ other. before k (omega (arith, low)) same)
    (cases_eq k n)

sought : (modifiers : List Modifier) (precedence n : ℕ) → Sought modifiers precedence n
unfolding Sought
sought modifiers precedence zero = inr (λ k low. absurd (omega (arith, low)))
sought modifiers precedence (suc n) = ⊎_elim
    (λ here. inl (n, omega arith, here))
    (λ other. ⊎_elim
    (λ found. inl (found.0, omega (arith, found.1), found.2))
    (λ none. inr (none_further modifiers precedence n none other))
    (sought modifiers precedence n))
    (cases_eq (precedence_at modifiers n) precedence)

applied_one : (modifiers : List Modifier) (precedence : ℕ) (value a b : List ℕ) → AppliesAt modifiers precedence value a → AppliesAt modifiers precedence value b → a ≡ b
unfolding Sought
applied_one modifiers precedence value a b one other = ⊎_elim
    (λ found. modifies_one (get_or modifiers found.0 Lower) value a b (one.applied found.0 found.1 found.2) (other.applied found.0 found.1 found.2))
    (λ none. one.otherwise none ∙ sym (other.otherwise none))
    (sought modifiers precedence (length modifiers))

pub set_one : (modifiers : List Modifier) (value a b : List ℕ) → IsSetTo modifiers value a → IsSetTo modifiers value b → a ≡ b
set_one modifiers value a b one other =
    let cased : one.cased ≡ other.cased = applied_one modifiers 40 value one.cased other.cased one.by_case other.by_case in
    let first : one.first_cased ≡ other.first_cased =
    applied_one modifiers 30 other.cased one.first_cased other.first_cased (subst (λ v. AppliesAt modifiers 30 v one.first_cased) cased one.by_first) other.by_first in
    let quoted : one.quoted ≡ other.quoted =
    applied_one modifiers 20 other.first_cased one.quoted other.quoted (subst (λ v. AppliesAt modifiers 20 v one.quoted) first one.by_quoting) other.by_quoting in
    let counted : one.counted ≡ other.counted =
    applied_one modifiers 10 other.quoted one.counted other.counted (subst (λ v. AppliesAt modifiers 10 v one.counted) quoted one.by_length) other.by_length in
    kept_one false other.counted a b (subst (λ v. IsKeptAs false v a) counted one.kept) other.kept

-- a text that a variable holds is kept whole
pub kept_whole : (text kept : List ℕ) → FitsVariable text → IsKeptAs false text kept → kept ≡ text
kept_whole text kept fits is =
    let all : take (length text) text ≡ text = take_all (length text) text (omega arith) in
    let high : length text ≤ is.0 = is.1.longest (length text) (omega arith) (λ some inside. absurd (omega arith)) (subst FitsVariable (sym all) fits) in
    is.2 ∙ take_all is.0 text high
