-- What the modifier of a precedence makes of a value.
use Rattle.std.proofs.Common.{◌≡◌, ℕ, ◌<◌, List, length, get_or, sym, subst, ◌∙◌, ⊎_elim, Ok, Err, IfOk, Result}
use Rattle.std.proofs.lemmas.Bool.{cases_order}
use Rattle.sieve_template.specs.Modifiers.{precedence_at, Modifies, HaveNoConflict, AppliesAt}
use Rattle.sieve_template.specs.declared.modifier.Modifier.{Modifier}
use Rattle.sieve_template.specs.declared.modifier.Modifier.TheVariants.{Lower}

-- what is known of an Ok
pub ok_then : {T E : Type 0} (r : Result T E) (P Q : T → Type 0) → ((x : T) → P x → Q x) → IfOk r P → IfOk r Q
ok_then (Ok x) P Q step h = step x h
ok_then (Err e) P Q step h = h

-- without a conflict it is the only one of its precedence
pub applies_one : (modifiers : List Modifier) (precedence : ℕ) (value out : List ℕ) (modifier : Modifier) (k : ℕ) → HaveNoConflict modifiers → k < length modifiers
    → precedence_at modifiers k ≡ precedence → get_or modifiers k Lower ≡ modifier → Modifies modifier value out → AppliesAt modifiers precedence value out
applies_one modifiers precedence value out modifier k alone within at is made =
    let own : Modifies (get_or modifiers k Lower) value out = subst (λ m. Modifies m value out) (sym is) made in
    record {
      applied = λ j inside same. ⊎_elim
          (λ one. subst (λ n. Modifies (get_or modifiers n Lower) value out) (sym one) own)
          (λ two. absurd (⊎_elim
          (λ (before : j < k). alone k within (j, before, same ∙ sym at))
          (λ (after : k < j). alone j inside (k, after, at ∙ sym same))
          two))
          (cases_order j k);
      otherwise = λ none. absurd (none k within at);
    }
