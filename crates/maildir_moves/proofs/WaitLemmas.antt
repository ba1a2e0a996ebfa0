-- Turns within a round go up, so none comes twice before the one who waits.
use Rattle.std.proofs.Common.{◌≡◌, ◌⊎◌, ℕ, Bool, true, false, List, [], ◌∷◌, Option, Some, None, refl, sym, ap, ◌∙◌, subst, inl, inr, Ordering, Less, Equal, Greater, is_lt, true≢false}
use Rattle.std.specs.Ordering.{ordering_reverse}
use Rattle.std.proofs.lemmas.Cmp.{nat_list_cmp_total, tied_itself}
use Rattle.store_accounts.specs.Account.{bytes_cmp}
use Rattle.store_accounts.proofs.AccountLemmas.{bytes_antisymmetric}
use Rattle.maildir_moves.specs.Order.{comes_before, is_behind}
use Rattle.maildir_moves.specs.Waits.{HasNoTurn, OneEach, WaitsForTurn}
use Rattle.maildir_moves.proofs.OrderLemmas.{before_is}

-- ---- texts in their order

before_then : (x y z : List ℕ) → comes_before x y ≡ true → comes_before y z ≡ true → comes_before x z ≡ true
before_then x y z low more = ap is_lt (nat_list_cmp_total.trans x y z (before_is x y low) (before_is y z more))

not_itself : (x y : List ℕ) → comes_before x y ≡ true → x ≡ y → ⊥
not_itself x y low same = true≢false (sym low ∙ ap is_lt (subst (λ t. bytes_cmp x t ≡ Equal) same (tied_itself nat_list_cmp_total x)))

-- of two texts that differ one comes first
one_first : (x y : List ℕ) → comes_before x y ≡ false → ¬ (y ≡ x) → comes_before y x ≡ true
one_first x y high other = go (bytes_cmp x y) refl
  where
    go : (o : Ordering) → bytes_cmp x y ≡ o → comes_before y x ≡ true
    go Less is = absurd (true≢false (sym (ap is_lt is) ∙ high))
    go Equal is = absurd (other (sym (bytes_antisymmetric x y is)))
    go Greater is = ap is_lt (nat_list_cmp_total.antisymm y x ∙ ap ordering_reverse is)

-- ---- turns before the one who waits, and behind

-- each turn is of a user for whom this holds
abbrev All : (List ℕ → Type 0) → List (Option (List ℕ)) → Type 0
All P [] = Unit {0}
All P (Some user ∷ turns) = P user × All P turns
All P (None ∷ turns) = All P turns

module _ (P Q : List ℕ → Type 0) (weaker : (user : List ℕ) → P user → Q user) where
  all_weaker : (turns : List (Option (List ℕ))) → All P turns → All Q turns
  all_weaker [] all = tt
  all_weaker (Some user ∷ turns) all = (weaker user all.0, all_weaker turns all.1)
  all_weaker (None ∷ turns) all = all_weaker turns all

has_none : (user : List ℕ) (turns : List (Option (List ℕ))) → All (λ other. ¬ (other ≡ user)) turns → HasNoTurn user turns
has_none user [] all = tt
has_none user (Some other ∷ turns) all = ((λ same. all.0 (let it : other ≡ user = cc in it)), has_none user turns all.1)
has_none user (None ∷ turns) all = ((λ same. let never : ⊥ = cc in never), has_none user turns all)

module _ (user : List ℕ) where
  -- the one who waits comes behind the last one: each turn is between the two
  abbrev Between : Option (List ℕ) → List ℕ → Type 0
  Between last other = (is_behind last other ≡ true) × (comes_before other user ≡ true)

  between_then : (last : Option (List ℕ)) (first other : List ℕ) → is_behind last first ≡ true → Between (Some first) other → Between last other
  between_then None first other low it = (refl, it.1)
  between_then (Some last) first other low it = (before_then last first other low it.0, it.1)

  rising : (last : Option (List ℕ)) (turns : List (Option (List ℕ))) → is_behind last user ≡ true → WaitsForTurn user last turns → All (Between last) turns × OneEach turns
  rising last [] low waits = (tt, tt)
  rising last (None ∷ turns) low (tables, mail, other, (later, ends, waits)) =
      absurd (true≢false (sym low ∙ ap (is_behind last) (sym mail.2) ∙ ends.0 mail.0 mail.1))
  rising last (Some first ∷ turns) low (tables, mail, other, (later, next, waits)) =
      let high : comes_before user first ≡ false = ap (λ u. comes_before u first) (sym mail.2) ∙ next.0.first mail.0 mail.1 (ap (is_behind last) mail.2 ∙ low) in
      let before : comes_before first user ≡ true = one_first user first high (λ same. other (ap Some same)) in
      let rest = rising (Some first) turns before (subst (λ l. WaitsForTurn user l turns) next.1 waits) in (
        ((next.0.behind, before), all_weaker (Between (Some first)) (Between last) (λ u. between_then last first u next.0.behind) turns rest.0),
        (has_none first turns (all_weaker (Between (Some first)) (λ u. ¬ (u ≡ first)) (λ u it same. not_itself first u it.0 (sym same)) turns rest.0), rest.1),
      )

  -- the one who waits comes before the last one, or was it: each turn is behind that, up to the end of the round, or before the one who waits
  abbrev Aside : List ℕ → List ℕ → Type 0
  Aside last other = (comes_before last other ≡ true) ⊎ (comes_before other user ≡ true)

  not_behind : (last first : List ℕ) → comes_before last user ≡ false → comes_before last first ≡ true → comes_before first user ≡ false
  not_behind last first high low = go (comes_before first user) refl
    where
      go : (b : Bool) → comes_before first user ≡ b → b ≡ false
      go true is = absurd (true≢false (sym (before_then last first user low is) ∙ high))
      go false is = refl

  falling : (last : List ℕ) (turns : List (Option (List ℕ))) → comes_before last user ≡ false → WaitsForTurn user (Some last) turns → All (Aside last) turns × OneEach turns
  falling last [] high waits = (tt, tt)
  falling last (None ∷ turns) high (tables, mail, other, (later, ends, waits)) =
      let rest = rising None turns refl (subst (λ l. WaitsForTurn user l turns) ends.1 waits) in (all_weaker (Between None) (Aside last) (λ u it. inr it.1) turns rest.0, rest.1)
  falling last (Some first ∷ turns) high (tables, mail, other, (later, next, waits)) =
      let rest = falling first turns (not_behind last first high next.0.behind) (subst (λ l. WaitsForTurn user l turns) next.1 waits) in (
        (
          inl next.0.behind,
          all_weaker (Aside first) (Aside last) (λ u it. elim it [ inl up ↦ inl (before_then last first u next.0.behind up) | inr down ↦ inr down ]) turns rest.0,
        ),
        (
          has_none first turns (all_weaker (Aside first) (λ u. ¬ (u ≡ first)) (λ u it same. elim it [
            | inl up ↦ not_itself first u up (sym same)
            | inr down ↦ true≢false (sym (ap (λ t. comes_before t user) (sym same) ∙ down) ∙ not_behind last first high next.0.behind)
          ]) turns rest.0),
          rest.1,
        ),
      )

  go : (last : Option (List ℕ)) (turns : List (Option (List ℕ))) (b : Bool) → is_behind last user ≡ b → WaitsForTurn user last turns → OneEach turns
  go last turns true low waits = (rising last turns low waits).1
  go None turns false low waits = (rising None turns refl waits).1
  go (Some last) turns false low waits = (falling last turns low waits).1

  pub one_each : (last : Option (List ℕ)) (turns : List (Option (List ℕ))) → WaitsForTurn user last turns → OneEach turns
  one_each last turns waits = go last turns (is_behind last user) refl waits
