-- A copy takes the place of the one that is in its mailbox.
use Rattle.std.proofs.Common.{◌≡◌, ◌<◌, ◌+◌, ℕ, suc, Bool, true, false, cond, not, List, [], ◌∷◌, ◌++◌, length, Some, None, refl, sym, ap, ◌∙◌, nat_eq, arith}
use Rattle.std.specs.Prelude.{nat_lt}
use Rattle.std.specs.List.{position, position_or_len}
use Rattle.std.specs.Cmp.Lexicographic.{pointwise}
use Rattle.std.proofs.Math.ListN.{set}
use Rattle.std.proofs.lemmas.Bool.{ltb-true, ltb-false}
use Rattle.mail_flags.specs.declared.placement.Placement.{Placement}
use Rattle.sieve_syntax.specs.RunState.{with_filed}

module _ (one : Placement) where
  abbrev here : Placement → Bool
  here there = pointwise nat_eq there.mailbox one.mailbox

  -- behind those that are in other mailboxes
  in_place : (filed : List Placement) (n : ℕ) → position_or_len here filed ≡ n → n < length filed → set filed n one ≡ with_filed filed one
  in_place [] n is below = absurd (omega (arith, below))
  in_place (there ∷ more) n is below = step (in_place more) (here there) is
    where
      step : ((m : ℕ) → position_or_len here more ≡ m → m < length more → set more m one ≡ with_filed more one)
          → (same : Bool) → cond (not same) (1 + position_or_len here more) 0 ≡ n → set (there ∷ more) n one ≡ cond same (one ∷ more) (there ∷ with_filed more one)
      step later true is = ap (λ k. set (there ∷ more) k one) (sym is)
      step later false is =
          let next : n ≡ suc (position_or_len here more) = omega (arith, is) in
          ap (λ k. set (there ∷ more) k one) next ∙ ap (λ l. there ∷ l) (later (position_or_len here more) refl (omega (arith, below, next)))

  -- where all are
  behind : (filed : List Placement) → length filed ≡ position_or_len here filed → filed ++ one ∷ [] ≡ with_filed filed one
  behind [] is = refl
  behind (there ∷ more) is = step (behind more) (here there) is
    where
      step : (length more ≡ position_or_len here more → more ++ one ∷ [] ≡ with_filed more one)
          → (same : Bool) → length (there ∷ more) ≡ cond (not same) (1 + position_or_len here more) 0 → there ∷ (more ++ one ∷ []) ≡ cond same (one ∷ more) (there ∷ with_filed more one)
      step later true is = absurd (omega (arith, is))
      step later false is = ap (λ l. there ∷ l) (later (omega (arith, is)))

  at_most : (filed : List Placement) → position_or_len here filed < suc (length filed)
  at_most [] = omega arith
  at_most (there ∷ more) = step (at_most more) (here there)
    where
      step : position_or_len here more < suc (length more) → (same : Bool) → cond (not same) (1 + position_or_len here more) 0 < suc (length (there ∷ more))
      step later true = omega arith
      step later false = omega (arith, later)

  pub filed_at : (filed : List Placement) (place : ℕ) → position here filed ≡ Some place → (place < length filed) × (set filed place one ≡ with_filed filed one)
  filed_at filed place found = step (nat_lt (position_or_len here filed) (length filed)) refl found
    where
      step : (below : Bool) → nat_lt (position_or_len here filed) (length filed) ≡ below → cond below (Some (position_or_len here filed)) None ≡ Some place
          → (place < length filed) × (set filed place one ≡ with_filed filed one)
      step true below e =
          let same : position_or_len here filed ≡ place = cc in
          let low = ltb-true _ _ below in
          (omega (arith, same, low), in_place filed place same (omega (arith, same, low)))
      step false below e = absurd (cc e)

  pub filed_behind : (filed : List Placement) → position here filed ≡ None → filed ++ one ∷ [] ≡ with_filed filed one
  filed_behind filed none = step (nat_lt (position_or_len here filed) (length filed)) refl none
    where
      step : (below : Bool) → nat_lt (position_or_len here filed) (length filed) ≡ below → cond below (Some (position_or_len here filed)) None ≡ None → filed ++ one ∷ [] ≡ with_filed filed one
      step true below e = absurd (cc e)
      step false below e = let most = at_most filed in let high = ltb-false _ _ below in behind filed (omega (arith, most, high))
