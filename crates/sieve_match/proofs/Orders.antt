-- The two orders of octets.
use Rattle.std.proofs.Common.{◌≡◌, ℕ, ◌<◌, sym, subst, arith}
use Rattle.std.specs.declared.cmp.Ordering.{Ordering}
use Rattle.std.specs.Ordering.{MatchOrdering, nat_cmp}
use Rattle.std.proofs.lemmas.Cmp.{ranked}
use Rattle.std.specs.declared.cmp.Ordering.TheVariants.{Less, Equal, Greater}
use Rattle.sieve_match.specs.Search.{Precedes}
use Rattle.sieve_match.specs.declared.twoway.Order.{Order}
use Rattle.sieve_match.specs.declared.twoway.Order.TheVariants.{Rising, Falling}

pub Precedes-trans : (order : Order) (a b c : ℕ) → Precedes order a b → Precedes order b c → Precedes order a c
unfolding Precedes
Precedes-trans Rising a b c p q = omega arith
Precedes-trans Falling a b c p q = omega arith

pub Precedes-irrefl : (order : Order) (a : ℕ) → Precedes order a a → ⊥
unfolding Precedes
Precedes-irrefl Rising a p = omega arith
Precedes-irrefl Falling a p = omega arith

-- no octet comes before another in both orders
pub Precedes-opposed : (a b : ℕ) → Precedes Rising a b → Precedes Falling a b → ⊥
unfolding Precedes
Precedes-opposed a b p q = omega arith

swapped : (a b : ℕ) (r : Ordering) → MatchOrdering r (b < a) (b ≡ a) (a < b) → MatchOrdering r (b < a) (a ≡ b) (a < b)
swapped a b Less h = h
swapped a b Equal h = sym h
swapped a b Greater h = h

-- what a comparison of the octets answers, in either order
pub compared_rising : (order : Order) (a b : ℕ) (r : Ordering) → order ≡ Rising → r ≡ nat_cmp a b
    → MatchOrdering r (Precedes order a b) (a ≡ b) (Precedes order b a)
unfolding Precedes
compared_rising order a b r is e =
    subst (λ o. MatchOrdering r (Precedes o a b) (a ≡ b) (Precedes o b a)) (sym is) (ranked a b r e)

pub compared_falling : (order : Order) (a b : ℕ) (r : Ordering) → order ≡ Falling → r ≡ nat_cmp b a
    → MatchOrdering r (Precedes order a b) (a ≡ b) (Precedes order b a)
unfolding Precedes
compared_falling order a b r is e =
    subst (λ o. MatchOrdering r (Precedes o a b) (a ≡ b) (Precedes o b a)) (sym is) (swapped a b r (ranked b a r e))
