use Rattle.std.proofs.Common.{arith}
use Rattle.sieve_match.specs.Search.{Precedes}
use Rattle.sieve_match.specs.declared.twoway.Order.TheVariants.{Rising, Falling}
use Rattle.memchr.proofs.lemmas.CriticalLemmas.{IsCutPlace-of}
use Rattle.sieve_match.proofs.Orders.{Precedes-trans, Precedes-irrefl, Precedes-opposed}
use Rattle.sieve_match.proofs.twoway.find_critical_cut.Goals as goal

pub cut_at-requires-clause-place : goal.cut_at-requires-clause-place
cut_at-requires-clause-place g c =
    let least = c.greatest_suffix-least.ensures.suffix in
    let most = c.greatest_suffix-most.ensures.suffix in
    let fits = least.fits in
    let some = least.some in
    IsCutPlace-of (Precedes Falling) (Precedes Rising) (Precedes-trans Falling) (Precedes-irrefl Falling) (Precedes-irrefl Rising)
    (λ a b p q. Precedes-opposed a b q p) _ _ _ _ (omega arith) least.greatest most.greatest (omega (arith, c.if-least-most.true)) _ least

pub cut_at-requires-else-least-most-clause-place : goal.cut_at-requires-else-least-most-clause-place
cut_at-requires-else-least-most-clause-place g c =
    let least = c.greatest_suffix-least.ensures.suffix in
    let most = c.greatest_suffix-most.ensures.suffix in
    let fits = most.fits in
    let some = most.some in
    IsCutPlace-of (Precedes Rising) (Precedes Falling) (Precedes-trans Rising) (Precedes-irrefl Rising) (Precedes-irrefl Falling)
    Precedes-opposed _ _ _ _ (omega arith) most.greatest least.greatest (omega (arith, c.if-least-most.false)) _ most
