-- What a cut keeps of a key.
use Rattle.std.proofs.Common.{◌≡◌, ℕ, ◌+◌, ◌-◌, ◌<◌, max, sym, subst, arith, inl, inr}
use Rattle.memchr.specs.Critical.{IsCutPlace, NoPeriodBelow}
use Rattle.memchr.proofs.lemmas.CriticalLemmas.{IsCut-long, IsCut-small}
use Rattle.memchr.proofs.lemmas.SearchLemmas.{IsShift-large, IsShift-small}
use Rattle.memchr.proofs.lemmas.SuffixLemmas.{IsScan}
use Rattle.sieve_match.specs.Search.{IsKeyCut}
use Rattle.sieve_match.specs.declared.twoway.Cut.{Cut}

-- what a scan knows, at equal places
pub IsScan-same : {lt : ℕ → ℕ → Type 0} {x : ℕ → ℕ} {m p per cand off per' cand' off' : ℕ} → per ≡ per' → cand ≡ cand' → off ≡ off'
    → IsScan lt x m p per cand off → IsScan lt x m p per' cand' off'
IsScan-same {lt} {x} {m} {p} {per} {cand} {off} {per'} {cand'} {off'} d e e' h =
    subst (λ k. IsScan lt x m p k cand' off') d (subst (λ k. IsScan lt x m p per k off') e (subst (λ k. IsScan lt x m p per cand k) e' h))

module _ (x : ℕ → ℕ) (m : ℕ) (cut : Cut) (per : ℕ) (h : IsCutPlace x m cut.critical.index per) where
  -- the octets before the cut do not repeat the period of those after it
  pub IsCut-whole : (((k : ℕ) → k < cut.critical.index → x k ≡ x (k + per)) → ⊥) → cut.shift ≡ max cut.critical.index (m - cut.critical.index)
      → cut.keep.index ≡ 0 → IsKeyCut x m cut
  IsCut-whole differs shift none =
      let parts = IsShift-large cut.critical.index (IsCut-long x m cut.critical.index per h differs).shifts in
      let some = parts.0 in
      let fits = parts.1 in
      record {
        below = h.below;
        critical = h.critical;
        moves = omega arith;
        room = omega arith;
        short = subst (NoPeriodBelow x m) (sym shift) parts.2;
        after = λ k l. absurd (omega arith);
        repeats = λ k l. absurd (omega arith);
        reaches = inl (omega arith);
        left = omega arith;
      }

  -- they repeat it: it is the key's period, and what is left of the key after it is kept
  pub IsCut-periodic : ((k : ℕ) → k < cut.critical.index → x k ≡ x (k + per)) → cut.shift ≡ per → cut.keep.index ≡ m - per → IsKeyCut x m cut
  IsCut-periodic same shift rest =
      let parts = IsShift-small cut.critical.index (IsCut-small x m cut.critical.index per h same).shifts in
      let some = parts.0 in
      let above = parts.1 in
      let fits = parts.2 in
      record {
        below = h.below;
        critical = h.critical;
        moves = omega arith;
        room = omega arith;
        short = subst (NoPeriodBelow x m) (sym shift) parts.4;
        after = λ k l. omega arith;
        repeats = λ k l. subst (λ d. x k ≡ x (k + d)) (sym shift) (parts.3 k (omega arith));
        reaches = inr (omega arith);
        left = omega arith;
      }
