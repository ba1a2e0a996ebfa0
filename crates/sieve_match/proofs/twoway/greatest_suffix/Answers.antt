use Rattle.std.proofs.Common.{refl, ◌≡◌, ℕ, ◌+◌, ◌-◌, ◌<◌, sym, ap, subst, ◌∙◌, arith}
use Rattle.memchr.proofs.lemmas.SuffixLemmas.{IsScan-accept, IsScan-skip, IsScan-push, IsScan-block, IsScan-end}
use Rattle.sieve_match.specs.Search.{image_at, Precedes}
use Rattle.sieve_match.proofs.Orders.{Precedes-trans, Precedes-irrefl}
use Rattle.sieve_match.proofs.Cuts.{IsScan-same}
use Rattle.sieve_match.proofs.Counts.{scan_ahead}
use Rattle.sieve_match.proofs.twoway.greatest_suffix.Goals as goal

pub loop-other-preserved-in-Less : goal.loop-other-preserved-in-Less
loop-other-preserved-in-Less g c =
    let x : ℕ → ℕ = image_at g.C.Comparator.image_of (g.K.Key.octet_at c.args.key.now) in
    let m : ℕ = g.K.Key.size c.args.key.now in
    let order = c.args.order in
    let old = c.loop-other.invariant in
    let ordered = old.ordered in
    let abreast = old.abreast in
    let off : ℕ = c.loop-other.other.index - c.loop-other.candidate.index in
    let a : c.image-a.result ≡ x (c.loop-other.best.index + off) =
    c.image-a.ensures ∙ ap g.C.Comparator.image_of c.octet.ensures ∙ ap x (omega arith) in
    let b : c.image-b.result ≡ x (c.loop-other.candidate.index + off) =
    c.image-b.ensures ∙ ap g.C.Comparator.image_of c.octet-in-loop-other.ensures ∙ ap x (omega arith) in
    let won : Precedes order (x (c.loop-other.best.index + off)) (x (c.loop-other.candidate.index + off)) =
    subst (λ v. Precedes order v (x (c.loop-other.candidate.index + off))) a (subst (Precedes order c.image-a.result) b c.in-Less.ensures) in
    let room : c.loop-other.candidate.index + off < m = omega (arith, c.loop-other-test.true, c.len-m.ensures) in
    let next = c.next-candidate-in-Less.ensures.index in
    record {
      best = old.candidate;
      candidate = c.next-candidate-in-Less.ensures.spot;
      current = old.candidate;
      other = c.next-candidate-in-Less.ensures.spot;
      ordered = omega arith;
      abreast = refl;
      scan = IsScan-same refl (omega arith) (omega arith) (IsScan-accept (Precedes order) (Precedes-trans order) (Precedes-irrefl order) x m old.scan room won);
      cost = omega (arith, old.cost, c.tick.ensures, scan_ahead old.scan, old.scan.short, ordered, next);
      all = omega (arith, old.all, c.tick.ensures, ordered, next);
    }

pub loop-other-preserved-in-Greater : goal.loop-other-preserved-in-Greater
loop-other-preserved-in-Greater g c =
    let x : ℕ → ℕ = image_at g.C.Comparator.image_of (g.K.Key.octet_at c.args.key.now) in
    let m : ℕ = g.K.Key.size c.args.key.now in
    let order = c.args.order in
    let old = c.loop-other.invariant in
    let ordered = old.ordered in
    let abreast = old.abreast in
    let off : ℕ = c.loop-other.other.index - c.loop-other.candidate.index in
    let a : c.image-a.result ≡ x (c.loop-other.best.index + off) =
    c.image-a.ensures ∙ ap g.C.Comparator.image_of c.octet.ensures ∙ ap x (omega arith) in
    let b : c.image-b.result ≡ x (c.loop-other.candidate.index + off) =
    c.image-b.ensures ∙ ap g.C.Comparator.image_of c.octet-in-loop-other.ensures ∙ ap x (omega arith) in
    let lost : Precedes order (x (c.loop-other.candidate.index + off)) (x (c.loop-other.best.index + off)) =
    subst (λ v. Precedes order v (x (c.loop-other.best.index + off))) b (subst (Precedes order c.image-b.result) a c.in-Greater.ensures) in
    let room : c.loop-other.candidate.index + off < m = omega (arith, c.loop-other-test.true, c.len-m.ensures) in
    let next = c.next-candidate-in-Greater.ensures.index in
    record {
      best = old.best;
      candidate = c.next-candidate-in-Greater.ensures.spot;
      current = old.best;
      other = c.next-candidate-in-Greater.ensures.spot;
      ordered = omega arith;
      abreast = refl;
      scan = IsScan-same (omega arith) (omega arith) (omega arith)
          (IsScan-skip (Precedes order) (Precedes-trans order) (Precedes-irrefl order) x m old.scan room lost);
      cost = omega (arith, old.cost, c.tick.ensures, next);
      all = omega (arith, old.all, c.tick.ensures, ordered, next);
    }

pub loop-other-preserved-then-other-candidate : goal.loop-other-preserved-then-other-candidate
loop-other-preserved-then-other-candidate g c =
    let x : ℕ → ℕ = image_at g.C.Comparator.image_of (g.K.Key.octet_at c.args.key.now) in
    let m : ℕ = g.K.Key.size c.args.key.now in
    let order = c.args.order in
    let old = c.loop-other.invariant in
    let ordered = old.ordered in
    let abreast = old.abreast in
    let off : ℕ = c.loop-other.other.index - c.loop-other.candidate.index in
    let a : c.image-a.result ≡ x (c.loop-other.best.index + off) =
    c.image-a.ensures ∙ ap g.C.Comparator.image_of c.octet.ensures ∙ ap x (omega arith) in
    let b : c.image-b.result ≡ x (c.loop-other.candidate.index + off) =
    c.image-b.ensures ∙ ap g.C.Comparator.image_of c.octet-in-loop-other.ensures ∙ ap x (omega arith) in
    let room : c.loop-other.candidate.index + off < m = omega (arith, c.loop-other-test.true, c.len-m.ensures) in
    let next = c.next-other.ensures.index in
    let whole = c.if-other-candidate.true in
    record {
      best = old.best;
      candidate = c.next-other.ensures.spot;
      current = old.best;
      other = c.next-other.ensures.spot;
      ordered = omega arith;
      abreast = refl;
      scan = IsScan-same refl (omega arith) (omega arith)
          (IsScan-block (Precedes order) (Precedes-trans order) (Precedes-irrefl order) x m old.scan room (sym a ∙ c.in-Equal.ensures ∙ b) (omega arith));
      cost = omega (arith, old.cost, c.tick.ensures, next);
      all = omega (arith, old.all, c.tick.ensures, ordered, next);
    }

pub loop-other-preserved : goal.loop-other-preserved
loop-other-preserved g c =
    let x : ℕ → ℕ = image_at g.C.Comparator.image_of (g.K.Key.octet_at c.args.key.now) in
    let m : ℕ = g.K.Key.size c.args.key.now in
    let order = c.args.order in
    let old = c.loop-other.invariant in
    let ordered = old.ordered in
    let abreast = old.abreast in
    let short = old.scan.short in
    let off : ℕ = c.loop-other.other.index - c.loop-other.candidate.index in
    let a : c.image-a.result ≡ x (c.loop-other.best.index + off) =
    c.image-a.ensures ∙ ap g.C.Comparator.image_of c.octet.ensures ∙ ap x (omega arith) in
    let b : c.image-b.result ≡ x (c.loop-other.candidate.index + off) =
    c.image-b.ensures ∙ ap g.C.Comparator.image_of c.octet-in-loop-other.ensures ∙ ap x (omega arith) in
    let room : c.loop-other.candidate.index + off < m = omega (arith, c.loop-other-test.true, c.len-m.ensures) in
    let next = c.next-other.ensures.index in
    let next_current = c.next-current.ensures.index in
    let part = c.if-other-candidate.false in
    record {
      best = old.best;
      candidate = old.candidate;
      current = c.next-current.ensures.spot;
      other = c.next-other.ensures.spot;
      ordered = omega arith;
      abreast = omega arith;
      scan = IsScan-same refl refl (omega arith)
          (IsScan-push (Precedes order) (Precedes-trans order) (Precedes-irrefl order) x m old.scan room (sym a ∙ c.in-Equal.ensures ∙ b) (omega arith));
      cost = omega (arith, old.cost, c.tick.ensures, next);
      all = omega (arith, old.all, c.tick.ensures, ordered, next);
    }

pub returns-clause-suffix : goal.returns-clause-suffix
returns-clause-suffix g c =
    let x : ℕ → ℕ = image_at g.C.Comparator.image_of (g.K.Key.octet_at c.args.key.now) in
    let order = c.args.order in
    let old = c.loop-other.invariant in
    let ordered = old.ordered in
    let within = old.scan.within in
    IsScan-end (Precedes order) (Precedes-trans order) (Precedes-irrefl order) x _ old.scan (omega (arith, c.loop-other-test.false, c.len-m.ensures))

pub returns-clause-cost : goal.returns-clause-cost
returns-clause-cost g c =
    let old = c.loop-other.invariant in
    omega (arith, old.cost, scan_ahead old.scan, old.scan.within, old.scan.some, old.ordered)
