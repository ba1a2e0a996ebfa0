use Rattle.std.proofs.Common.{refl, ◌≡◌, ℕ, ◌-◌, length, arith}
use Rattle.std.proofs.lemmas.Bool.{false≢true}
use Rattle.sieve_match.proofs.Standing.{EqualBy-from, SameFrom-more, SameFrom-of}
use Rattle.sieve_match.proofs.is.Goals as goal

pub returns-then-not-same_run : goal.returns-then-not-same_run
returns-then-not-same_run g c = (
  λ no. absurd (false≢true no),
  λ e. absurd (false≢true (c.if-not-same_run.ensures.1 (SameFrom-of g.C.Comparator.image_of c.args.key.now c.args.value.now e c.loop-i.i 64))),
)

pub loop-i-preserved : goal.loop-i-preserved
loop-i-preserved g c =
    let within = c.loop-i.invariant.within in
    record {
      within = omega (arith, c.loop-i-test.true);
      same = SameFrom-more g.C.Comparator.image_of c.args.key.now c.args.value.now c.loop-i.i 64 c.loop-i.invariant.same
          (c.if-not-same_run.ensures.0 refl);
    }

pub returns : goal.returns
returns g c =
    let f : ℕ → ℕ = g.C.Comparator.image_of in
    let xs = c.args.key.now in
    let ys = c.args.value.now in
    let i : ℕ = c.loop-i.i in
    let within = c.loop-i.invariant.within in
    let long : length xs ≡ length ys = omega (arith, c.if-n-value.false) in (
      λ yes. EqualBy-from f xs ys long (λ k l.
          SameFrom-more f xs ys i (length xs - i) c.loop-i.invariant.same (c.same_run-2.ensures.0 yes) k (omega arith)),
      λ e. c.same_run-2.ensures.1 (SameFrom-of f xs ys e i (length xs - i)),
    )
