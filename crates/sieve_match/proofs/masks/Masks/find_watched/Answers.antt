use Rattle.std.proofs.Common.{refl, ℕ, ◌≡◌, ◌+◌, ◌-◌, ◌*◌, ◌%◌, ◌^◌, ◌<◌, ◌↔◌, IsTrue, bit_or, bit_and, slice_index, sym, subst, arith, ⊎_elim}
use Rattle.std.specs.Int.{bit_at}
use Rattle.std.proofs.lemmas.Bool.{cases_lt, false≢true}
use Rattle.sieve_match.proofs.MaskLemmas.{IsState, IsState-start, IsState-step, Window-ended, ended_clear, taken, Window-from, FitsAt-from}
use Rattle.sieve_match.specs.declared.masks.Masks.{Masks}
use Rattle.sieve_match.proofs.masks.Masks.find_watched.Goals as goal

-- a term of the type given
abbrev by : (A : Type 0) → A → A
by A a = a

-- the state after an octet
abbrev next : Masks → ℕ → ℕ → ℕ
next masks state octet = (bit_or state (bit_and (slice_index masks.octets octet) masks.choosy) * 2) % 2 ^ 64

pub loop-i-init : goal.loop-i-init
loop-i-init g c =
    let self = c.args.self.now in
    let from = c.args.from in
    record {
      state = subst (λ i. IsState (taken self) (λ t. slice_index c.args.value.now (from + t)) self.len i (2 ^ 64 - 2 ^ 1)) (by (0 ≡ from - from) (omega arith))
          (IsState-start (taken self) (λ t. slice_index c.args.value.now (from + t)) self.len (omega (arith, self.short)));
      none = λ k low ends window. absurd (omega (arith, low, ends, c.if-self-eq0.false));
      cost = refl;
    }

pub overflow_sub-result : goal.overflow_sub-result
overflow_sub-result g c =
    let self = c.args.self.now in
    let v = c.args.value.now in
    let short : self.len < 64 = omega (arith, self.short) in
    let some : 0 < self.len = omega (arith, c.if-self-eq0.false) in
    let new = IsState-step self v c.args.from c.loop-i.i c.loop-i.state short c.loop-i.auto.i c.loop-i.invariant.state in
    let clear : IsTrue c.is_clear.result ↔ (bit_at (next self c.loop-i.state (slice_index v c.loop-i.i)) self.len ≡ 0) =
    subst (λ o. IsTrue c.is_clear.result ↔ (bit_at (next self c.loop-i.state o) self.len ≡ 0)) c.octet-octet.ensures.octet c.is_clear.ensures in
    omega (arith, (Window-ended self v c.args.from c.loop-i.i c.loop-i.state short c.loop-i.auto.i some new (clear.0 c.if-is_clear.true)).0)

pub returns-then-is_clear-clause-found : goal.returns-then-is_clear-clause-found
returns-then-is_clear-clause-found g c fits n are =
    let self = c.args.self.now in
    let v = c.args.value.now in
    let i = c.loop-i.i in
    let short : self.len < 64 = omega (arith, self.short) in
    let some : 0 < self.len = omega (arith, c.if-self-eq0.false) in
    let new = IsState-step self v c.args.from i c.loop-i.state short c.loop-i.auto.i c.loop-i.invariant.state in
    let clear : IsTrue c.is_clear.result ↔ (bit_at (next self c.loop-i.state (slice_index v c.loop-i.i)) self.len ≡ 0) =
    subst (λ o. IsTrue c.is_clear.result ↔ (bit_at (next self c.loop-i.state o) self.len ≡ 0)) c.octet-octet.ensures.octet c.is_clear.ensures in
    let ended = Window-ended self v c.args.from i c.loop-i.state short c.loop-i.auto.i some new (clear.0 c.if-is_clear.true) in
    let near = ended.0 in
    let size = c.len-i-end.ensures.len in
    let below = c.loop-i-test.true in
    let octets = c.len-i-end.ensures.octets in (
      record {
        low = omega (arith, near);
        high = omega (arith, near, below, some, size);
        before = λ q low high stands. c.loop-i.invariant.none q low (omega (arith, high, near)) (Window-from self fits n are v octets q stands);
      },
      FitsAt-from self fits n are v octets (i + 1 - self.len) (omega (arith, near, below, size)) ended.1,
    )

pub loop-i-preserved : goal.loop-i-preserved
loop-i-preserved g c =
    let self = c.args.self.now in
    let v = c.args.value.now in
    let i = c.loop-i.i in
    let short : self.len < 64 = omega (arith, self.short) in
    let some : 0 < self.len = omega (arith, c.if-self-eq0.false) in
    let new = IsState-step self v c.args.from i c.loop-i.state short c.loop-i.auto.i c.loop-i.invariant.state in
    let seen = c.octet-octet.ensures.octet in
    record {
      state = subst (λ o. IsState (taken self) (λ t. slice_index v (c.args.from + t)) self.len (i + 1 - c.args.from) (next self c.loop-i.state o)) (sym seen) new;
      none = λ k low ends window. ⊎_elim
          (λ early. c.loop-i.invariant.none k low (omega (arith, early)) window)
          (λ last. false≢true (c.if-is_clear.ensures.1 (subst (λ o. bit_at (next self c.loop-i.state o) self.len ≡ 0) (sym seen)
          (ended_clear self v c.args.from i c.loop-i.state short c.loop-i.auto.i some new k low (omega (arith, ends, last)) window))))
          (cases_lt (k + self.len) (i + 1));
      cost = omega (arith, c.loop-i.invariant.cost, c.octet-octet.ensures.cost);
    }

pub returns-clause-found : goal.returns-clause-found
returns-clause-found g c fits n are k low high stands =
    let octets = c.len-i-end.ensures.octets in
    let within = stands.within in
    let len = are.len in
    c.loop-i.invariant.none k low (omega (arith, within, len, c.loop-i-test.false, c.len-i-end.ensures.len)) (Window-from c.args.self.now fits n are c.args.value.now octets k stands)
