use Rattle.std.proofs.Common.{refl, arith}
use Rattle.lmtp_dialogue.proofs.PathLemmas.{step, found, none_at_end, none_from}
use Rattle.lmtp_dialogue.proofs.path.address_length.Goals as goal

pub loop-at-preserved : goal.loop-at-preserved
loop-at-preserved c =
    step c.args.text.now c.loop-at.at c.loop-at.quoting c.in-Some.next c.loop-at.invariant (omega (arith, c.loop-at-test.true)) c.in-Some.ensures
    (λ is. absurd (cc (c.if-ends_at.ensures.1 is)))

pub returns-then-ends_at-clause-found : goal.returns-then-ends_at-clause-found
returns-then-ends_at-clause-found c =
    let ends = c.if-ends_at.ensures.0 refl in
    (omega (arith, c.loop-at-test.true), found c.args.text.now c.loop-at.at c.loop-at.quoting c.loop-at.invariant (omega (arith, c.loop-at-test.true)) ends.0 ends.1)

pub returns-in_default-clause-none : goal.returns-in_default-clause-none
returns-in_default-clause-none c =
    none_from c.args.text.now c.loop-at.at c.loop-at.quoting c.loop-at.invariant (omega (arith, c.loop-at-test.true)) c.in_default.ensures
    (λ is. absurd (cc (c.if-ends_at.ensures.1 is)))

pub returns-clause-none : goal.returns-clause-none
returns-clause-none c = none_at_end c.args.text.now c.loop-at.at c.loop-at.quoting c.loop-at.invariant (omega (arith, c.loop-at-test.false))
