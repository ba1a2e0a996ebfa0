use Rattle.std.proofs.Common.{arith}
use Rattle.dovecot_userdb.proofs.LineLemmas.{none_by, cut_by}
use Rattle.dovecot_userdb.proofs.talk.place_of.Goals as goal

pub returns-then-other-number : goal.returns-then-other-number
returns-then-other-number c = record {
  within = c.loop-at-test.true;
  cut = cut_by c.args.number c.args.numbers.now c.loop-at.at c.loop-at-test.true c.loop-at.invariant c.if-other-number.true;
}

pub returns : goal.returns
returns c = none_by c.args.number c.args.numbers.now (λ k h. c.loop-at.invariant k (omega arith))
