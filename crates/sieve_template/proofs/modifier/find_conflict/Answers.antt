use Rattle.std.proofs.Common.{arith, below_more}
use Rattle.std.proofs.lemmas.Bool.{false≢true}
use Rattle.sieve_template.specs.Modifiers.{RepeatsPrecedence}
use Rattle.sieve_template.proofs.modifier.find_conflict.Goals as goal

pub loop-k-preserved : goal.loop-k-preserved
loop-k-preserved c =
    below_more (λ j. RepeatsPrecedence c.args.modifiers.now j → ⊥) c.loop-k.k c.loop-k.invariant (λ h. false≢true (c.if-repeats.ensures.1 h))

pub returns : goal.returns
returns c = λ k inside h. c.loop-k.invariant k (omega (arith, inside, c.loop-k-test.false)) h
