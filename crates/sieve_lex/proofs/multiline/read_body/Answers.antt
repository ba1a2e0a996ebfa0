use Rattle.sieve_lex.proofs.Bodies.{body_next}
use Rattle.sieve_lex.proofs.multiline.read_body.Goals as goal

pub loop-i-preserved : goal.loop-i-preserved
loop-i-preserved c = body_next c.args.octets.now c.loop-i.value c.emit.new.value c.loop-i.i c.loop-i.stage c.after-stage.result _ c.loop-i-test.true c.in_default.not-Done c.in_ok-emit.ensures c.after-stage.ensures c.loop-i.invariant
