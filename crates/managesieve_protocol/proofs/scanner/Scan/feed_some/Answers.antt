use Rattle.std.proofs.Common.{arith}
use Rattle.managesieve_protocol.proofs.Feeding.{needs_before}
use Rattle.managesieve_protocol.proofs.scanner.Scan.feed_some.Goals as goal

pub returns-then-count-gt0-clause-before : goal.returns-then-count-gt0-clause-before
returns-then-count-gt0-clause-before c = λ count less.
    needs_before c.args.self.now c.feed_run-count.new.self c.args.octets.now c.feed_run-count.result count c.feed_run-count.ensures.taken c.feed_run-count.ensures.still (omega arith)
