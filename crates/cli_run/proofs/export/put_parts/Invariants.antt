-- The parts so far were read and put.
use Rattle.std.proofs.Common.{Ok}
use Rattle.sqlite.specs.Held.{state}
use Rattle.cli_run.specs.Exports.{PutsParts}
use Rattle.cli_run.proofs.export.put_parts.Given as goal
use Rattle.cli_run.specs.Transitions.{from_to}

abbrev pub invariant-loop-at : goal.invariant-loop-at
invariant-loop-at g l =
    PutsParts l.fn.contents 0 l.at (from_to l.fn.writer l.writer) (from_to (g.W.Write.contents l.fn.output) (g.W.Write.contents l.output)) (from_to (state g.S.Store l.fn.store) (state g.S.Store l.store)) (Ok tt)
