-- What is written so far is the text without its rest, and each write went on.
use Rattle.std.proofs.Common.{◌≡◌, ℕ, take, drop}
use Rattle.std.specs.Io.KnownBytes.{Appends}
use Rattle.cli_run.specs.Streams.{InTurn, WriteTakes}
use Rattle.cli_run.proofs.stream.put.Given as goal

abbrev pub invariant-loop : goal.invariant-loop
invariant-loop g l = record {
  written : (at : ℕ) × (l.rest ≡ drop at l.text) × Appends (g.W.Write.contents l.initial.output) (g.W.Write.contents l.output) (take at l.text);
  writes : InTurn (WriteTakes g.W.Write.contents) l.initial.output l.counter l.output;
}
