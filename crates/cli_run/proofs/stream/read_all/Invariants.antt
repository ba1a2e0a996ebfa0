-- What is filled is what was read so far, and each read went on.
use Rattle.std.proofs.Common.{◌≤◌, take, vec_len}
use Rattle.std.specs.Io.KnownBytes.{Consumes}
use Rattle.cli_run.specs.Streams.{ReadGoesOn, InTurn}
use Rattle.cli_run.proofs.stream.read_all.Given as goal

abbrev pub invariant-loop : goal.invariant-loop
invariant-loop g l = record {
  filled : l.filled ≤ vec_len l.octets;
  read : Consumes (g.R.Read.remaining l.initial.input) (g.R.Read.remaining l.input) (take l.filled l.octets.items);
  reads : InTurn (ReadGoesOn g.R.Read.remaining) l.initial.input l.counter l.input;
}
