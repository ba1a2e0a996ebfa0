-- What is kept stands for what was read so far, each read went on, and the size is small.
use Rattle.std.proofs.Common.{ℕ, ◌+◌, ◌*◌, ◌≤◌, List, take, vec_len}
use Rattle.std.specs.Io.KnownBytes.{Consumes}
use Rattle.cli_run.specs.KeptInputs.{IsKeptWithin, KeepsInput}
use Rattle.cli_run.specs.Streams.{ReadGoesOn, InTurn}
use Rattle.cli_run.proofs.kept_input.KeptInput.read.Given as goal

abbrev pub invariant-loop : goal.invariant-loop
invariant-loop g l = record {
  kept : l.front.kept ≤ vec_len l.front.octets;
  room : vec_len l.front.octets ≤ l.front.kept + 262144;
  small : IsKeptWithin (l.counter * 524288) l.front.kept l.front.count;
  read : (came : List ℕ) × Consumes (g.R.Read.remaining l.initial.input) (g.R.Read.remaining l.input) came × KeepsInput came (take l.front.kept l.front.octets.items) l.front.count;
  reads : InTurn (ReadGoesOn g.R.Read.remaining) l.initial.input l.counter l.input;
}
