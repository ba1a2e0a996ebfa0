-- The names from the beginning on close where those from the place on do.
use Rattle.std.proofs.Common.{◌↔◌, ℕ, ◌-◌, ◌≤◌, List, length, drop}
use Rattle.sieve_template.specs.Reading.{NamesClose}
use Rattle.sieve_template.proofs.reference.names_end.Given as goal

abbrev pub invariant-loop-at : goal.invariant-loop-at
invariant-loop-at l = record {
  low : l.from ≤ l.at;
  within : l.at ≤ length l.text;
  same : (after : List ℕ) → NamesClose (drop l.from l.text) after ↔ NamesClose (drop l.at l.text) after;
}

abbrev pub decreases-loop-at : goal.decreases-loop-at
decreases-loop-at l = length l.text - l.at
