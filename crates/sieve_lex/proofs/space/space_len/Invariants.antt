use Rattle.std.proofs.Common.{◌≡◌, ◌≤◌, ◌-◌, length, drop}
use Rattle.sieve_lex.specs.Skip.{space_from}
use Rattle.sieve_lex.specs.declared.space.SpaceState.TheVariants.{Between}
use Rattle.sieve_lex.proofs.space.space_len.Given as goal

abbrev pub invariant-loop-at : goal.invariant-loop-at
invariant-loop-at l = record {
  within : l.at ≤ length l.octets;
  read : space_from l.place (drop l.at l.octets) ≡ space_from Between l.octets;
  opened : l.opened ≤ length l.octets;
}

abbrev pub decreases-loop-at : goal.decreases-loop-at
decreases-loop-at l = length l.octets - l.at
