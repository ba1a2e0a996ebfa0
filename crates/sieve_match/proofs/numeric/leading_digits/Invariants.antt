-- The digits so far are those at the front, before the digits at the front of what follows.
use Rattle.std.proofs.Common.{◌≡◌, ◌-◌, ◌≤◌, ◌++◌, length, take, drop}
use Rattle.sieve_match.specs.Numbers.{digits_of}
use Rattle.sieve_match.proofs.numeric.leading_digits.Given as goal

abbrev pub invariant-loop-end : goal.invariant-loop-end
invariant-loop-end l = record {
  within : l.end ≤ length l.text;
  digits : digits_of l.text ≡ take l.end l.text ++ digits_of (drop l.end l.text);
}

abbrev pub decreases-loop-end : goal.decreases-loop-end
decreases-loop-end l = length l.text - l.end
