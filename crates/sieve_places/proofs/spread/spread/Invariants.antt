use Rattle.std.proofs.Common.{◌≡◌, ◌++◌, drop}
use Rattle.sieve_places.specs.Spread.{spread_text}
use Rattle.sieve_places.proofs.spread.spread.Given as goal

abbrev pub invariant-loop-token : goal.invariant-loop-token
invariant-loop-token l = l.out ++ spread_text l.text (drop l.token-index l.tokens) ≡ spread_text l.text l.tokens
