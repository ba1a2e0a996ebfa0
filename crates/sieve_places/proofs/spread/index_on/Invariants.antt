use Rattle.std.proofs.Common.{◌≡◌, drop}
use Rattle.sieve_places.specs.Spread.{token_on, token_from}
use Rattle.sieve_places.proofs.spread.index_on.Given as goal

abbrev pub invariant-loop-index : goal.invariant-loop-index
invariant-loop-index l = token_from l.text l.line l.before l.index (drop l.index l.tokens) ≡ token_on l.text l.line l.tokens
