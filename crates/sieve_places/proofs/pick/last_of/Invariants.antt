use Rattle.std.proofs.Common.{◌≡◌, ◌<◌, take}
use Rattle.std.specs.Prelude.{IfSome}
use Rattle.sieve_places.specs.Picks.{last_index}
use Rattle.sieve_places.proofs.pick.last_of.Given as goal

abbrev pub invariant-loop-index : goal.invariant-loop-index
invariant-loop-index l = record { so_far : l.found ≡ last_index l.class (take l.index l.tokens); within : IfSome l.found (λ at. at < l.index) }
