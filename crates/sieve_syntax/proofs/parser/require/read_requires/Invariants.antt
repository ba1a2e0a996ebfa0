use Rattle.std.proofs.Common.{◌≡◌, ℕ, List, length, map}
use Rattle.sieve_syntax.specs.Tree.{require}
use Rattle.sieve_syntax.specs.View.{command_view}
use Rattle.sieve_syntax.specs.Capabilities.{granted_by}
use Rattle.sieve_syntax.specs.Steps.{TakesRequire, IsPastRequires, all_names}
use Rattle.sieve_syntax.proofs.Chains.{IsSoFar}
use Rattle.sieve_syntax.proofs.parser.require.read_requires.Given as goal

abbrev pub invariant-found : goal.invariant-found
invariant-found l =
    (each : List (List (List ℕ))) × ((map command_view l.found.items ≡ map require each)
    × ((granted_by l.granted ≡ granted_by (all_names each)) × IsSoFar TakesRequire IsPastRequires l.initial.reader each l.reader))

abbrev pub decreases-found : goal.decreases-found
decreases-found l = length l.reader
