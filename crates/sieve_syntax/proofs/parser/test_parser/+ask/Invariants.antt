use Rattle.std.proofs.Common.{◌≡◌, ◌+◌, ◌*◌, ◌++◌, List, length, map}
use Rattle.sieve_lex.specs.declared.token.Mark.TheVariants as K
use Rattle.sieve_syntax.specs.Capabilities.{granted_by}
use Rattle.sieve_syntax.specs.Tree.{TestTree}
use Rattle.sieve_syntax.specs.View.{test_view}
use Rattle.sieve_syntax.specs.Steps.{TakesNextTest}
use Rattle.sieve_syntax.proofs.Chains.{IsSoFar}
use Rattle.sieve_syntax.proofs.ArgumentLemmas.{IsMarked}
use Rattle.sieve_syntax.proofs.parser.test_parser.+ask.Given as goal

abbrev pub decreases-read_test : goal.decreases-read_test
decreases-read_test l = 4 * (l.lists + l.nots) + 2

abbrev pub decreases-read_not : goal.decreases-read_not
decreases-read_not l = 4 * (l.lists + l.nots)

abbrev pub decreases-read_tests : goal.decreases-read_tests
decreases-read_tests l = 4 * (l.lists + l.nots) + 1

abbrev pub decreases-read_more_tests : goal.decreases-read_more_tests
decreases-read_more_tests l = 4 * (l.lists + l.nots) + 3

abbrev pub invariant-read_more_tests-tests : goal.invariant-read_more_tests-tests
invariant-read_more_tests-tests l =
    (more : List TestTree) × ((map test_view l.tests.items ≡ map test_view l.initial.tests.items ++ more)
    × IsSoFar (TakesNextTest (granted_by l.granted) l.lists l.nots) (IsMarked K.CloseParen) l.initial.reader more l.reader)

abbrev pub decreases-read_more_tests-tests : goal.decreases-read_more_tests-tests
decreases-read_more_tests-tests l = length l.reader
