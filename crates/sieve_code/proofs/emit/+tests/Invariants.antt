-- The tests that are left, in front of what is written, make the whole code.
use Rattle.std.proofs.Common.{◌≡◌}
use Rattle.sieve_syntax.specs.View.{tests_view}
use Rattle.sieve_syntax.specs.Tree.{all_of, any_of}
use Rattle.sieve_code.specs.Instructions.{instructions_of}
use Rattle.sieve_code.specs.Layout.{test_code, all_code, any_code}
use Rattle.sieve_code.proofs.emit.+tests.Given as goal

abbrev pub invariant-emit_all-loop-test : goal.invariant-emit_all-loop-test
invariant-emit_all-loop-test l =
    all_code (tests_view l.test-iterator.iter.rest.now) l.end (instructions_of l.rows.items) ≡ test_code (all_of (tests_view l.tests)) (instructions_of l.fn.rows.items)

abbrev pub invariant-emit_any-loop-test : goal.invariant-emit_any-loop-test
invariant-emit_any-loop-test l =
    any_code (tests_view l.test-iterator.iter.rest.now) l.end (instructions_of l.rows.items) ≡ test_code (any_of (tests_view l.tests)) (instructions_of l.fn.rows.items)
