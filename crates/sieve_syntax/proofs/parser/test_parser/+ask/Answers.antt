use Rattle.std.proofs.Common.{◌≡◌, subst, ap, sym, ◌∙◌, ◌++◌, ◌∷◌, [], map, append_assoc, length, arith, Ok, ◌-◌}
use Rattle.std.proofs.lemmas.Result.{err_from_is_err_and}
use Rattle.sieve_syntax.specs.Capabilities.{granted_by}
use Rattle.sieve_syntax.specs.View.{test_view}
use Rattle.sieve_syntax.specs.Chains.{Chain}
use Rattle.sieve_syntax.specs.Steps.{TakesNextTest}
use Rattle.sieve_syntax.proofs.FaultLemmas.{fault_on, faults_on}
use Rattle.sieve_syntax.proofs.ViewLemmas.{view-Not, view-AllOf, view-AnyOf, push-test}
use Rattle.sieve_syntax.proofs.TestLemmas.{allof_none, allof_found, anyof_none, anyof_found, not_deep, not_none, not_found, tests_no_first, tests_after, next_stops, next_lacks, next_grows, next_ends, reads_test_longer}
use Rattle.sieve_syntax.proofs.parser.test_parser.+ask.Goals as goal

pub read_test-returns-in_err-read_tests-in-AllOf : goal.read_test-returns-in_err-read_tests-in-AllOf
read_test-returns-in_err-read_tests-in-AllOf t c =
    let e = c.in_err-read_tests-in-AllOf.ensures in
    let opens = rw c.in-AllOf.is at c.in_ok-name.ensures.found in
    let p = err_from_is_err_and c.from_residual-in_err-read_tests-in-AllOf.result c.from_residual-in_err-read_tests-in-AllOf.ensures.1 in
    rw (p.1, p.2) (fault_on _ _ _ (allof_none (granted_by c.args.granted.now) c.args.lists c.args.nots _ _ opens) e)

pub read_test-returns-in_err-read_tests-in-AnyOf : goal.read_test-returns-in_err-read_tests-in-AnyOf
read_test-returns-in_err-read_tests-in-AnyOf t c =
    let e = c.in_err-read_tests-in-AnyOf.ensures in
    let opens = rw c.in-AnyOf.is at c.in_ok-name.ensures.found in
    let p = err_from_is_err_and c.from_residual-in_err-read_tests-in-AnyOf.result c.from_residual-in_err-read_tests-in-AnyOf.ensures.1 in
    rw (p.1, p.2) (fault_on _ _ _ (anyof_none (granted_by c.args.granted.now) c.args.lists c.args.nots _ _ opens) e)

pub read_test-returns-in_ok-read_tests-in-AllOf : goal.read_test-returns-in_ok-read_tests-in-AllOf
read_test-returns-in_ok-read_tests-in-AllOf t c =
    let opens = rw c.in-AllOf.is at c.in_ok-name.ensures.found in
    rw view-AllOf (allof_found (granted_by c.args.granted.now) c.args.lists c.args.nots _ _ opens _ _ c.in_ok-read_tests-in-AllOf.ensures)

pub read_test-returns-in_ok-read_tests-in-AnyOf : goal.read_test-returns-in_ok-read_tests-in-AnyOf
read_test-returns-in_ok-read_tests-in-AnyOf t c =
    let opens = rw c.in-AnyOf.is at c.in_ok-name.ensures.found in
    rw view-AnyOf (anyof_found (granted_by c.args.granted.now) c.args.lists c.args.nots _ _ opens _ _ c.in_ok-read_tests-in-AnyOf.ensures)

pub read_not-returns-then-nots-eq0 : goal.read_not-returns-then-nots-eq0
read_not-returns-then-nots-eq0 t c = not_deep (granted_by c.args.granted.now) c.args.lists c.args.nots _ c.if-nots-eq0.true

pub read_not-returns-in_err-inner : goal.read_not-returns-in_err-inner
read_not-returns-in_err-inner t c =
    let e = c.in_err-inner.ensures in
    let p = err_from_is_err_and c.from_residual.result c.from_residual.ensures.1 in
    rw (p.1, p.2) (fault_on _ _ _ (not_none (granted_by c.args.granted.now) c.args.lists c.args.nots _ (c.args.nots - 1) (omega arith)) e)

pub read_not-returns : goal.read_not-returns
read_not-returns t c = rw (view-Not, c.in_ok-new.ensures.ok) (not_found (granted_by c.args.granted.now) c.args.lists c.args.nots _ (c.args.nots - 1) (omega arith) _ _ c.in_ok-inner.ensures)

pub read_tests-returns-in_err-first : goal.read_tests-returns-in_err-first
read_tests-returns-in_err-first t c =
    let e = c.in_err-first.ensures in
    let p = err_from_is_err_and c.from_residual-in_err-first.result c.from_residual-in_err-first.ensures.1 in
    rw (p.1, p.2) (fault_on _ _ _ (tests_no_first (granted_by c.args.granted.now) c.args.lists c.args.nots _ _ c.in_ok-read_mark.ensures.found (c.args.lists - 1) (omega arith)) e)

pub read_tests-returns : goal.read_tests-returns
read_tests-returns t c =
    tests_after (granted_by c.args.granted.now) c.args.lists c.args.nots _ _ c.in_ok-read_mark.ensures.found (c.args.lists - 1) (omega arith) _ _ c.in_ok-first.ensures c.in_ok-one.one.items _ c.read_more_tests.result (ap (map test_view) c.in_ok-one.ensures.items) c.read_more_tests.ensures

pub read_more_tests-returns-in_err-read_separator : goal.read_more_tests-returns-in_err-read_separator
read_more_tests-returns-in_err-read_separator t c =
    let p = err_from_is_err_and c.from_residual.result c.from_residual.ensures.1 in
    let l = c.tests in
    rw (p.1, p.2) (faults_on _ _ _ _ (next_stops (granted_by c.args.granted.now) c.args.lists c.args.nots _ l.invariant.0 l.reader l.invariant.1.1) c.in_err-read_separator.ensures.no_comma c.in_err-read_separator.ensures.no_close)

pub read_more_tests-returns-in_err-read_test : goal.read_more_tests-returns-in_err-read_test
read_more_tests-returns-in_err-read_test t c =
    let p = err_from_is_err_and c.from_residual-in_err-read_test.result c.from_residual-in_err-read_test.ensures.1 in
    let l = c.tests in
    let comma = c.in_ok-read_separator.ensures.comma (ap Ok c.if-branch.true) in
    rw (p.1, p.2) (fault_on _ _ _ (next_lacks (granted_by c.args.granted.now) c.args.lists c.args.nots _ l.invariant.0 l.reader l.invariant.1.1 _ comma) c.in_err-read_test.ensures)

pub read_more_tests-tests-smaller : goal.read_more_tests-tests-smaller
read_more_tests-tests-smaller t c =
    let comma = c.in_ok-read_separator.ensures.comma (ap Ok c.if-branch.true) in
    omega (arith, ap length comma, reads_test_longer _ _ _ c.in_ok-read_test.ensures.0.0)

pub read_more_tests-tests-preserved : goal.read_more_tests-tests-preserved
read_more_tests-tests-preserved t c =
    let l = c.tests in
    let comma = c.in_ok-read_separator.ensures.comma (ap Ok c.if-branch.true) in
    let made = c.in_ok-read_test.field-0 in
    let started : map test_view l.tests.items ≡ map test_view c.args.tests.items ++ l.invariant.0 = l.invariant.1.0 in (
      l.invariant.0 ++ test_view made ∷ [],
      (
        push-test l.tests.items _ made c.in_ok-push.ensures.items ∙ ap (λ ts. ts ++ test_view made ∷ []) started ∙ append_assoc (map test_view c.args.tests.items) l.invariant.0 (test_view made ∷ []),
        next_grows (granted_by c.args.granted.now) c.args.lists c.args.nots _ l.invariant.0 l.reader l.invariant.1.1 _ comma _ _ c.in_ok-read_test.ensures,
      ),
    )

pub read_more_tests-returns : goal.read_more_tests-returns
read_more_tests-returns t c =
    let l = c.tests in
    let closed = c.in_ok-read_separator.ensures.closed (ap Ok c.if-branch.false) in (
      (l.invariant.0, (l.invariant.1.0, subst (Chain (TakesNextTest (granted_by c.args.granted.now) c.args.lists c.args.nots) l.invariant.0 c.args.reader.now) closed l.invariant.1.1.joins)),
      λ more to chain.
          let found = next_ends (granted_by c.args.granted.now) c.args.lists c.args.nots _ l.invariant.0 l.reader l.invariant.1.1 _ closed more to chain in
          (l.invariant.1.0 ∙ ap (λ ts. map test_view c.args.tests.items ++ ts) (sym found.0), found.1),
    )
