use Rattle.std.proofs.Common.{sym, ap, ◌∙◌}
use Rattle.sieve_syntax.specs.View.{test_view, tests_view}
use Rattle.sieve_code.specs.Instructions.{instructions_of}
use Rattle.sieve_code.specs.Layout.{test_code, all_code, any_code}
use Rattle.sieve_code.proofs.LayoutLemmas.{all_last, any_last}
use Rattle.sieve_code.proofs.emit.+tests.Goals as goal

pub emit_all-loop-test-preserved : goal.emit_all-loop-test-preserved
emit_all-loop-test-preserved t c =
    let rows = instructions_of c.loop-test.rows.items in
    let left = c.next.new.self.iter.rest.now in
    let end = c.len-end.result in
    ap (all_code (tests_view left) end) (c.in_ok-emit_test.ensures ∙ ap (test_code (test_view c.in-Some.test.now)) c.in_ok-put-2.ensures)
    ∙ sym (all_last left c.in-Some.test.now end rows)
    ∙ ap (λ tests. all_code (tests_view tests) end rows) (sym c.in-Some.ensures.steps)
    ∙ c.loop-test.invariant

pub emit_any-loop-test-preserved : goal.emit_any-loop-test-preserved
emit_any-loop-test-preserved t c =
    let rows = instructions_of c.loop-test.rows.items in
    let left = c.next.new.self.iter.rest.now in
    let end = c.len-end.result in
    ap (any_code (tests_view left) end) (c.in_ok-emit_test.ensures ∙ ap (test_code (test_view c.in-Some.test.now)) c.in_ok-put-2.ensures)
    ∙ sym (any_last left c.in-Some.test.now end rows)
    ∙ ap (λ tests. any_code (tests_view tests) end rows) (sym c.in-Some.ensures.steps)
    ∙ c.loop-test.invariant
