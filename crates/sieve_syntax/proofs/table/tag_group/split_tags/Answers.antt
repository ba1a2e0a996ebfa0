use Rattle.std.proofs.Common.{length-drop, arith}
use Rattle.std.proofs.lemmas.List.{drop-drop}
use Rattle.std.proofs.lemmas.Result.{err_from_is_err_and}
use Rattle.sieve_syntax.proofs.FaultLemmas.{faults_on}
use Rattle.sieve_syntax.proofs.TagLemmas.{settled_more, taken_ends, taken_fails}
use Rattle.sieve_syntax.proofs.table.tag_group.split_tags.Goals as goal

pub returns-in_err-tag_value-clause-fault : goal.returns-in_err-tag_value-clause-fault
returns-in_err-tag_value-clause-fault c =
    let p = err_from_is_err_and c.from_residual.result c.from_residual.ensures.1 in
    let l = c.tag_values in
    let begun = rw c.split_at.ensures.back at c.in_err-tag_value.ensures.begun in
    let fault = rw (c.split_at.ensures.back, c.as_slice.ensures.value) at c.in_err-tag_value.ensures.fault in
    rw (p.1, p.2) (faults_on _ _ _ _ (taken_fails _ _ l.tag_values.items _ _ l.invariant.taken) begun fault)

pub tag_values-preserved : goal.tag_values-preserved
tag_values-preserved c =
    let l = c.tag_values in
    let found = rw (c.in-Some.is, c.split_at.ensures.back) at c.in_ok-tag_value.ensures.found in
    let width = rw (c.in-Some.is, c.split_at.ensures.back) at c.in_ok-tag_value.ensures.width in
    let free = rw (c.in-Some.is, c.as_slice.ensures.value) at c.in_ok-tag_value.ensures.free in
    record {
      inside = omega (arith, width, length-drop l.at c.args.args.now);
      taken = rw (← drop-drop c.in-Some.width l.at c.args.args.now, c.in_ok-push.ensures.items)
          (settled_more _ _ l.tag_values.items _ l.invariant.taken c.in-Some.tag_value _ found free);
    }

pub returns-clause-only : goal.returns-clause-only
returns-clause-only c =
    let l = c.tag_values in
    let plain = rw (c.in_default.is, c.split_at.ensures.back) at c.in_ok-tag_value.ensures.found in
    rw c.split_at-2.ensures.back (taken_ends _ _ l.tag_values.items _ _ l.invariant.taken plain).1
