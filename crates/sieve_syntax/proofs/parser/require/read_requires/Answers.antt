use Rattle.std.proofs.Common.{ap, sym, ◌∙◌, ◌++◌, ◌∷◌, [], map}
use Rattle.std.proofs.lemmas.List.{map-append}
use Rattle.std.proofs.lemmas.Result.{err_from_is_err_and}
use Rattle.sieve_syntax.specs.Tree.{require}
use Rattle.sieve_syntax.specs.View.{command_view}
use Rattle.sieve_syntax.specs.Steps.{all_names, TakesRequire, IsPastRequires}
use Rattle.sieve_syntax.proofs.Chains.{chain_begins}
use Rattle.sieve_syntax.specs.Capabilities.{granted_by}
use Rattle.sieve_syntax.proofs.FaultLemmas.{fault_on}
use Rattle.sieve_syntax.proofs.ViewLemmas.{view-Require}
use Rattle.sieve_syntax.proofs.RequireLemmas.{granted_push, requires_end, requires_no_names, requires_unknown, requires_more, requires_shorter}
use Rattle.sieve_syntax.proofs.parser.require.read_requires.Goals as goal

pub found-init : goal.found-init
found-init c =
    ([], (ap (map command_view) c.new-found.ensures.items, (ap granted_by c.none-granted.ensures, chain_begins TakesRequire IsPastRequires c.args.reader.now)))

pub returns-in_err-names-clause-fault : goal.returns-in_err-names-clause-fault
returns-in_err-names-clause-fault c =
    let l = c.found in
    let opens = rw c.found-test.true at c.take_require.ensures in
    let e = c.in_err-names.ensures in
    let p = err_from_is_err_and c.from_residual.result c.from_residual.ensures.1 in
    rw (p.1, p.2) (fault_on _ _ _ (requires_no_names _ l.invariant.0 l.reader l.invariant.1.1.1 _ opens) e)

pub returns-in_err-grant-clause-fault : goal.returns-in_err-grant-clause-fault
returns-in_err-grant-clause-fault c =
    let l = c.found in
    let opens = rw c.found-test.true at c.take_require.ensures in
    let found = c.in_ok-names.ensures in
    let e = rw c.as_slice.ensures at c.in_err-grant.ensures.fault in
    let p = err_from_is_err_and c.from_residual-in_err-grant.result c.from_residual-in_err-grant.ensures.1 in
    rw (p.1, p.2) (fault_on _ _ _ (requires_unknown _ l.invariant.0 l.reader l.invariant.1.1.1 _ opens _ _ found) e)

pub found-smaller : goal.found-smaller
found-smaller c =
    let l = c.found in
    let opens = rw c.found-test.true at c.take_require.ensures in
    requires_shorter _ l.invariant.0 l.reader l.invariant.1.1.1 _ opens _ _ c.in_ok-names.ensures

pub found-preserved : goal.found-preserved
found-preserved c =
    let l = c.found in
    let opens = rw c.found-test.true at c.take_require.ensures in
    let known = rw c.as_slice.ensures at c.in_ok-grant.ensures.known in
    let made = rw c.as_slice.ensures at c.in_ok-grant.ensures.made in
    let names = c.in_ok-names.names in (
      l.invariant.0 ++ names ∷ [],
      (
        ap (map command_view) c.in_ok-push.ensures.items ∙ map-append command_view l.found.items _ ∙ rw view-Require (ap (λ trees. trees ++ require names ∷ []) l.invariant.1.0) ∙ sym (map-append require l.invariant.0 (names ∷ [])),
        (granted_push (granted_by l.granted) _ l.invariant.0 names l.invariant.1.1.0 made, requires_more _ l.invariant.0 l.reader l.invariant.1.1.1 _ opens names _ c.in_ok-names.ensures known),
      ),
    )

pub returns-clause-only : goal.returns-clause-only
returns-clause-only c = λ others to takes.
    let l = c.found in
    let ended = rw c.found-test.false at c.take_require.ensures in
    let same = requires_end _ l.invariant.0 l.reader l.invariant.1.1.1 ended.0 others to takes in
    (l.invariant.1.0 ∙ ap (map require) (sym same.0), (l.invariant.1.1.0 ∙ ap (λ each. granted_by (all_names each)) (sym same.0), same.1 ∙ sym ended.1))
