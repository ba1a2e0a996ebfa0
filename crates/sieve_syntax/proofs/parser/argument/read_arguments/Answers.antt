use Rattle.std.proofs.lemmas.Result.{err_from_is_err_and}
use Rattle.sieve_syntax.specs.Arguments.{IsArgument, IsArgumentsEnd}
use Rattle.sieve_syntax.proofs.Chains.{chain_more}
use Rattle.sieve_syntax.proofs.FaultLemmas.{faults_on}
use Rattle.sieve_syntax.proofs.ArgumentLemmas.{end_none, argument_longer, arguments_fail, arguments_end}
use Rattle.sieve_syntax.proofs.parser.argument.read_arguments.Goals as goal

pub returns-in_err-argument : goal.returns-in_err-argument
returns-in_err-argument c =
    let p = err_from_is_err_and c.from_residual.result c.from_residual.ensures.1 in
    let l = c.arguments in
    let fails = faults_on _ _ _ _ (arguments_fail _ l.arguments.items l.reader l.invariant) c.in_err-argument.ensures.begun c.in_err-argument.ensures.fault in
    rw (p.1, p.2) (rw c.take_room-arguments.ensures.kept at fails)

pub arguments-smaller : goal.arguments-smaller
arguments-smaller c = argument_longer c.in-Some.argument _ _ (rw c.in-Some.is at c.in_ok-argument.ensures.found)

pub arguments-preserved : goal.arguments-preserved
arguments-preserved c =
    let l = c.arguments in
    let at = rw c.in-Some.is at c.in_ok-argument.ensures.found in
    let only = rw c.in-Some.is at c.in_ok-argument.ensures.only in
    rw c.in_ok-push.ensures.items (chain_more IsArgument IsArgumentsEnd _ l.arguments.items l.reader c.in-Some.argument _ l.invariant at only (λ end. end_none _ end c.in-Some.argument _ at))

pub returns : goal.returns
returns c =
    let l = c.arguments in
    let ended = rw c.in_default.is at c.in_ok-argument.ensures.found in
    rw c.take_room-arguments.ensures.kept at (arguments_end _ l.arguments.items l.reader l.invariant _ ended)
