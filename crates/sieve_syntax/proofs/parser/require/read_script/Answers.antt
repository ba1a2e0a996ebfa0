use Rattle.std.proofs.Common.{ap, ◌∙◌, ◌++◌}
use Rattle.std.proofs.lemmas.Result.{err_from_is_err_and}
use Rattle.sieve_syntax.proofs.FaultLemmas.{fault_on}
use Rattle.sieve_syntax.proofs.RequireLemmas.{script_no_requires, script_no_commands, script_no_end, script_only, script_found}
use Rattle.sieve_syntax.proofs.parser.require.read_script.Goals as goal

pub returns-in_err-opening-clause-fault : goal.returns-in_err-opening-clause-fault
returns-in_err-opening-clause-fault c =
    let e = c.in_err-opening.ensures.fault in
    let p = err_from_is_err_and c.from_residual.result c.from_residual.ensures.1 in
    rw (p.1, p.2) (fault_on _ _ _ (script_no_requires _) e)

pub returns-in_err-commands-clause-fault : goal.returns-in_err-commands-clause-fault
returns-in_err-commands-clause-fault c =
    let e = c.in_err-commands.ensures in
    let p = err_from_is_err_and c.from_residual-in_err-commands.result c.from_residual-in_err-commands.ensures.1 in
    rw (p.1, p.2) (fault_on _ _ _ (script_no_commands _ _ _ _ c.in_ok-opening.ensures.only) e)

pub returns-in_err-read_end-clause-fault : goal.returns-in_err-read_end-clause-fault
returns-in_err-read_end-clause-fault c =
    let e = c.in_err-read_end.ensures.fault in
    let p = err_from_is_err_and c.from_residual-in_err-read_end.result c.from_residual-in_err-read_end.ensures.1 in
    rw (p.1, p.2) (fault_on _ _ _ (script_no_end _ _ _ _ c.in_ok-opening.ensures.only _ _ c.in_ok-commands.ensures.1) e)

pub returns-clause-found : goal.returns-clause-found
returns-clause-found c =
    let requires = c.in_ok-opening.ensures.found in
    let commands = c.in_ok-commands.ensures.0 in
    let all = rw c.in_ok-read_end.ensures.found at commands.1.1 in
    script_found _ _ _ requires.0 commands.0 _ requires.1.1.0 requires.1.1.1 all (commands.1.0 ∙ ap (λ s. s ++ commands.0) requires.1.0)

pub returns-clause-only : goal.returns-clause-only
returns-clause-only c = script_only _ _ _ _ c.in_ok-opening.ensures.only _ _ c.in_ok-commands.ensures.1
