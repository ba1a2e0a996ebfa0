use Rattle.std.proofs.lemmas.Result.{err_from_is_err_and}
use Rattle.sieve_syntax.proofs.FaultLemmas.{fault_on}
use Rattle.sieve_syntax.proofs.RequireLemmas.{names_none, names_found}
use Rattle.sieve_syntax.proofs.parser.require.read_names.Goals as goal

pub returns-in_err-names : goal.returns-in_err-names
returns-in_err-names c =
    let h = c.in_ok-args.ensures in
    let e = rw c.as_slice.ensures.value at c.in_err-names.ensures in
    let p = err_from_is_err_and c.from_residual-in_err-names.result c.from_residual-in_err-names.ensures.1 in
    rw (p.1, p.2) (fault_on _ _ _ (names_none _ _ _ h.1) e)

pub returns : goal.returns
returns c =
    let h = c.in_ok-args.ensures in
    let row = rw c.as_slice.ensures.value at c.in_ok-names.ensures in
    names_found _ _ _ h.1 h.0 _ row.0 row.1 _ (rw c.keep_room.ensures at c.in_ok-read_mark.ensures.found)
