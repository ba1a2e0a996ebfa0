use Rattle.sieve_syntax.specs.Capabilities.{granted_by}
use Rattle.std.proofs.lemmas.Result.{err_from_is_err_and}
use Rattle.sieve_syntax.proofs.FaultLemmas.{fault_on}
use Rattle.sieve_syntax.proofs.ParserLemmas.{statement_no_args, statement_no_row, statement_no_end, statement_found}
use Rattle.sieve_syntax.proofs.parser.command_parser.read_statement.Goals as goal

pub returns-in_err-args : goal.returns-in_err-args
returns-in_err-args c =
    let h = c.in_err-args.ensures in
    let p = err_from_is_err_and c.from_residual.result c.from_residual.ensures.1 in
    rw (p.1, p.2) (fault_on _ _ _ (statement_no_args (granted_by c.args.granted.now) c.args.room c.args.name c.requires _) h)

pub returns-in_err-command : goal.returns-in_err-command
returns-in_err-command c =
    let h = c.in_ok-args.ensures in
    let e = rw c.as_slice.ensures.value at c.in_err-command.ensures.fault in
    let p = err_from_is_err_and c.from_residual-in_err-command.result c.from_residual-in_err-command.ensures.1 in
    rw (p.1, p.2) (fault_on _ _ _ (statement_no_row (granted_by c.args.granted.now) c.args.room c.args.name c.requires _ _ _ h.1) e)

pub returns-in_err-read_mark : goal.returns-in_err-read_mark
returns-in_err-read_mark c =
    let h = c.in_ok-args.ensures in
    let e = rw c.keep_room.ensures at c.in_err-read_mark.ensures.fault in
    let p = err_from_is_err_and c.from_residual-in_err-read_mark.result c.from_residual-in_err-read_mark.ensures.1 in
    rw (p.1, p.2) (fault_on _ _ _ (statement_no_end (granted_by c.args.granted.now) c.args.room c.args.name c.requires _ _ _ h.1) e)

pub returns : goal.returns
returns c =
    let h = c.in_ok-args.ensures in
    let row = rw c.as_slice.ensures.value at c.in_ok-command.ensures.found in
    let alone = rw c.as_slice.ensures.value at c.in_ok-command.ensures.only in
    statement_found (granted_by c.args.granted.now) c.args.room c.args.name c.requires _ _ _ h.1 h.0 _ row alone _ (rw c.keep_room.ensures at c.in_ok-read_mark.ensures.found)
