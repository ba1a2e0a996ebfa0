use Rattle.sieve_syntax.specs.Capabilities.{granted_by}
use Rattle.std.proofs.lemmas.Result.{err_from_is_err_and}
use Rattle.sieve_syntax.proofs.FaultLemmas.{fault_on}
use Rattle.sieve_syntax.proofs.TestLemmas.{plain_no_args, plain_no_row, plain_found}
use Rattle.sieve_syntax.proofs.parser.test_parser.read_plain.Goals as goal

pub returns-in_err-args : goal.returns-in_err-args
returns-in_err-args c =
    let h = c.in_err-args.ensures in
    let r = c.requires in
    let p = err_from_is_err_and c.from_residual.result c.from_residual.ensures.1 in
    rw (p.1, p.2) (fault_on _ _ _ (plain_no_args c.args.name r.no_not r.no_allof r.no_anyof _ (granted_by c.args.granted.now) c.args.lists c.args.nots) h)

pub returns-in_err-test : goal.returns-in_err-test
returns-in_err-test c =
    let h = c.in_ok-args.ensures in
    let r = c.requires in
    let e = rw c.as_slice.ensures.value at c.in_err-test.ensures.fault in
    let p = err_from_is_err_and c.from_residual-in_err-test.result c.from_residual-in_err-test.ensures.1 in
    rw (p.1, p.2) (fault_on _ _ _ (plain_no_row c.args.name r.no_not r.no_allof r.no_anyof _ (granted_by c.args.granted.now) c.args.lists c.args.nots _ _ h.1) e)

pub returns : goal.returns
returns c =
    let h = c.in_ok-args.ensures in
    let r = c.requires in
    let row = rw c.as_slice.ensures.value at c.in_ok-test.ensures.found in
    let alone = rw c.as_slice.ensures.value at c.in_ok-test.ensures.only in
    rw c.keep_room.ensures (plain_found c.args.name r.no_not r.no_allof r.no_anyof _ (granted_by c.args.granted.now) c.args.lists c.args.nots _ _ h.1 h.0 _ row alone)
