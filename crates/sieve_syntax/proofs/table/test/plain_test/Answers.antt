use Rattle.std.proofs.Common.{refl}
use Rattle.std.proofs.lemmas.Result.{err_from_is_err_and}
use Rattle.sieve_syntax.specs.Capabilities.{granted_by}
use Rattle.sieve_syntax.specs.declared.tree.checks.MailCheck.TheVariants as C
use Rattle.sieve_syntax.specs.Table.{IsSizeTest, IsHeaderTest, IsAddressTest}
use Rattle.sieve_syntax.specs.Rows.{IsList}
use Rattle.sieve_syntax.specs.Tree.{yes, no, looks}
use Rattle.sieve_syntax.specs.Valid.{MayCheck, MayTest}
use Rattle.sieve_syntax.proofs.TestLemmas.{beyond_fault, beyond_found, beyond_only}
use Rattle.sieve_syntax.proofs.TableLemmas.{row_only, row_fault, fit_fault, bare_fault}
use Rattle.sieve_syntax.proofs.ViewLemmas.{view-True, view-False, view-Check}
use Rattle.sieve_syntax.proofs.table.test.plain_test.Goals as goal

pub returns-in_err-no_arguments-in-True-clause-fault : goal.returns-in_err-no_arguments-in-True-clause-fault
returns-in_err-no_arguments-in-True-clause-fault c =
    let h = c.in_err-no_arguments-in-True.ensures.fault in
    let p = err_from_is_err_and c.from_residual.result c.from_residual.ensures.1 in
    rw (p.1, p.2, c.in-True.is) (bare_fault yes _ (MayTest (granted_by c.args.granted.now)) _ h)

pub returns-in_ok-no_arguments-in-True-clause-found : goal.returns-in_ok-no_arguments-in-True-clause-found
returns-in_ok-no_arguments-in-True-clause-found c = rw (view-True, c.in-True.is) (record { none = c.in_ok-no_arguments-in-True.ensures.found; tree_is = refl }, tt)

pub returns-in_ok-no_arguments-in-True-clause-only : goal.returns-in_ok-no_arguments-in-True-clause-only
returns-in_ok-no_arguments-in-True-clause-only c = rw (view-True, c.in-True.is) (λ other row. row.tree_is)

pub returns-in_err-no_arguments-in-False-clause-fault : goal.returns-in_err-no_arguments-in-False-clause-fault
returns-in_err-no_arguments-in-False-clause-fault c =
    let h = c.in_err-no_arguments-in-False.ensures.fault in
    let p = err_from_is_err_and c.from_residual-in_err-no_arguments-in-False.result c.from_residual-in_err-no_arguments-in-False.ensures.1 in
    rw (p.1, p.2, c.in-False.is) (bare_fault no _ (MayTest (granted_by c.args.granted.now)) _ h)

pub returns-in_ok-no_arguments-in-False-clause-found : goal.returns-in_ok-no_arguments-in-False-clause-found
returns-in_ok-no_arguments-in-False-clause-found c = rw (view-False, c.in-False.is) (record { none = c.in_ok-no_arguments-in-False.ensures.found; tree_is = refl }, tt)

pub returns-in_ok-no_arguments-in-False-clause-only : goal.returns-in_ok-no_arguments-in-False-clause-only
returns-in_ok-no_arguments-in-False-clause-only c = rw (view-False, c.in-False.is) (λ other row. row.tree_is)

pub returns-in_err-read_size-in-Size-clause-fault : goal.returns-in_err-read_size-in-Size-clause-fault
returns-in_err-read_size-in-Size-clause-fault c =
    let h = c.in_err-read_size-in-Size.ensures in
    let p = err_from_is_err_and c.from_residual-in_err-read_size-in-Size.result c.from_residual-in_err-read_size-in-Size.ensures.1 in
    rw (p.1, p.2, c.in-Size.is) (row_fault IsSizeTest (λ x. looks (C.Size x)) _ (MayTest (granted_by c.args.granted.now)) _ h)

pub returns-in_ok-read_size-in-Size-clause-found : goal.returns-in_ok-read_size-in-Size-clause-found
returns-in_ok-read_size-in-Size-clause-found c = rw (view-Check, c.in-Size.is) (record { value = _; is = c.in_ok-read_size-in-Size.ensures.0; tree_is = refl }, tt)

pub returns-in_ok-read_size-in-Size-clause-only : goal.returns-in_ok-read_size-in-Size-clause-only
returns-in_ok-read_size-in-Size-clause-only c = rw (view-Check, c.in-Size.is) (row_only IsSizeTest (λ x. looks (C.Size x)) _ (MayTest (granted_by c.args.granted.now)) _ c.in_ok-read_size-in-Size.ensures.1)

pub returns-in_err-read_list-in-Exists-clause-fault : goal.returns-in_err-read_list-in-Exists-clause-fault
returns-in_err-read_list-in-Exists-clause-fault c =
    let h = c.in_err-read_list-in-Exists.ensures in
    let p = err_from_is_err_and c.from_residual-in_err-read_list-in-Exists.result c.from_residual-in_err-read_list-in-Exists.ensures.1 in
    rw (p.1, p.2, c.in-Exists.is) (row_fault IsList (λ x. looks (C.Exists x)) _ (MayTest (granted_by c.args.granted.now)) _ h)

pub returns-in_ok-read_list-in-Exists-clause-found : goal.returns-in_ok-read_list-in-Exists-clause-found
returns-in_ok-read_list-in-Exists-clause-found c = rw (view-Check, c.in-Exists.is) (record { value = _; is = c.in_ok-read_list-in-Exists.ensures.0; tree_is = refl }, tt)

pub returns-in_ok-read_list-in-Exists-clause-only : goal.returns-in_ok-read_list-in-Exists-clause-only
returns-in_ok-read_list-in-Exists-clause-only c = rw (view-Check, c.in-Exists.is) (row_only IsList (λ x. looks (C.Exists x)) _ (MayTest (granted_by c.args.granted.now)) _ c.in_ok-read_list-in-Exists.ensures.1)

pub returns-in_err-header-in-Header-clause-fault : goal.returns-in_err-header-in-Header-clause-fault
returns-in_err-header-in-Header-clause-fault c =
    let h = c.in_err-header-in-Header.ensures in
    let p = err_from_is_err_and c.from_residual-in_err-header-in-Header.result c.from_residual-in_err-header-in-Header.ensures.1 in
    rw (p.1, p.2, c.in-Header.is) (fit_fault IsHeaderTest (λ x. looks (C.Header x)) _ (MayTest (granted_by c.args.granted.now)) (λ x. MayCheck (granted_by c.args.granted.now) (C.Header x)) (λ x may. may) _ h)

pub returns-in_ok-header-in-Header-clause-found : goal.returns-in_ok-header-in-Header-clause-found
returns-in_ok-header-in-Header-clause-found c = rw (view-Check, c.in-Header.is) (record { value = _; is = c.in_ok-header-in-Header.ensures.0; tree_is = refl }, c.in_ok-header-in-Header.ensures.1)

pub returns-in_ok-header-in-Header-clause-only : goal.returns-in_ok-header-in-Header-clause-only
returns-in_ok-header-in-Header-clause-only c = rw (view-Check, c.in-Header.is) (row_only IsHeaderTest (λ x. looks (C.Header x)) _ (MayTest (granted_by c.args.granted.now)) _ c.in_ok-header-in-Header.ensures.2)

pub returns-in_err-address-in-Address-clause-fault : goal.returns-in_err-address-in-Address-clause-fault
returns-in_err-address-in-Address-clause-fault c =
    let h = c.in_err-address-in-Address.ensures in
    let p = err_from_is_err_and c.from_residual-in_err-address-in-Address.result c.from_residual-in_err-address-in-Address.ensures.1 in
    rw (p.1, p.2, c.in-Address.is) (fit_fault IsAddressTest (λ x. looks (C.Address x)) _ (MayTest (granted_by c.args.granted.now)) (λ x. MayCheck (granted_by c.args.granted.now) (C.Address x)) (λ x may. may) _ h)

pub returns-in_ok-address-in-Address-clause-found : goal.returns-in_ok-address-in-Address-clause-found
returns-in_ok-address-in-Address-clause-found c = rw (view-Check, c.in-Address.is) (record { value = _; is = c.in_ok-address-in-Address.ensures.0; tree_is = refl }, c.in_ok-address-in-Address.ensures.1)

pub returns-in_ok-address-in-Address-clause-only : goal.returns-in_ok-address-in-Address-clause-only
returns-in_ok-address-in-Address-clause-only c = rw (view-Check, c.in-Address.is) (row_only IsAddressTest (λ x. looks (C.Address x)) _ (MayTest (granted_by c.args.granted.now)) _ c.in_ok-address-in-Address.ensures.2)

pub returns-in_err-test-in_default-clause-fault : goal.returns-in_err-test-in_default-clause-fault
returns-in_err-test-in_default-clause-fault c =
    let d = c.in_default in
    let p = err_from_is_err_and c.from_residual-in_err-test-in_default.result c.from_residual-in_err-test-in_default.ensures.1 in
    rw (p.1, p.2) (beyond_fault c.args.keyword d.not-True d.not-False d.not-Size d.not-Exists d.not-Header d.not-Address c.args.args.now (granted_by c.args.granted.now) _ c.in_err-test-in_default.ensures)

pub returns-in_ok-test-in_default-clause-found : goal.returns-in_ok-test-in_default-clause-found
returns-in_ok-test-in_default-clause-found c =
    let d = c.in_default in
    rw view-Check (beyond_found c.args.keyword d.not-True d.not-False d.not-Size d.not-Exists d.not-Header d.not-Address c.args.args.now _ c.in_ok-test-in_default.ensures.0, c.in_ok-test-in_default.ensures.1)

pub returns-in_ok-test-in_default-clause-only : goal.returns-in_ok-test-in_default-clause-only
returns-in_ok-test-in_default-clause-only c =
    let d = c.in_default in
    rw view-Check (beyond_only c.args.keyword d.not-True d.not-False d.not-Size d.not-Exists d.not-Header d.not-Address c.args.args.now _ c.in_ok-test-in_default.ensures.2)
