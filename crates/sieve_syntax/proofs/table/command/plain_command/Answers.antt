use Rattle.std.proofs.Common.{refl, subst}
use Rattle.std.proofs.lemmas.Result.{err_from_is_err_and}
use Rattle.sieve_syntax.specs.Capabilities.{granted_by}
use Rattle.sieve_syntax.specs.declared.tree.action.Action.TheVariants as D
use Rattle.sieve_syntax.specs.Extension.Imap4flags.{IsFlagList}
use Rattle.sieve_syntax.specs.Table.{IsKeep, IsRedirect}
use Rattle.sieve_syntax.specs.Extension.FileInto.{IsFileInto}
use Rattle.sieve_syntax.specs.Tree.{stop, act}
use Rattle.sieve_syntax.specs.Extension.Vacation.{IsVacation}
use Rattle.sieve_syntax.specs.Valid.{MayAct, MayStand}
use Rattle.sieve_syntax.proofs.TableLemmas.{row_only, fit_fault, bare_fault}
use Rattle.sieve_syntax.proofs.ViewLemmas.{view-Stop, view-Act}
use Rattle.sieve_syntax.proofs.table.command.plain_command.Goals as goal

pub returns-in_err-no_arguments-in-Stop-clause-fault : goal.returns-in_err-no_arguments-in-Stop-clause-fault
returns-in_err-no_arguments-in-Stop-clause-fault c =
    let h = c.in_err-no_arguments-in-Stop.ensures.fault in
    let p = err_from_is_err_and c.from_residual.result c.from_residual.ensures.1 in
    rw (p.1, p.2, c.in-Stop.is) (bare_fault stop _ (MayStand (granted_by c.args.granted.now)) _ h)

pub returns-in_ok-no_arguments-in-Stop-clause-found : goal.returns-in_ok-no_arguments-in-Stop-clause-found
returns-in_ok-no_arguments-in-Stop-clause-found c = rw (view-Stop, c.in-Stop.is) (record { none = c.in_ok-no_arguments-in-Stop.ensures.found; tree_is = refl }, tt)

pub returns-in_ok-no_arguments-in-Stop-clause-only : goal.returns-in_ok-no_arguments-in-Stop-clause-only
returns-in_ok-no_arguments-in-Stop-clause-only c = rw (view-Stop, c.in-Stop.is) (λ other row. row.tree_is)

pub returns-in_err-given-in-Keep-clause-fault : goal.returns-in_err-given-in-Keep-clause-fault
returns-in_err-given-in-Keep-clause-fault c =
    let h = c.in_err-given-in-Keep.ensures in
    let p = err_from_is_err_and c.from_residual-in_err-given-in-Keep.result c.from_residual-in_err-given-in-Keep.ensures.1 in
    rw (p.1, p.2, c.in-Keep.is) (fit_fault IsKeep (λ x. act (D.Keep x)) _ (MayStand (granted_by c.args.granted.now)) (λ x. MayAct (granted_by c.args.granted.now) (D.Keep x)) (λ x may. may) _ h)

pub returns-in_ok-given-in-Keep-clause-found : goal.returns-in_ok-given-in-Keep-clause-found
returns-in_ok-given-in-Keep-clause-found c = rw (view-Act, c.in-Keep.is) (record { value = _; is = c.in_ok-given-in-Keep.ensures.0; tree_is = refl }, c.in_ok-given-in-Keep.ensures.1)

pub returns-in_ok-given-in-Keep-clause-only : goal.returns-in_ok-given-in-Keep-clause-only
returns-in_ok-given-in-Keep-clause-only c = rw (view-Act, c.in-Keep.is) (row_only IsKeep (λ x. act (D.Keep x)) _ (MayStand (granted_by c.args.granted.now)) _ c.in_ok-given-in-Keep.ensures.2)

pub returns-in_err-no_arguments-in-Discard-clause-fault : goal.returns-in_err-no_arguments-in-Discard-clause-fault
returns-in_err-no_arguments-in-Discard-clause-fault c =
    let h = c.in_err-no_arguments-in-Discard.ensures.fault in
    let p = err_from_is_err_and c.from_residual-in_err-no_arguments-in-Discard.result c.from_residual-in_err-no_arguments-in-Discard.ensures.1 in
    rw (p.1, p.2, c.in-Discard.is) (bare_fault (act D.Discard) _ (MayStand (granted_by c.args.granted.now)) _ h)

pub returns-in_ok-no_arguments-in-Discard-clause-found : goal.returns-in_ok-no_arguments-in-Discard-clause-found
returns-in_ok-no_arguments-in-Discard-clause-found c = rw (view-Act, c.in-Discard.is) (record { none = c.in_ok-no_arguments-in-Discard.ensures.found; tree_is = refl }, tt)

pub returns-in_ok-no_arguments-in-Discard-clause-only : goal.returns-in_ok-no_arguments-in-Discard-clause-only
returns-in_ok-no_arguments-in-Discard-clause-only c = rw (view-Act, c.in-Discard.is) (λ other row. row.tree_is)

pub returns-in_err-filing-in-FileInto-clause-fault : goal.returns-in_err-filing-in-FileInto-clause-fault
returns-in_err-filing-in-FileInto-clause-fault c =
    let h = c.in_err-filing-in-FileInto.ensures in
    let p = err_from_is_err_and c.from_residual-in_err-filing-in-FileInto.result c.from_residual-in_err-filing-in-FileInto.ensures.1 in
    rw (p.1, p.2, c.in-FileInto.is) (fit_fault IsFileInto (λ x. act (D.FileInto x)) _ (MayStand (granted_by c.args.granted.now)) (λ x. MayAct (granted_by c.args.granted.now) (D.FileInto x)) (λ x may. may) _ h)

pub returns-in_ok-filing-in-FileInto-clause-found : goal.returns-in_ok-filing-in-FileInto-clause-found
returns-in_ok-filing-in-FileInto-clause-found c = rw (view-Act, c.in-FileInto.is) (record { value = _; is = c.in_ok-filing-in-FileInto.ensures.0; tree_is = refl }, c.in_ok-filing-in-FileInto.ensures.1)

pub returns-in_ok-filing-in-FileInto-clause-only : goal.returns-in_ok-filing-in-FileInto-clause-only
returns-in_ok-filing-in-FileInto-clause-only c = rw (view-Act, c.in-FileInto.is) (row_only IsFileInto (λ x. act (D.FileInto x)) _ (MayStand (granted_by c.args.granted.now)) _ c.in_ok-filing-in-FileInto.ensures.2)

pub returns-in_err-redirect-in-Redirect-clause-fault : goal.returns-in_err-redirect-in-Redirect-clause-fault
returns-in_err-redirect-in-Redirect-clause-fault c =
    let h = c.in_err-redirect-in-Redirect.ensures in
    let p = err_from_is_err_and c.from_residual-in_err-redirect-in-Redirect.result c.from_residual-in_err-redirect-in-Redirect.ensures.1 in
    rw (p.1, p.2, c.in-Redirect.is) (fit_fault IsRedirect (λ x. act (D.Redirect x)) _ (MayStand (granted_by c.args.granted.now)) (λ x. MayAct (granted_by c.args.granted.now) (D.Redirect x)) (λ x may. may) _ h)

pub returns-in_ok-redirect-in-Redirect-clause-found : goal.returns-in_ok-redirect-in-Redirect-clause-found
returns-in_ok-redirect-in-Redirect-clause-found c = rw (view-Act, c.in-Redirect.is) (record { value = _; is = c.in_ok-redirect-in-Redirect.ensures.0; tree_is = refl }, c.in_ok-redirect-in-Redirect.ensures.1)

pub returns-in_ok-redirect-in-Redirect-clause-only : goal.returns-in_ok-redirect-in-Redirect-clause-only
returns-in_ok-redirect-in-Redirect-clause-only c = rw (view-Act, c.in-Redirect.is) (row_only IsRedirect (λ x. act (D.Redirect x)) _ (MayStand (granted_by c.args.granted.now)) _ c.in_ok-redirect-in-Redirect.ensures.2)

pub returns-in_err-vacation-in-Vacation-clause-fault : goal.returns-in_err-vacation-in-Vacation-clause-fault
returns-in_err-vacation-in-Vacation-clause-fault c =
    let h = c.in_err-vacation-in-Vacation.ensures in
    let p = err_from_is_err_and c.from_residual-in_err-vacation-in-Vacation.result c.from_residual-in_err-vacation-in-Vacation.ensures.1 in
    rw (p.1, p.2, c.in-Vacation.is) (fit_fault IsVacation (λ x. act (D.Vacation x)) _ (MayStand (granted_by c.args.granted.now)) (λ x. MayAct (granted_by c.args.granted.now) (D.Vacation x)) (λ x may. may) _ h)

pub returns-in_ok-vacation-in-Vacation-clause-found : goal.returns-in_ok-vacation-in-Vacation-clause-found
returns-in_ok-vacation-in-Vacation-clause-found c = rw (view-Act, c.in-Vacation.is) (record { value = _; is = c.in_ok-vacation-in-Vacation.ensures.0; tree_is = refl }, c.in_ok-vacation-in-Vacation.ensures.1)

pub returns-in_ok-vacation-in-Vacation-clause-only : goal.returns-in_ok-vacation-in-Vacation-clause-only
returns-in_ok-vacation-in-Vacation-clause-only c = rw (view-Act, c.in-Vacation.is) (row_only IsVacation (λ x. act (D.Vacation x)) _ (MayStand (granted_by c.args.granted.now)) _ c.in_ok-vacation-in-Vacation.ensures.2)

pub returns-in-Require-clause-fault : goal.returns-in-Require-clause-fault
returns-in-Require-clause-fault c = rw c.in-Require.is (λ other row may. subst (MayStand (granted_by c.args.granted.now)) row.tree_is may)

pub returns-in_err-texts-in-SetFlag-clause-fault : goal.returns-in_err-texts-in-SetFlag-clause-fault
returns-in_err-texts-in-SetFlag-clause-fault c =
    let h = c.in_err-texts-in-SetFlag.ensures in
    let p = err_from_is_err_and c.from_residual-in_err-texts-in-SetFlag.result c.from_residual-in_err-texts-in-SetFlag.ensures.1 in
    rw (p.1, p.2, c.in-SetFlag.is) (fit_fault IsFlagList (λ x. act (D.SetFlag x)) _ (MayStand (granted_by c.args.granted.now)) (λ x. MayAct (granted_by c.args.granted.now) (D.SetFlag x)) (λ x may. may) _ h)

pub returns-in_ok-texts-in-SetFlag-clause-found : goal.returns-in_ok-texts-in-SetFlag-clause-found
returns-in_ok-texts-in-SetFlag-clause-found c = rw (view-Act, c.in-SetFlag.is) (record { value = _; is = c.in_ok-texts-in-SetFlag.ensures.0; tree_is = refl }, c.in_ok-texts-in-SetFlag.ensures.1)

pub returns-in_ok-texts-in-SetFlag-clause-only : goal.returns-in_ok-texts-in-SetFlag-clause-only
returns-in_ok-texts-in-SetFlag-clause-only c = rw (view-Act, c.in-SetFlag.is) (row_only IsFlagList (λ x. act (D.SetFlag x)) _ (MayStand (granted_by c.args.granted.now)) _ c.in_ok-texts-in-SetFlag.ensures.2)

pub returns-in_err-texts-in-AddFlag-clause-fault : goal.returns-in_err-texts-in-AddFlag-clause-fault
returns-in_err-texts-in-AddFlag-clause-fault c =
    let h = c.in_err-texts-in-AddFlag.ensures in
    let p = err_from_is_err_and c.from_residual-in_err-texts-in-AddFlag.result c.from_residual-in_err-texts-in-AddFlag.ensures.1 in
    rw (p.1, p.2, c.in-AddFlag.is) (fit_fault IsFlagList (λ x. act (D.AddFlag x)) _ (MayStand (granted_by c.args.granted.now)) (λ x. MayAct (granted_by c.args.granted.now) (D.AddFlag x)) (λ x may. may) _ h)

pub returns-in_ok-texts-in-AddFlag-clause-found : goal.returns-in_ok-texts-in-AddFlag-clause-found
returns-in_ok-texts-in-AddFlag-clause-found c = rw (view-Act, c.in-AddFlag.is) (record { value = _; is = c.in_ok-texts-in-AddFlag.ensures.0; tree_is = refl }, c.in_ok-texts-in-AddFlag.ensures.1)

pub returns-in_ok-texts-in-AddFlag-clause-only : goal.returns-in_ok-texts-in-AddFlag-clause-only
returns-in_ok-texts-in-AddFlag-clause-only c = rw (view-Act, c.in-AddFlag.is) (row_only IsFlagList (λ x. act (D.AddFlag x)) _ (MayStand (granted_by c.args.granted.now)) _ c.in_ok-texts-in-AddFlag.ensures.2)

pub returns-in_err-texts-in-RemoveFlag-clause-fault : goal.returns-in_err-texts-in-RemoveFlag-clause-fault
returns-in_err-texts-in-RemoveFlag-clause-fault c =
    let h = c.in_err-texts-in-RemoveFlag.ensures in
    let p = err_from_is_err_and c.from_residual-in_err-texts-in-RemoveFlag.result c.from_residual-in_err-texts-in-RemoveFlag.ensures.1 in
    rw (p.1, p.2, c.in-RemoveFlag.is) (fit_fault IsFlagList (λ x. act (D.RemoveFlag x)) _ (MayStand (granted_by c.args.granted.now)) (λ x. MayAct (granted_by c.args.granted.now) (D.RemoveFlag x)) (λ x may. may) _ h)

pub returns-in_ok-texts-in-RemoveFlag-clause-found : goal.returns-in_ok-texts-in-RemoveFlag-clause-found
returns-in_ok-texts-in-RemoveFlag-clause-found c = rw (view-Act, c.in-RemoveFlag.is) (record { value = _; is = c.in_ok-texts-in-RemoveFlag.ensures.0; tree_is = refl }, c.in_ok-texts-in-RemoveFlag.ensures.1)

pub returns-in_ok-texts-in-RemoveFlag-clause-only : goal.returns-in_ok-texts-in-RemoveFlag-clause-only
returns-in_ok-texts-in-RemoveFlag-clause-only c = rw (view-Act, c.in-RemoveFlag.is) (row_only IsFlagList (λ x. act (D.RemoveFlag x)) _ (MayStand (granted_by c.args.granted.now)) _ c.in_ok-texts-in-RemoveFlag.ensures.2)
