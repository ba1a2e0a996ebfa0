use Rattle.std.proofs.Common.{◌≡◌, Err, sym, subst, rules}
use Rattle.sqlite.specs.Held.{state}
use Rattle.store_accounts.specs.Account.{takes_mail}
use Rattle.store_accounts.specs.Taking.{AreTaking}
use Rattle.store_accounts.proofs.LeavingLemmas.{mails_show}
use Rattle.store_accounts.proofs.AfterLemmas.{writes_seen, write_lost}
use Rattle.store_accounts.proofs.store.Store.take_mails.Goals as goal

pub returns-clause-writes : goal.returns-clause-writes
returns-clause-writes g c =
    let user = c.args.user.now in
    let folder = c.args.folder.now in
    let leaving = c.in_ok-leaving.leaving in
    let given = subst (λ l. AreTaking user folder l c.in_ok-changes.changes.items) (c.deref.ensures.value) c.in_ok-changes.ensures.taking in
    let taking = subst (AreTaking user folder leaving.items) (sym c.deref-2.ensures.value) given in
    writes_seen (state g.S.Store c.args.self.now) (state g.S.Store c.leaving_of.new.self) (state g.S.Store c.apply.new.self) c.leaving_of.result leaving c.in_ok-leaving.was c.leaving_of.ensures.sees.keeps user (takes_mail folder c.args.count) c.deref-2.result.now
    (λ clean accounts p has. mails_show user folder c.args.count leaving.items c.deref-2.result.now c.requires taking p.0 accounts p.2 has (c.in_ok-leaving.ensures.sees.found clean p.0 p.1))
    c.apply.ensures.crash c.apply.result c.apply.ensures.made c.apply.ensures.settled c.apply.ensures.same c.apply.ensures.named

pub returns-in_err-leaving-clause-writes : goal.returns-in_err-leaving-clause-writes
returns-in_err-leaving-clause-writes g c =
    let e = c.in_err-leaving.field-0.0 in
    let is : c.from_residual.result ≡ Err e = search rules in
    write_lost (state g.S.Store c.args.self.now) (state g.S.Store c.leaving_of.new.self) c.leaving_of.result c.args.user.now (takes_mail c.args.folder.now c.args.count) e c.from_residual.result is c.leaving_of.ensures.sees.keeps c.in_err-leaving.ensures.named

pub returns-in_err-changes-clause-writes : goal.returns-in_err-changes-clause-writes
returns-in_err-changes-clause-writes g c =
    let e = c.in_err-changes.field-0.0 in
    let is : c.from_residual-in_err-changes.result ≡ Err e = search rules in
    write_lost (state g.S.Store c.args.self.now) (state g.S.Store c.leaving_of.new.self) c.leaving_of.result c.args.user.now (takes_mail c.args.folder.now c.args.count) e c.from_residual-in_err-changes.result is c.leaving_of.ensures.sees.keeps c.in_err-changes.ensures.named
