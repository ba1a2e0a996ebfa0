use Rattle.std.proofs.Common.{sym, ap, ◌∙◌, subst}
use Rattle.sqlite.specs.Held.{state}
use Rattle.store_accounts.specs.Account.{Account, activates}
use Rattle.store_accounts.specs.Promises.{WritesAccount}
use Rattle.managesieve_sessions.specs.Decisions.{change_made}
use Rattle.managesieve_sessions.proofs.OrderLemmas.{value_is, written}
use Rattle.managesieve_sessions.proofs.account.make.Goals as goal

pub returns-in-Put : goal.returns-in-Put
returns-in-Put g c =
    subst (λ (change : Account → Account). WritesAccount c.args.user.now change (state g.S.Store c.args.store.now) (state g.S.Store c.put_script.new.self) c.put_script.result) (sym (ap change_made c.in-Put.is)) (written c.args.user.now _ (state g.S.Store c.args.store.now) (state g.S.Store c.put_script.new.self) c.put_script.result c.put_script.ensures)

pub returns-in-Activate : goal.returns-in-Activate
returns-in-Activate g c =
    subst (λ (change : Account → Account). WritesAccount c.args.user.now change (state g.S.Store c.args.store.now) (state g.S.Store c.set_active.new.self) c.set_active.result)
    (ap activates (value_is c.in-Activate.name) ∙ sym (ap change_made c.in-Activate.is)) (written c.args.user.now _ (state g.S.Store c.args.store.now) (state g.S.Store c.set_active.new.self) c.set_active.result c.set_active.ensures)

pub returns-in-Delete : goal.returns-in-Delete
returns-in-Delete g c =
    subst (λ (change : Account → Account). WritesAccount c.args.user.now change (state g.S.Store c.args.store.now) (state g.S.Store c.delete.new.self) c.delete.result) (sym (ap change_made c.in-Delete.is)) (written c.args.user.now _ (state g.S.Store c.args.store.now) (state g.S.Store c.delete.new.self) c.delete.result c.delete.ensures)

pub returns-in-Rename : goal.returns-in-Rename
returns-in-Rename g c =
    subst (λ (change : Account → Account). WritesAccount c.args.user.now change (state g.S.Store c.args.store.now) (state g.S.Store c.rename.new.self) c.rename.result) (sym (ap change_made c.in-Rename.is)) c.rename.ensures
