-- Each change is one write of the store.
use Rattle.std.proofs.Common.{◌≡◌, Some, None, sym, ap, subst}
use Rattle.sqlite.specs.Held.{state}
use Rattle.store_accounts.specs.Account.{Account}
use Rattle.store_engine.specs.ScriptEdits.{WritesFound, edited}
use Rattle.store_engine.specs.declared.script_edit.ScriptEdit.{ScriptEdit}
use Rattle.store_engine.specs.declared.script_edit.ScriptEdit.TheVariants.{Activate, Deactivate, Delete, Rename}
use Rattle.store_engine.proofs.EditLemmas.{found_written}
use Rattle.store_engine.proofs.script_edit.make.Goals as goal

pub returns-in-Activate : goal.returns-in-Activate
returns-in-Activate g c =
    let is : c.args.edit.now ≡ Activate c.as_slice.result.now = cc in
    subst (λ (e : ScriptEdit). WritesFound c.args.user.now (edited e) (state g.S.Store c.args.store.now) (state g.S.Store c.set_active.new.self) c.set_active.result) (sym is)
    (found_written c.args.user.now _ (state g.S.Store c.args.store.now) (state g.S.Store c.set_active.new.self) c.set_active.result c.set_active.ensures)

pub returns-in-Deactivate : goal.returns-in-Deactivate
returns-in-Deactivate g c =
    let is : c.args.edit.now ≡ Deactivate = cc in
    subst (λ (e : ScriptEdit). WritesFound c.args.user.now (edited e) (state g.S.Store c.args.store.now) (state g.S.Store c.set_active-in-Deactivate.new.self) c.set_active-in-Deactivate.result) (sym is)
    (found_written c.args.user.now _ (state g.S.Store c.args.store.now) (state g.S.Store c.set_active-in-Deactivate.new.self) c.set_active-in-Deactivate.result c.set_active-in-Deactivate.ensures)

pub returns-in-Delete : goal.returns-in-Delete
returns-in-Delete g c =
    let is : c.args.edit.now ≡ Delete c.as_slice-in-Delete.result.now = cc in
    subst (λ (e : ScriptEdit). WritesFound c.args.user.now (edited e) (state g.S.Store c.args.store.now) (state g.S.Store c.delete.new.self) c.delete.result) (sym is)
    (found_written c.args.user.now _ (state g.S.Store c.args.store.now) (state g.S.Store c.delete.new.self) c.delete.result c.delete.ensures)

pub returns-in-Rename : goal.returns-in-Rename
returns-in-Rename g c =
    let is : c.args.edit.now ≡ Rename c.as_slice-in-Rename.result.now c.as_slice-in-Rename-2.result.now = cc in
    subst (λ (e : ScriptEdit). WritesFound c.args.user.now (edited e) (state g.S.Store c.args.store.now) (state g.S.Store c.rename.new.store) c.rename.result) (sym is) c.rename.ensures
