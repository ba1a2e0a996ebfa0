use Rattle.std.proofs.Common.{◌≡◌, sym, subst}
use Rattle.sqlite.specs.Held.{state}
use Rattle.store_engine.specs.declared.upkeep.Upkeep.{Upkeep}
use Rattle.store_engine.specs.declared.upkeep.Upkeep.TheVariants.{SetPassword, SetAddress, StoreScript, EditScripts, CloseAccount, OpenAccount, RemoveAccount, TakeNotices}
use Rattle.store_engine.specs.Hosts.{ActsKeeping}
use Rattle.store_engine.proofs.upkeep.do_upkeep.Goals as goal

pub returns-in-SetPassword : goal.returns-in-SetPassword
returns-in-SetPassword g c =
    let is : c.args.upkeep.now ≡ SetPassword c.in-SetPassword.salt c.as_slice.result.now = cc in
    subst (λ (u : Upkeep). ActsKeeping c.args.user.now u (state g.S.Store c.args.store.now) (state g.S.Store c.set_password.new.store) c.set_password.result) (sym is) c.set_password.ensures

pub returns-in-SetAddress : goal.returns-in-SetAddress
returns-in-SetAddress g c =
    let is : c.args.upkeep.now ≡ SetAddress c.as_slice-in-SetAddress.result.now = cc in
    subst (λ (u : Upkeep). ActsKeeping c.args.user.now u (state g.S.Store c.args.store.now) (state g.S.Store c.set_address.new.store) c.set_address.result) (sym is) c.set_address.ensures

pub returns-in-StoreScript : goal.returns-in-StoreScript
returns-in-StoreScript g c =
    let is : c.args.upkeep.now ≡ StoreScript c.as_slice-in-StoreScript.result.now c.as_slice-in-StoreScript-2.result.now c.in-StoreScript.activate = cc in
    subst (λ (u : Upkeep). ActsKeeping c.args.user.now u (state g.S.Store c.args.store.now) (state g.S.Store c.store_script.new.store) c.store_script.result) (sym is) c.store_script.ensures

pub returns-in-EditScripts : goal.returns-in-EditScripts
returns-in-EditScripts g c =
    let is : c.args.upkeep.now ≡ EditScripts c.in-EditScripts.edit = cc in
    subst (λ (u : Upkeep). ActsKeeping c.args.user.now u (state g.S.Store c.args.store.now) (state g.S.Store c.edit_scripts.new.store) c.edit_scripts.result) (sym is) c.edit_scripts.ensures

pub returns-in-CloseAccount : goal.returns-in-CloseAccount
returns-in-CloseAccount g c =
    let is : c.args.upkeep.now ≡ CloseAccount = cc in
    subst (λ (u : Upkeep). ActsKeeping c.args.user.now u (state g.S.Store c.args.store.now) (state g.S.Store c.close_account.new.store) c.close_account.result) (sym is) c.close_account.ensures

pub returns-in-OpenAccount : goal.returns-in-OpenAccount
returns-in-OpenAccount g c =
    let is : c.args.upkeep.now ≡ OpenAccount = cc in
    subst (λ (u : Upkeep). ActsKeeping c.args.user.now u (state g.S.Store c.args.store.now) (state g.S.Store c.open_account.new.store) c.open_account.result) (sym is) c.open_account.ensures

pub returns-in-RemoveAccount : goal.returns-in-RemoveAccount
returns-in-RemoveAccount g c =
    let is : c.args.upkeep.now ≡ RemoveAccount c.in-RemoveAccount.mail = cc in
    subst (λ (u : Upkeep). ActsKeeping c.args.user.now u (state g.S.Store c.args.store.now) (state g.S.Store c.remove_account.new.store) c.remove_account.result) (sym is) c.remove_account.ensures

pub returns-in-TakeNotices : goal.returns-in-TakeNotices
returns-in-TakeNotices g c =
    let is : c.args.upkeep.now ≡ TakeNotices c.in-TakeNotices.until = cc in
    subst (λ (u : Upkeep). ActsKeeping c.args.user.now u (state g.S.Store c.args.store.now) (state g.S.Store c.take_notices.new.store) c.take_notices.result) (sym is) c.take_notices.ensures
