-- The name was looked at, then the account, and then the change was written.
use Rattle.std.proofs.Common.{◌≡◌, ◌∙◌, Err, Some, None, sym, rules}
use Rattle.sqlite.specs.Held.{state}
use Rattle.store_accounts.specs.Account.{Account}
use Rattle.store_accounts.specs.declared.refusal.Refusal.TheVariants.{BadScriptName}
use Rattle.managesieve_sessions.specs.Decisions.{AreScripts}
use Rattle.store_engine.specs.declared.account.NamedScripts.{NamedScripts}
use Rattle.store_engine.specs.declared.answer.Answer.TheVariants.{Edited, Objected}
use Rattle.store_engine.specs.declared.upkeep.Upkeep.TheVariants.{EditScripts}
use Rattle.store_engine.specs.ScriptEdits.{edited}
use Rattle.store_engine.proofs.KeepingLemmas.{keeping_unfit, opened_unread, opened_said, opened_found, edit_bad, edit_shut, edit_objected, edit_makes}
use Rattle.store_engine.proofs.script_edit.edit_scripts.Goals as goal

abbrev There : NamedScripts → Account → Type 0
There there a = AreScripts there.names there.active a

pub returns-then-not-gives_script_name : goal.returns-then-not-gives_script_name
returns-then-not-gives_script_name g c =
    keeping_unfit c.args.user.now (EditScripts c.args.edit.now) (state g.S.Store c.args.store.now) BadScriptName (edit_bad c.args.edit.now c.if-not-gives_script_name.ensures)

pub returns-in_err-scripts : goal.returns-in_err-scripts
returns-in_err-scripts g c =
    let is : c.from_residual.result ≡ Err c.in_err-scripts.field-0.0 = search rules in
    opened_unread c.args.user.now (EditScripts c.args.edit.now) c.if-not-gives_script_name.ensures (edit_shut c.args.edit.now c.if-not-gives_script_name.ensures) There (state g.S.Store c.args.store.now) (state g.S.Store c.named_scripts.new.store) c.in_err-scripts.field-0.0 c.from_residual.result is c.in_err-scripts.ensures

pub returns-in-Some : goal.returns-in-Some
returns-in-Some g c =
    opened_said c.args.user.now (EditScripts c.args.edit.now) c.if-not-gives_script_name.ensures (edit_shut c.args.edit.now c.if-not-gives_script_name.ensures) There (state g.S.Store c.args.store.now) (state g.S.Store c.named_scripts.new.store) c.named_scripts.result c.in_ok-scripts.scripts c.in_ok-scripts.was c.named_scripts.ensures (Objected c.in-Some.objection)
    (λ o account is there. edit_objected c.args.edit.now c.if-not-gives_script_name.ensures c.in-Some.objection o account is (sym (c.objection.ensures account there) ∙ c.in-Some.is))

pub returns : goal.returns
returns g c =
    opened_found c.args.user.now (EditScripts c.args.edit.now) c.if-not-gives_script_name.ensures (edit_shut c.args.edit.now c.if-not-gives_script_name.ensures) There (state g.S.Store c.args.store.now) (state g.S.Store c.named_scripts.new.store) c.named_scripts.result c.in_ok-scripts.scripts c.in_ok-scripts.was c.named_scripts.ensures (edited c.args.edit.now) Edited
    (λ o account is there. edit_makes c.args.edit.now c.if-not-gives_script_name.ensures o account is (sym (c.objection.ensures account there) ∙ c.in_default.is))
    (state g.S.Store c.make-made.new.store) c.make-made.result c.make-made.ensures c.and.result c.and.ensures
