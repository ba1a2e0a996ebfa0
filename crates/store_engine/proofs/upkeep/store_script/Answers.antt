use Rattle.std.proofs.Common.{◌≡◌, ◌∙◌, ℕ, List, Err, Some, None, OnOk, IfErr, arith, rules}
use Rattle.std.specs.FinMap.{keys}
use Rattle.sqlite.specs.Held.{state}
use Rattle.store_accounts.specs.Account.{Account}
use Rattle.store_accounts.specs.Refusals.{IsTransient}
use Rattle.store_accounts.specs.declared.refusal.Refusal.TheVariants.{BadScriptName, ScriptTooLarge, TooManyScripts}
use Rattle.managesieve_sessions.specs.Scripts.{IsVerdict}
use Rattle.store_engine.specs.declared.answer.Answer.TheVariants.{Invalid, Stored}
use Rattle.store_engine.specs.declared.upkeep.Upkeep.TheVariants.{StoreScript}
use Rattle.store_engine.specs.Upkeep.{stores}
use Rattle.store_engine.proofs.KeepingLemmas.{keeping_unfit, opened_unread, opened_failed, opened_refused, opened_said, opened_written, name_bad, text_bad, script_shut, script_many, script_faulty, script_makes}
use Rattle.store_engine.proofs.upkeep.store_script.Goals as goal

abbrev Names : List (List ℕ) → Account → Type 0
Names names a = names ≡ keys a.scripts

pub returns-then-not-is_script_name : goal.returns-then-not-is_script_name
returns-then-not-is_script_name g c =
    keeping_unfit c.args.user.now (StoreScript c.args.name.now c.args.text.now c.args.activate) (state g.S.Store c.args.store.now) BadScriptName (name_bad c.args.name.now c.args.text.now c.args.activate c.if-not-is_script_name.ensures)

pub returns-then-text-gt-MAX_SCRIPT : goal.returns-then-text-gt-MAX_SCRIPT
returns-then-text-gt-MAX_SCRIPT g c =
    let long = c.if-text-gt-MAX_SCRIPT.true in
    keeping_unfit c.args.user.now (StoreScript c.args.name.now c.args.text.now c.args.activate) (state g.S.Store c.args.store.now) ScriptTooLarge
    (text_bad c.args.name.now c.args.text.now c.args.activate c.if-not-is_script_name.ensures (λ short. omega (arith, long, short)))

pub returns-in_err-names : goal.returns-in_err-names
returns-in_err-names g c =
    let is : c.from_residual.result ≡ Err c.in_err-names.field-0.0 = search rules in
    opened_unread c.args.user.now (StoreScript c.args.name.now c.args.text.now c.args.activate) (c.if-not-is_script_name.ensures, c.if-text-gt-MAX_SCRIPT.false)
    (script_shut c.args.name.now c.args.text.now c.args.activate c.if-not-is_script_name.ensures c.if-text-gt-MAX_SCRIPT.false) Names (state g.S.Store c.args.store.now) (state g.S.Store c.script_names.new.store) c.in_err-names.field-0.0 c.from_residual.result is c.in_err-names.ensures

pub returns-then-not-has_room : goal.returns-then-not-has_room
returns-then-not-has_room g c =
    opened_refused c.args.user.now (StoreScript c.args.name.now c.args.text.now c.args.activate) (c.if-not-is_script_name.ensures, c.if-text-gt-MAX_SCRIPT.false)
    (script_shut c.args.name.now c.args.text.now c.args.activate c.if-not-is_script_name.ensures c.if-text-gt-MAX_SCRIPT.false) Names (state g.S.Store c.args.store.now) (state g.S.Store c.script_names.new.store) c.script_names.result c.in_ok-names.names c.in_ok-names.was c.script_names.ensures TooManyScripts
    (λ o account is names. script_many c.args.name.now c.args.text.now c.args.activate c.if-not-is_script_name.ensures c.if-text-gt-MAX_SCRIPT.false o account is (c.if-not-has_room.ensures account (c.as_slice.ensures ∙ names)))

pub returns-in_err-fault : goal.returns-in_err-fault
returns-in_err-fault g c =
    let none : OnOk c.from_residual-in_err-fault.result ⊥ = search rules in
    let transient : IfErr c.from_residual-in_err-fault.result IsTransient = search rules in
    opened_failed c.args.user.now (StoreScript c.args.name.now c.args.text.now c.args.activate) (c.if-not-is_script_name.ensures, c.if-text-gt-MAX_SCRIPT.false)
    (script_shut c.args.name.now c.args.text.now c.args.activate c.if-not-is_script_name.ensures c.if-text-gt-MAX_SCRIPT.false) Names (state g.S.Store c.args.store.now) (state g.S.Store c.script_names.new.store) c.script_names.result c.in_ok-names.names c.in_ok-names.was c.script_names.ensures c.from_residual-in_err-fault.result none transient

pub returns-in-Some : goal.returns-in-Some
returns-in-Some g c =
    let verdict : IsVerdict c.args.text.now (Some c.in-Some.fault) = rw c.in-Some.is at c.in_ok-fault.ensures in
    opened_said c.args.user.now (StoreScript c.args.name.now c.args.text.now c.args.activate) (c.if-not-is_script_name.ensures, c.if-text-gt-MAX_SCRIPT.false)
    (script_shut c.args.name.now c.args.text.now c.args.activate c.if-not-is_script_name.ensures c.if-text-gt-MAX_SCRIPT.false) Names (state g.S.Store c.args.store.now) (state g.S.Store c.script_names.new.store) c.script_names.result c.in_ok-names.names c.in_ok-names.was c.script_names.ensures (Invalid c.in-Some.fault)
    (λ o account is names. script_faulty c.args.name.now c.args.text.now c.args.activate c.if-not-is_script_name.ensures c.if-text-gt-MAX_SCRIPT.false c.in-Some.fault verdict o account is (c.if-not-has_room.ensures account (c.as_slice.ensures ∙ names)))

pub returns : goal.returns
returns g c =
    let valid : IsVerdict c.args.text.now None = rw c.in_default.is at c.in_ok-fault.ensures in
    opened_written c.args.user.now (StoreScript c.args.name.now c.args.text.now c.args.activate) (c.if-not-is_script_name.ensures, c.if-text-gt-MAX_SCRIPT.false)
    (script_shut c.args.name.now c.args.text.now c.args.activate c.if-not-is_script_name.ensures c.if-text-gt-MAX_SCRIPT.false) Names (state g.S.Store c.args.store.now) (state g.S.Store c.script_names.new.store) c.script_names.result c.in_ok-names.names c.in_ok-names.was c.script_names.ensures
    (stores c.args.name.now c.args.text.now c.args.activate) Stored
    (λ o account is names. script_makes c.args.name.now c.args.text.now c.args.activate c.if-not-is_script_name.ensures c.if-text-gt-MAX_SCRIPT.false valid o account is (c.if-not-has_room.ensures account (c.as_slice.ensures ∙ names)))
    (state g.S.Store c.put-stored.new.store) c.put-stored.result c.put-stored.ensures c.and.result c.and.ensures
