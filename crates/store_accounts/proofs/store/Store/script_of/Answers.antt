use Rattle.std.proofs.Common.{◌≡◌, ◌∙◌, Ok, Err, Vec, OnOk, IfErr, ap, rules}
use Rattle.sqlite.specs.Held.{state}
use Rattle.store_accounts.specs.Refusals.{IsTransient}
use Rattle.std.specs.FinMap.{get}
use Rattle.std.specs.Prelude.{slice_get}
use Rattle.store_accounts.specs.ScriptRows.{HasTextRow}
use Rattle.store_accounts.proofs.DecodeLemmas.{text_is}
use Rattle.store_accounts.proofs.EnterLemmas.{entered_answer, entered_failed}
use Rattle.store_accounts.proofs.store.Store.script_of.Goals as goal

pub returns-in_err-rows : goal.returns-in_err-rows
returns-in_err-rows g c =
    let same : c.self.inside.conn ≡ c.args.self.now = search rules in
    let none : OnOk c.from_residual.result ⊥ = search rules in
    let transient : IfErr c.from_residual.result IsTransient = search rules in
    entered_failed c.args.user.now (HasTextRow c.args.name.now) (λ text a. text ≡ get a.scripts c.args.name.now) (state g.S.Store c.args.self.now) (state g.S.Store c.find_script.new.conn) c.find_script.result (rw same at c.find_script.ensures.finds) c.from_residual.result none transient

pub returns : goal.returns
returns g c =
    let same : c.self.inside.conn ≡ c.args.self.now = search rules in
    entered_answer c.args.user.now (HasTextRow c.args.name.now) (λ text a. text ≡ get a.scripts c.args.name.now) (state g.S.Store c.args.self.now) (state g.S.Store c.find_script.new.conn) c.find_script.result (rw same at c.find_script.ensures.finds) c.first_text.result c.in_ok-rows.rows c.in_ok-rows.was c.first_text.ensures.named
    (λ a is. text_is c.first_text.result c.deref.result.now (get a.scripts c.args.name.now) (ap (λ l. slice_get l 0) c.deref.ensures.value ∙ is) c.first_text.ensures.ok)
