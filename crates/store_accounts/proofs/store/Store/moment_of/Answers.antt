use Rattle.std.proofs.Common.{◌≡◌, ◌∙◌, OnOk, IfErr, ap, slice_get, rules}
use Rattle.std.specs.FinMap.{get}
use Rattle.sqlite.specs.Held.{state}
use Rattle.store_accounts.specs.Refusals.{IsTransient}
use Rattle.store_accounts.specs.ReplyRows.{HasMomentRow}
use Rattle.store_accounts.proofs.EnterLemmas.{entered_answer, entered_failed}
use Rattle.store_accounts.proofs.ReplyLemmas.{moment_is}
use Rattle.store_accounts.proofs.store.Store.moment_of.Goals as goal

pub returns-in_err-rows : goal.returns-in_err-rows
returns-in_err-rows g c =
    let same : c.self.inside.conn ≡ c.args.self.now = search rules in
    let none : OnOk c.from_residual.result ⊥ = search rules in
    let transient : IfErr c.from_residual.result IsTransient = search rules in
    entered_failed c.args.user.now (HasMomentRow (c.args.handle.now, c.args.sender.now)) (λ moment a. moment ≡ get a.replies (c.args.handle.now, c.args.sender.now)) (state g.S.Store c.args.self.now)
    (state g.S.Store c.find_moment.new.conn) c.find_moment.result (rw same at c.find_moment.ensures.finds) c.from_residual.result none transient

pub returns : goal.returns
returns g c =
    let same : c.self.inside.conn ≡ c.args.self.now = search rules in
    entered_answer c.args.user.now (HasMomentRow (c.args.handle.now, c.args.sender.now)) (λ moment a. moment ≡ get a.replies (c.args.handle.now, c.args.sender.now)) (state g.S.Store c.args.self.now)
    (state g.S.Store c.find_moment.new.conn) c.find_moment.result (rw same at c.find_moment.ensures.finds) c.first_moment.result c.in_ok-rows.rows c.in_ok-rows.was c.first_moment.ensures.named
    (λ a is. moment_is c.first_moment.result c.deref.result.now (get a.replies (c.args.handle.now, c.args.sender.now)) (ap (λ l. slice_get l 0) c.deref.ensures.value ∙ is) c.first_moment.ensures.ok)
