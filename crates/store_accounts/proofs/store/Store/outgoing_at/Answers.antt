use Rattle.std.proofs.Common.{◌≡◌, ◌∙◌, OnOk, IfErr, ap, slice_get, w64, SFits, to_z-of_z, rules}
use Rattle.sqlite.specs.Held.{state}
use Rattle.store_accounts.specs.QueueRows.{HasOutgoingRow, IsOutgoing}
use Rattle.store_accounts.specs.Refusals.{IsTransient}
use Rattle.store_accounts.proofs.DecodeLemmas.{outgoing_told}
use Rattle.store_accounts.proofs.EnterLemmas.{entered_answer, entered_failed}
use Rattle.store_accounts.proofs.store.Store.outgoing_at.Goals as goal

pub returns-in_err-rows : goal.returns-in_err-rows
returns-in_err-rows g c =
    let same : c.self.inside.conn ≡ c.args.self.now = search rules in
    let fits : SFits w64 c.args.id = search rules in
    let number = to_z-of_z fits in
    let none : OnOk c.from_residual.result ⊥ = search rules in
    let transient : IfErr c.from_residual.result IsTransient = search rules in
    entered_failed c.args.user.now (HasOutgoingRow c.args.id) (IsOutgoing c.args.id) (state g.S.Store c.args.self.now) (state g.S.Store c.find_outgoing.new.conn) c.find_outgoing.result (rw (same, number) at c.find_outgoing.ensures.finds)
    c.from_residual.result none transient

pub returns : goal.returns
returns g c =
    let same : c.self.inside.conn ≡ c.args.self.now = search rules in
    let fits : SFits w64 c.args.id = search rules in
    let number = to_z-of_z fits in
    entered_answer c.args.user.now (HasOutgoingRow c.args.id) (IsOutgoing c.args.id) (state g.S.Store c.args.self.now) (state g.S.Store c.find_outgoing.new.conn) c.find_outgoing.result (rw (same, number) at c.find_outgoing.ensures.finds)
    c.first_from_row.result c.in_ok-rows.rows c.in_ok-rows.was c.first_from_row.ensures.named
    (λ a shown. outgoing_told c.first_from_row.result c.deref.result.now c.args.id a (λ n is. ap (λ l. slice_get l 0) c.deref.ensures.value ∙ shown n is) c.first_from_row.ensures.ok)
