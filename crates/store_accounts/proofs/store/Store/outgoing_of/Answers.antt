use Rattle.std.proofs.Common.{◌≡◌, ◌∙◌, ℕ, pos, w64, SFits, to_z-of_z, rules}
use Rattle.sqlite.specs.Held.{state}
use Rattle.store_accounts.specs.Account.{row_with}
use Rattle.store_accounts.specs.QueueRows.{IsOutgoing}
use Rattle.store_accounts.proofs.EnterLemmas.{entered_told}
use Rattle.store_accounts.proofs.store.Store.outgoing_of.Goals as goal

pub returns-in-Ok : goal.returns-in-Ok
returns-in-Ok g c =
    let fits : SFits w64 c.in-Ok.id = search rules in
    let number = to_z-of_z fits ∙ c.in-Ok.ensures.1 in
    entered_told c.args.user.now (IsOutgoing _) (λ row a. row ≡ row_with c.args.id a.queue) (state g.S.Store c.args.self.now) (state g.S.Store c.outgoing_at.new.self) c.outgoing_at.result (λ row a is. is c.args.id number) c.outgoing_at.ensures
