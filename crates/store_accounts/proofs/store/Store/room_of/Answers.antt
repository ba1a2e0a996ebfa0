use Rattle.std.proofs.Common.{◌≡◌, ◌∙◌, OnOk, IfErr, rules}
use Rattle.sqlite.specs.Held.{state}
use Rattle.store_accounts.specs.Account.{max_waiting, room_in}
use Rattle.store_accounts.specs.QueueRows.{AreFirstIds}
use Rattle.store_accounts.specs.Refusals.{IsTransient}
use Rattle.store_accounts.proofs.EnterLemmas.{entered_other, entered_again}
use Rattle.store_accounts.proofs.RoomLemmas.{room_left}
use Rattle.store_accounts.proofs.store.Store.room_of.Goals as goal

pub returns-in_err-waiting : goal.returns-in_err-waiting
returns-in_err-waiting g c =
    let none : OnOk c.from_residual.result ⊥ = search rules in
    let transient : IfErr c.from_residual.result IsTransient = search rules in
    entered_again c.args.user.now AreFirstIds (λ room a. room ≡ room_in a) (state g.S.Store c.args.self.now) (state g.S.Store c.first_ids_of.new.self) c.first_ids_of.result c.first_ids_of.ensures c.from_residual.result none transient

pub returns : goal.returns
returns g c =
    entered_other c.args.user.now AreFirstIds (λ room a. room ≡ room_in a) (state g.S.Store c.args.self.now) (state g.S.Store c.first_ids_of.new.self) c.first_ids_of.result c.first_ids_of.ensures _
    c.in_ok-waiting.waiting c.in_ok-waiting.was tt
    (λ a is. c.saturating_sub.ensures ∙ room_left max_waiting a.queue _ (c.as_slice.ensures ∙ is))
