use Rattle.std.proofs.Common.{◌≡◌, ℕ, true}
use Rattle.sqlite.specs.Held.{state}
use Rattle.sieve_plan.specs.Plans.{deeds_in}
use Rattle.sieve_plan.specs.Views.{asks_room}
use Rattle.store_accounts.specs.Account.{room_in}
use Rattle.store_engine.proofs.RecallLemmas.{recalls_read, recalls_told}
use Rattle.store_engine.proofs.delivery.recall_room.Goals as goal

pub returns : goal.returns
returns g c =
    recalls_told c.args.user.now (λ (room : ℕ) a. room ≡ room_in a) (λ (room : ℕ) a. asks_room (deeds_in c.args.deeds.now) ≡ true → room ≡ room_in a) (state g.S.Store c.args.store.now) (state g.S.Store c.room_of.new.self) c.room_of.result (λ room a is asks. is)
    (recalls_read c.args.user.now (λ (room : ℕ) a. room ≡ room_in a) (state g.S.Store c.args.store.now) (state g.S.Store c.room_of.new.self) c.room_of.result c.room_of.ensures)
