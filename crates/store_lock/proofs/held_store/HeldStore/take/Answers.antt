-- Nothing changed, or a store was taken that sees what the tables held.
use Rattle.std.proofs.Common.{◌≡◌, false, None, inr, refl, rules, subst}
use Rattle.sqlite.specs.Held.{state}
use Rattle.store_lock.specs.Taken.{IsStoreTaken}
use Rattle.store_lock.proofs.held_store.HeldStore.take.Goals as goal

pub returns-clause-taken : goal.returns-clause-taken
returns-clause-taken g c =
    let none : c.args.self.now.store ≡ None = search rules in
    let store = c.in_ok-store.store in
    inr (
      none,
      store,
      refl,
      record {
        seen = λ told. subst (λ db. IsStoreTaken false db (state g.K.S.Store store).now) (c.wait_for_lock.ensures.same told) (c.in_ok-store.ensures.taken told);
        settled = c.in_ok-store.ensures.settled;
      },
    )
