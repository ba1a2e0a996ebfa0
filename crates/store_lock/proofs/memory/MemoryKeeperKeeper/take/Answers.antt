-- What a store taken from memory sees is what the connection saw that was held.
use Rattle.std.proofs.Common.{◌≡◌, Some, refl, rules, ◌∙◌, sym, ap, subst}
use Rattle.sqlite.proofs.Callers.{memory_is_clean}
use Rattle.sqlite.specs.Held.{state}
use Rattle.sqlite.specs.Steps.{over_memory}
use Rattle.store_accounts.specs.Opening.{IsKnown}
use Rattle.store_accounts.specs.Shows.{OpensAs}
use Rattle.store_lock.specs.Memory.{database_in}
use Rattle.store_lock.proofs.TakenLemmas.{is_taken}
use Rattle.store_lock.proofs.memory.MemoryKeeperKeeper.take.Goals as goal

pub returns-in-Ok-clause-taken : goal.returns-in-Ok-clause-taken
returns-in-Ok-clause-taken c _ =
    let was : c.args.self.now.conn ≡ Some c.in-Some.conn = search rules in
    let made = c.in-Ok.ensures in
    let clean = memory_is_clean c.in-Ok.store in
    is_taken c.args.fresh (database_in c.args.self.now.conn) (state over_memory c.in-Ok.store).now
    (λ stale. subst (λ o. OpensAs (database_in o) (state over_memory c.in-Ok.store).now) (sym was) (made.opened clean stale))
    (λ stale ours. (made.same clean stale (sym (ap (λ o. (database_in o).schema) was) ∙ ours)).now_is refl ∙ sym (ap database_in was))
    (λ stale. subst (λ o. IsKnown (database_in o)) (sym was) (made.ours clean stale))
    (λ fresh. made.made clean fresh)
    (λ fresh. ap (λ o. (database_in o).schema) was ∙ made.blank fresh)

pub returns-in-Ok-clause-settled : goal.returns-in-Ok-clause-settled
returns-in-Ok-clause-settled c _ = c.in-Ok.ensures.settled (memory_is_clean c.in-Ok.store)

pub returns-in-Err-clause-refused : goal.returns-in-Err-clause-refused
returns-in-Err-clause-refused c _ =
    let was : c.args.self.now.conn ≡ Some c.in-Some.conn = search rules in
    (c.in-Err.ensures.refused (memory_is_clean c.in-Err.conn)).now_is refl ∙ sym (ap database_in was)
