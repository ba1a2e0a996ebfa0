use Rattle.std.proofs.Common.{rules}
use Rattle.sqlite.proofs.Callers.{memory_is_clean}
use Rattle.sqlite.specs.Held.{state}
use Rattle.sqlite.specs.Steps.{over_memory}
use Rattle.store_engine.specs.Hosts.{IsEvent, IsGivenUp, host_with}
use Rattle.maildir_moves.proofs.EnduringLemmas.{event_endures}
use Rattle.test_daemon.proofs.memory.MemShelfShelf.apply_event.Goals as goal

pub returns-in-Ok-clause-applied : goal.returns-in-Ok-clause-applied
returns-in-Ok-clause-applied c = λ w is.
    let made : IsEvent c.args.event.now c.in-Ok.answer (host_with over_memory c.args.self.now.store c.args.clients.now) (host_with over_memory c.apply.new.store c.apply.new.clients) = search rules in
    let clean = memory_is_clean c.apply.new.store in
    let it = event_endures c.args.event.now (state over_memory c.args.self.now.store) (state over_memory c.apply.new.store) c.args.clients.now.sessions c.apply.new.clients.sessions clean
    (c.apply.ensures.shut clean) c.apply.ensures.crash w is.sessions is.shown c.in-Ok.answer made in
    (it.0, it.1, record { is = record { shown = it.2.shown; sessions = it.3 }; left = it.2.left })

pub returns-in-Err-clause-applied : goal.returns-in-Err-clause-applied
returns-in-Err-clause-applied c = let given : IsGivenUp c.args.event.now = search rules in absurd (c.requires given)
