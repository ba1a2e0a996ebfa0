use Rattle.sqlite.proofs.Callers.{memory_is_clean}
use Rattle.test_daemon.proofs.memory.MemShelfShelf.find_account.Goals as goal

pub returns-clause-sought : goal.returns-clause-sought
returns-clause-sought c = λ accounts has.
    let it = c.find_account.ensures.finds (memory_is_clean c.find_account.new.store) accounts has in
    (it.0, it.1.shown, it.1.left)
