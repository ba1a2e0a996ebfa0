-- The store was given back.
use Rattle.std.proofs.Common.{None}
use Rattle.smtp_queue.specs.Queues.{store_and_keeper}
use Rattle.smtp_queue.proofs.ShownLemmas.{still_given}
use Rattle.smtp_queue.proofs.queue.StoreQueue.into_keeper.Goals as goal

pub returns : goal.returns
returns g c = still_given g.K.S.Store g.K.Keeper.tells g.K.Keeper.holds g.met.K.Keeper.sure c.args.self.held (store_and_keeper None c.into_keeper.result) c.into_keeper.ensures
