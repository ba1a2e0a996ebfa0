use Rattle.smtp_queue.proofs.QueueLemmas.{rows_still}
use Rattle.smtp_queue.proofs.ShownLemmas.{still_given}
use Rattle.smtp_queue.proofs.queue.StoreQueueSendQueue.give_back.Goals as goal

pub returns : goal.returns
returns g c = record { same = rows_still g.K.S.Store g.K.Keeper.tells c.args.self.now.search.waits.now c.args.self.now.search.now g.K.Keeper.holds c.args.self.now.held.store c.args.self.now.held.keeper c.give_back.new.self.store c.give_back.new.self.keeper (still_given g.K.S.Store g.K.Keeper.tells g.K.Keeper.holds g.met.K.Keeper.sure c.args.self.now.held c.give_back.new.self c.give_back.ensures.given) }
