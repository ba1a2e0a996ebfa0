-- Nobody changed a row, and the store was given back where that is to be.
use Rattle.std.proofs.Common.{refl}
use Rattle.smtp_queue.proofs.QueueLemmas.{rows_still}
use Rattle.smtp_queue.proofs.ShownLemmas.{shown_same}
use Rattle.smtp_queue.proofs.queue.StoreQueueSendQueue.give_way.Goals as goal

pub returns-then-is_awaited : goal.returns-then-is_awaited
returns-then-is_awaited g c = record {
  same = λ rows shows. c.give_back.ensures.same rows (rows_still g.K.S.Store g.K.Keeper.tells c.args.self.now.search.waits.now c.args.self.now.search.now g.K.Keeper.holds c.args.self.now.held.store c.args.self.now.held.keeper c.args.self.now.held.store c.is_awaited.new.self (shown_same g.K.S.Store g.K.Keeper.tells g.K.Keeper.holds c.args.self.now.held.store c.args.self.now.held.store c.args.self.now.held.keeper c.is_awaited.new.self refl c.is_awaited.ensures.same) rows shows);
}

pub returns-then-saturating_sub-lt-MAX_HAD : goal.returns-then-saturating_sub-lt-MAX_HAD
returns-then-saturating_sub-lt-MAX_HAD g c = record { same = rows_still g.K.S.Store g.K.Keeper.tells c.args.self.now.search.waits.now c.args.self.now.search.now g.K.Keeper.holds c.args.self.now.held.store c.args.self.now.held.keeper c.args.self.now.held.store c.is_awaited.new.self (shown_same g.K.S.Store g.K.Keeper.tells g.K.Keeper.holds c.args.self.now.held.store c.args.self.now.held.store c.args.self.now.held.keeper c.is_awaited.new.self refl c.is_awaited.ensures.same) }

pub returns : goal.returns
returns g c = record {
  same = λ rows shows. c.give_back-2.ensures.same rows (rows_still g.K.S.Store g.K.Keeper.tells c.args.self.now.search.waits.now c.args.self.now.search.now g.K.Keeper.holds c.args.self.now.held.store c.args.self.now.held.keeper c.args.self.now.held.store c.is_awaited.new.self (shown_same g.K.S.Store g.K.Keeper.tells g.K.Keeper.holds c.args.self.now.held.store c.args.self.now.held.store c.args.self.now.held.keeper c.is_awaited.new.self refl c.is_awaited.ensures.same) rows shows);
}
