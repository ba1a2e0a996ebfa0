-- The store was taken, and the row taken out; or it can't be had, or refused.
use Rattle.std.proofs.Common.{Ok, Err, refl, rules, subst}
use Rattle.store_lock.specs.declared.keeper.StoreUnavailable.TheVariants.{Busy, Refused}
use Rattle.smtp_queue.specs.DueRows.{QueueTakesRow}
use Rattle.smtp_queue.proofs.ShownLemmas.{remove_made, remove_not, still_taken}
use Rattle.smtp_queue.proofs.queue_store.remove_row.Goals as goal

pub returns-in_err-take : goal.returns-in_err-take
returns-in_err-take g c =
    remove_not g.K.S.Store g.K.Keeper.tells g.K.Keeper.holds c.args.place.now c.args.sent.now c.args.held.now.store c.take.new.self.store c.args.held.now.keeper c.take.new.self.keeper c.in_err-take.field-0.0 c.from_residual.result (search rules) (still_taken g.K.S.Store g.K.Keeper.tells g.K.Keeper.holds c.args.held.now c.take.new.self c.take.ensures.taken)

pub returns-in_default : goal.returns-in_default
returns-in_default g c = remove_not g.K.S.Store g.K.Keeper.tells g.K.Keeper.holds c.args.place.now c.args.sent.now c.args.held.now.store c.take.new.self.store c.args.held.now.keeper c.take.new.self.keeper Busy (Err Busy) refl (still_taken g.K.S.Store g.K.Keeper.tells g.K.Keeper.holds c.args.held.now c.take.new.self c.take.ensures.taken)

pub returns-in-Ok : goal.returns-in-Ok
returns-in-Ok g c =
    remove_made g.K.S.Store g.K.Keeper.tells g.K.Keeper.holds g.met.K.Keeper.sure c.args.place.now c.args.sent.now c.args.held.now.store c.take.new.self.store c.args.held.now.keeper c.take.new.self.keeper c.in-Some.store c.take_row.new.store
    (still_taken g.K.S.Store g.K.Keeper.tells g.K.Keeper.holds c.args.held.now c.take.new.self c.take.ensures.taken) c.in-Some.is c.take_row.result c.take_row.ensures (Ok c.in-Ok.taken) (λ accounts later has. subst (λ o. QueueTakesRow c.args.place.now c.args.sent.now o accounts later) c.in-Ok.is has)

pub returns-in-Err : goal.returns-in-Err
returns-in-Err g c =
    remove_made g.K.S.Store g.K.Keeper.tells g.K.Keeper.holds g.met.K.Keeper.sure c.args.place.now c.args.sent.now c.args.held.now.store c.take.new.self.store c.args.held.now.keeper c.take.new.self.keeper c.in-Some.store c.take_row.new.store
    (still_taken g.K.S.Store g.K.Keeper.tells g.K.Keeper.holds c.args.held.now c.take.new.self c.take.ensures.taken) c.in-Some.is c.take_row.result c.take_row.ensures (Err (Refused c.in-Err.refusal)) (λ accounts later has. subst (λ o. QueueTakesRow c.args.place.now c.args.sent.now o accounts later) c.in-Err.is has)
