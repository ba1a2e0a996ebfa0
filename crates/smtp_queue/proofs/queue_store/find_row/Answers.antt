-- The store was taken, and the row looked for; or it can't be had.
use Rattle.std.proofs.Common.{Ok, Err, IfOk, refl, rules, subst}
use Rattle.store_lock.specs.declared.keeper.StoreUnavailable.TheVariants.{Busy, Refused}
use Rattle.smtp_queue.specs.DueRows.{IsDueRowFound}
use Rattle.smtp_queue.proofs.ShownLemmas.{find_made, find_not, still_taken}
use Rattle.smtp_queue.proofs.queue_store.find_row.Goals as goal

pub returns-in_err-take : goal.returns-in_err-take
returns-in_err-take g c =
    find_not g.K.S.Store g.K.Keeper.tells g.K.Keeper.holds c.args.search.waits.now c.args.search.now c.args.start c.args.held.now.store c.take.new.self.store c.args.held.now.keeper c.take.new.self.keeper c.in_err-take.field-0.0
    c.from_residual.result (search rules) (still_taken g.K.S.Store g.K.Keeper.tells g.K.Keeper.holds c.args.held.now c.take.new.self c.take.ensures.taken)

pub returns-in_default : goal.returns-in_default
returns-in_default g c =
    find_not g.K.S.Store g.K.Keeper.tells g.K.Keeper.holds c.args.search.waits.now c.args.search.now c.args.start c.args.held.now.store c.take.new.self.store c.args.held.now.keeper c.take.new.self.keeper Busy (Err Busy) refl (still_taken g.K.S.Store g.K.Keeper.tells g.K.Keeper.holds c.args.held.now c.take.new.self c.take.ensures.taken)

pub returns-in-Ok : goal.returns-in-Ok
returns-in-Ok g c =
    find_made g.K.S.Store g.K.Keeper.tells g.K.Keeper.holds g.met.K.Keeper.sure c.args.search.waits.now c.args.search.now c.args.start c.args.held.now.store c.take.new.self.store c.args.held.now.keeper c.take.new.self.keeper
    c.in-Some.store c.find_due_row.new.store (still_taken g.K.S.Store g.K.Keeper.tells g.K.Keeper.holds c.args.held.now c.take.new.self c.take.ensures.taken) c.in-Some.is c.find_due_row.result c.find_due_row.ensures (Ok c.in-Ok.found) (λ accounts has. subst (λ o. IfOk o (IsDueRowFound c.args.search.waits.now c.args.search.now c.args.start accounts)) c.in-Ok.is has)

pub returns-in-Err : goal.returns-in-Err
returns-in-Err g c =
    find_made g.K.S.Store g.K.Keeper.tells g.K.Keeper.holds g.met.K.Keeper.sure c.args.search.waits.now c.args.search.now c.args.start c.args.held.now.store c.take.new.self.store c.args.held.now.keeper c.take.new.self.keeper
    c.in-Some.store c.find_due_row.new.store (still_taken g.K.S.Store g.K.Keeper.tells g.K.Keeper.holds c.args.held.now c.take.new.self c.take.ensures.taken) c.in-Some.is c.find_due_row.result c.find_due_row.ensures (Err (Refused c.in-Err.refusal)) (λ accounts has. tt)
