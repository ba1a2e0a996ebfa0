-- The row was taken out, or all is as it was and the store was given back.
use Rattle.std.proofs.Common.{◌∙◌}
use Rattle.smtp_queue.proofs.QueueLemmas.{rows_kept, rows_taken, rows_still}
use Rattle.smtp_queue.proofs.ShownLemmas.{still_given, still_then}
use Rattle.smtp_queue.proofs.queue.StoreQueueSendQueue.take_out.Goals as goal

pub returns-in-Ok-remove_row-clause-taken : goal.returns-in-Ok-remove_row-clause-taken
returns-in-Ok-remove_row-clause-taken g c =
    let old = c.args.self.now in
    let new = c.remove_row.new.held in
    rows_taken g.K.S.Store g.K.Keeper.tells old.search.waits.now old.search.now g.K.Keeper.holds old.held.store old.held.keeper new.store new.keeper c.in-Ok.place c.args.row.now c.remove_row.result c.remove_row.ensures
    (c.in-Ok.ensures.user ∙ c.as_slice.ensures) c.in-Ok.ensures.id c.in-Ok-remove_row.taken c.in-Ok-remove_row.is

pub returns-clause-kept : goal.returns-clause-kept
returns-clause-kept g c =
    let old = c.args.self.now in
    let mid = c.remove_row.new.held in
    let new = c.give_back.new.self in
    rows_still g.K.S.Store g.K.Keeper.tells old.search.waits.now old.search.now g.K.Keeper.holds old.held.store old.held.keeper new.store new.keeper
    (still_then g.K.S.Store g.K.Keeper.tells g.K.Keeper.holds old.held.store mid.store new.store old.held.keeper mid.keeper new.keeper
    (rows_kept g.K.S.Store g.K.Keeper.tells old.search.waits.now old.search.now g.K.Keeper.holds old.held.store old.held.keeper mid.store mid.keeper c.in-Ok.place c.args.row.now c.remove_row.result c.remove_row.ensures c.in-Err.denial c.in-Err.is) (still_given g.K.S.Store g.K.Keeper.tells g.K.Keeper.holds g.met.K.Keeper.sure mid c.give_back.new.self c.give_back.ensures.given))
