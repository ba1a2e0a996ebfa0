-- The row was looked for, and where that failed the store was given back.
use Rattle.smtp_queue.proofs.QueueLemmas.{found_there, rows_found, rows_still}
use Rattle.smtp_queue.proofs.ShownLemmas.{still_given, still_then}
use Rattle.smtp_queue.proofs.queue.StoreQueueSendQueue.next.Goals as goal

pub returns-in-Ok-find_row-clause-there : goal.returns-in-Ok-find_row-clause-there
returns-in-Ok-find_row-clause-there g c =
    let old = c.args.self.now in
    let new = c.find_row.new.held in
    found_there g.K.S.Store g.K.Keeper.tells old.search.waits.now old.search.now g.K.Keeper.holds old.held.store old.held.keeper new.store new.keeper c.in-Ok.start c.find_row.result c.find_row.ensures c.in-Ok-find_row.found c.in-Ok-find_row.is c.due_message_of.result c.due_message_of.ensures

pub returns-in-Ok-find_row-clause-same : goal.returns-in-Ok-find_row-clause-same
returns-in-Ok-find_row-clause-same g c =
    let old = c.args.self.now in
    let new = c.find_row.new.held in
    rows_still g.K.S.Store g.K.Keeper.tells old.search.waits.now old.search.now g.K.Keeper.holds old.held.store old.held.keeper new.store new.keeper
    (rows_found g.K.S.Store g.K.Keeper.tells old.search.waits.now old.search.now g.K.Keeper.holds old.held.store old.held.keeper new.store new.keeper c.in-Ok.start c.find_row.result c.find_row.ensures)

pub returns-in-Err-clause-same : goal.returns-in-Err-clause-same
returns-in-Err-clause-same g c =
    let old = c.args.self.now in
    let mid = c.find_row.new.held in
    let new = c.give_back.new.self in
    rows_still g.K.S.Store g.K.Keeper.tells old.search.waits.now old.search.now g.K.Keeper.holds old.held.store old.held.keeper new.store new.keeper
    (still_then g.K.S.Store g.K.Keeper.tells g.K.Keeper.holds old.held.store mid.store new.store old.held.keeper mid.keeper new.keeper
    (rows_found g.K.S.Store g.K.Keeper.tells old.search.waits.now old.search.now g.K.Keeper.holds old.held.store old.held.keeper mid.store mid.keeper c.in-Ok.start c.find_row.result c.find_row.ensures) (still_given g.K.S.Store g.K.Keeper.tells g.K.Keeper.holds g.met.K.Keeper.sure mid c.give_back.new.self c.give_back.ensures.given))
