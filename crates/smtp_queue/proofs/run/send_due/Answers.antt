-- The run began with the keeper's rows, and ends with those of the keeper that has the store back.
use Rattle.std.proofs.Common.{None, sym, subst}
use Rattle.smtp_queue.specs.Queues.{ShowsRows}
use Rattle.smtp_queue.proofs.QueueLemmas.{rows_still}
use Rattle.smtp_queue.proofs.run.send_due.Goals as goal

pub returns : goal.returns
returns g c = λ before shows said.
    let tells = g.K.Keeper.tells in
    let ghosts = g.K.S.Store in
    let first = c.new-queue.result in
    let last = c.send_queue-tally.new.queue in
    let s = c.args.search in
    let held = subst (λ o. ShowsRows ghosts tells s.waits.now s.now (g.K.Keeper.holds c.args.keeper) o before.rows) (sym c.new-queue.ensures.store) shows in
    let kept = subst (λ k. ShowsRows ghosts tells s.waits.now s.now (g.K.Keeper.holds k) first.held.store before.rows) (sym c.new-queue.ensures.keeper) held in
    let begins = subst (λ q. ShowsRows ghosts tells q.waits.now q.now (g.K.Keeper.holds first.held.keeper) first.held.store before.rows) (sym c.new-queue.ensures.search) kept in
    let one = c.send_queue-tally.ensures before begins said in
    record {
      attempts = one.attempts;
      after = one.after;
      shows = (
        last.search.waits.now,
        last.search.now,
        rows_still ghosts tells last.search.waits.now last.search.now g.K.Keeper.holds last.held.store last.held.keeper None c.into_keeper.result c.into_keeper.ensures one.after.rows one.shows,
      );
      said = one.said;
      leads = one.leads;
      left = one.left;
    }
