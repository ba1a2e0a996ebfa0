use Rattle.sqlite.specs.Held.{state}
use Rattle.maildir_moves.proofs.MoveLemmas.{still_on}
use Rattle.maildir_moves.proofs.StepLemmas.{puts_go_on}
use Rattle.maildir_moves.proofs.route.go_on.Goals as goal

pub returns-else-is_put-clause-moves : goal.returns-else-is_put-clause-moves
returns-else-is_put-clause-moves g c = still_on c.put_next.result (state g.S.Store c.args.store.now) c.put_next.ensures.still

pub returns-else-is_put-clause-steps : goal.returns-else-is_put-clause-steps
returns-else-is_put-clause-steps g c =
    puts_go_on c.args.begun c.args.route.now.load c.put_next.result c.put_next.new.route.load (state g.S.Store c.args.store.now) (state g.S.Store c.args.store.now) c.put_next.ensures.steps
