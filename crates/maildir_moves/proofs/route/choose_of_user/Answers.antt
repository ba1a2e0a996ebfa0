use Rattle.std.proofs.Common.{rules}
use Rattle.maildir_moves.specs.Order.{turn_mark_of}
use Rattle.maildir_moves.proofs.TurnLemmas.{first_next, no_mark, turn_of}
use Rattle.maildir_moves.proofs.route.choose_of_user.Goals as goal

pub returns-in-Ok-None-clause-turns : goal.returns-in-Ok-None-clause-turns
returns-in-Ok-None-clause-turns g c = λ clean tables held.
    let first = c.args.first in
    let order = c.args.route.now.order in
    let mark = turn_mark_of first.user order.marks.items in
    turn_of c.args.now tables first c.args.route.now.rests.entries.items order c.choose_folder.new.route.order c.choose_folder.new.route.load.begun first
    (λ mine. first_next tables first mine mark (no_mark first.user mark (search rules))) c.choose_folder.result c.choose_folder.ensures.turn
