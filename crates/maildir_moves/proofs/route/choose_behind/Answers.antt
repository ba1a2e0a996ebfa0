use Rattle.std.proofs.Common.{◌≡◌, subst, sym}
use Rattle.sqlite.specs.Held.{state}
use Rattle.maildir_moves.specs.Order.{IsNextFolder, turn_mark_of}
use Rattle.maildir_moves.proofs.EnduringLemmas.{read_only, reads_then}
use Rattle.maildir_moves.proofs.StepLemmas.{begins_behind}
use Rattle.maildir_moves.proofs.TurnLemmas.{next_behind, turn_of}
use Rattle.maildir_moves.proofs.route.choose_behind.Goals as goal

pub returns-in-Ok-clause-reads : goal.returns-in-Ok-clause-reads
returns-in-Ok-clause-reads g c =
    let old = state g.S.Store c.args.store.now in
    let mid = state g.S.Store c.next_filed.new.self in
    reads_then old mid (state g.S.Store c.choose_folder.new.store) (read_only old mid c.next_filed.result c.next_filed.ensures.next.keeps) c.choose_folder.ensures.reads

pub returns-in-Err-clause-reads : goal.returns-in-Err-clause-reads
returns-in-Err-clause-reads g c = read_only (state g.S.Store c.args.store.now) (state g.S.Store c.next_filed.new.self) c.next_filed.result c.next_filed.ensures.next.keeps

pub returns-in-Ok-clause-begins : goal.returns-in-Ok-clause-begins
returns-in-Ok-clause-begins g c =
    begins_behind c.args.route.now.load c.choose_folder.result c.choose_folder.new.route.load (state g.S.Store c.args.store.now) (state g.S.Store c.next_filed.new.self) (state g.S.Store c.choose_folder.new.store)
    c.next_filed.result c.in-Ok.next c.in-Ok.is c.next_filed.ensures.next.keeps (λ clean. (c.choose_folder.ensures.reads clean).0) c.choose_folder.ensures.begins

pub returns-in-Ok-clause-turns : goal.returns-in-Ok-clause-turns
returns-in-Ok-clause-turns g c = λ clean tables held.
    let first = c.args.first in
    let order = c.args.route.now.order in
    let mark = turn_mark_of first.user order.marks.items in
    let next = c.in-Ok.ensures.next.found (c.choose_folder.ensures.reads clean).0 tables held in
    turn_of c.args.now tables first c.args.route.now.rests.entries.items order c.choose_folder.new.route.order c.choose_folder.new.route.load.begun c.chosen.result
    (λ mine. subst (λ filed. (filed.user ≡ first.user) × IsNextFolder tables first.user mark filed.folder) (sym c.chosen.ensures) (next_behind tables first mine mark c.args.start c.in-Ok.next c.requires.start next))
    c.choose_folder.result c.choose_folder.ensures.turn
