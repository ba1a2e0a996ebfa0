use Rattle.std.proofs.Common.{subst}
use Rattle.sqlite.specs.Held.{state}
use Rattle.store_accounts.specs.Next.{IsNextFiled}
use Rattle.maildir_moves.specs.Order.{start_of}
use Rattle.maildir_moves.proofs.EnduringLemmas.{held_behind, read_only, reads_then}
use Rattle.maildir_moves.proofs.StepLemmas.{begins_behind}
use Rattle.maildir_moves.proofs.TurnLemmas.{round_ends, turn_is}
use Rattle.maildir_moves.proofs.route.choose.Goals as goal

pub returns-in-Ok-Some-clause-reads : goal.returns-in-Ok-Some-clause-reads
returns-in-Ok-Some-clause-reads g c =
    let old = state g.S.Store c.args.store.now in
    let mid = state g.S.Store c.next_filed.new.self in
    reads_then old mid (state g.S.Store c.choose_of_user.new.store) (read_only old mid c.next_filed.result c.next_filed.ensures.next.keeps) c.choose_of_user.ensures.reads

pub returns-in-Ok-None-clause-reads : goal.returns-in-Ok-None-clause-reads
returns-in-Ok-None-clause-reads g c = read_only (state g.S.Store c.args.store.now) (state g.S.Store c.next_filed.new.self) c.next_filed.result c.next_filed.ensures.next.keeps

pub returns-clause-reads : goal.returns-clause-reads
returns-clause-reads g c = read_only (state g.S.Store c.args.store.now) (state g.S.Store c.next_filed.new.self) c.next_filed.result c.next_filed.ensures.next.keeps

pub returns-in-Ok-Some-clause-begins : goal.returns-in-Ok-Some-clause-begins
returns-in-Ok-Some-clause-begins g c =
    begins_behind c.args.route.now.load c.choose_of_user.result c.choose_of_user.new.route.load (state g.S.Store c.args.store.now) (state g.S.Store c.next_filed.new.self) (state g.S.Store c.choose_of_user.new.store)
    c.next_filed.result c.in-Ok-Some.field-0 c.in-Ok-Some.is c.next_filed.ensures.next.keeps (λ clean. (c.choose_of_user.ensures.reads clean).0) c.choose_of_user.ensures.begins

pub returns-in-Ok-Some-clause-turns : goal.returns-in-Ok-Some-clause-turns
returns-in-Ok-Some-clause-turns g c = λ clean tables held.
    let order = c.args.route.now.order in
    let mid = (c.choose_of_user.ensures.reads clean).0 in
    let found : IsNextFiled c.in-Ok.start c.in-Ok-Some.field-0 tables = c.in-Ok-Some.ensures.next.found mid tables held in
    let next = subst (λ o. IsNextFiled (start_of order.last) o tables) c.in-Ok-Some.field-0-is (subst (λ s. IsNextFiled s c.in-Ok-Some.field-0 tables) c.in-Ok.ensures found) in
    turn_is c.args.now tables c.in-Ok-Some.first c.args.route.now.rests.entries.items order c.choose_of_user.new.route.order c.choose_of_user.new.route.load.begun next c.choose_of_user.result
    (c.choose_of_user.ensures.turns clean tables
    (held_behind (state g.S.Store c.args.store.now) (state g.S.Store c.next_filed.new.self) c.next_filed.result c.in-Ok-Some.field-0 c.in-Ok-Some.is c.next_filed.ensures.next.keeps mid tables held))

pub returns-in-Ok-None-clause-turns : goal.returns-in-Ok-None-clause-turns
returns-in-Ok-None-clause-turns g c = λ clean tables held.
    let order = c.args.route.now.order in
    let found : IsNextFiled c.in-Ok.start c.in-Ok-None.field-0 tables = c.in-Ok-None.ensures.next.found clean tables held in
    let none = subst (λ o. IsNextFiled (start_of order.last) o tables) c.in-Ok-None.field-0-is (subst (λ s. IsNextFiled s c.in-Ok-None.field-0 tables) c.in-Ok.ensures found) in
    round_ends c.args.now tables c.args.route.now.rests.entries.items order c.end_round.result c.end_round.new.self.order c.end_round.new.self.load.begun none c.end_round.ensures.ends
