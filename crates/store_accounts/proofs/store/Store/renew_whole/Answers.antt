-- What is there is read beside what the text says, and then all changes are made.
use Rattle.std.proofs.Common.{◌≡◌, Err, IfSome, OnOk, sym, subst, rules}
use Rattle.std.specs.FinMap.{get}
use Rattle.sqlite.specs.Held.{state}
use Rattle.store_tables.specs.Changes.{ExtendsChanges}
use Rattle.store_accounts.specs.Whole.{takes_whole}
use Rattle.store_accounts.specs.WholeRows.{emptied_by, parts_over, PushesOver}
use Rattle.store_accounts.proofs.AfterLemmas.{CarriesKnown, seen_none, writes_seen, write_lost}
use Rattle.store_accounts.proofs.OverLemmas.{renewed_shows}
use Rattle.store_accounts.proofs.store.Store.renew_whole.Goals as goal

pub returns-in_err-push_emptying-clause-writes : goal.returns-in_err-push_emptying-clause-writes
returns-in_err-push_emptying-clause-writes g c =
    let s = state g.S.Store c.args.self.now in
    let e = c.in_err-push_emptying.field-0.0 in
    let is : c.from_residual.result ≡ Err e = search rules in
    write_lost s s c.from_residual.result c.args.head.now.owner.name (takes_whole c.args.head.now c.args.parts.now) e c.from_residual.result is (seen_none s c.from_residual.result) c.in_err-push_emptying.ensures.named

pub returns-in_err-push_head-clause-writes : goal.returns-in_err-push_head-clause-writes
returns-in_err-push_head-clause-writes g c =
    let s = state g.S.Store c.args.self.now in
    let e = c.in_err-push_head.field-0.0 in
    let is : c.from_residual-in_err-push_head.result ≡ Err e = search rules in
    write_lost s s c.from_residual-in_err-push_head.result c.args.head.now.owner.name (takes_whole c.args.head.now c.args.parts.now) e c.from_residual-in_err-push_head.result is (seen_none s c.from_residual-in_err-push_head.result) c.in_err-push_head.ensures.named

pub returns-in_err-push_parts_over-clause-writes : goal.returns-in_err-push_parts_over-clause-writes
returns-in_err-push_parts_over-clause-writes g c =
    let e = c.in_err-push_parts_over.field-0.0 in
    let is : c.from_residual-in_err-push_parts_over.result ≡ Err e = search rules in
    write_lost (state g.S.Store c.args.self.now) (state g.S.Store c.push_parts_over.new.self) c.push_parts_over.result c.args.head.now.owner.name (takes_whole c.args.head.now c.args.parts.now) e c.from_residual-in_err-push_parts_over.result is
    c.push_parts_over.ensures.keeps c.in_err-push_parts_over.ensures.named

pub returns-clause-writes : goal.returns-clause-writes
returns-clause-writes g c =
    let head = c.args.head.now in
    let parts = c.args.parts.now in
    let user = head.owner.name in
    let old = state g.S.Store c.args.self.now in
    let mid = state g.S.Store c.push_parts_over.new.self in
    let one = c.push_emptying.new.changes.items in
    let two = c.push_head.new.changes.items in
    let three = c.push_parts_over.new.changes.items in
    let ok = c.in_ok-push_parts_over.was in
    let begins = subst (λ ds. ExtendsChanges user (emptied_by user) ds one) c.new-changes.ensures.items (subst (λ u. ExtendsChanges u (emptied_by u) c.new-changes.result.items one) c.as_slice-user.ensures c.in_ok-push_emptying.ensures.made) in
    let pushed = subst (λ u. PushesOver u (parts_over u parts) old mid two three c.push_parts_over.result) c.as_slice-user.ensures c.push_parts_over.ensures in
    writes_seen old mid (state g.S.Store c.apply.new.self) c.push_parts_over.result c.in_ok-push_parts_over.field-0 ok pushed.keeps user (takes_whole head parts) c.deref.result.now
    (subst (CarriesKnown old mid user (takes_whole head parts)) (sym c.deref.ensures.value)
    (λ clean accounts p has. renewed_shows head parts c.requires one two three begins c.in_ok-push_head.ensures.made p.0 accounts p.2 has
    (subst (λ o. OnOk o (IfSome (get accounts user) (λ a. ExtendsChanges user (parts_over user parts a.replies) two three))) ok (pushed.made clean accounts p))))
    c.apply.ensures.crash c.apply.result c.apply.ensures.made c.apply.ensures.settled c.apply.ensures.same c.apply.ensures.named
