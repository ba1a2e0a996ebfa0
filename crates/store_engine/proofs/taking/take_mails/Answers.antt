use Rattle.std.proofs.Common.{◌≡◌, ◌≤◌, Ok, Err, sym, subst, arith, rules}
use Rattle.sqlite.specs.Held.{state}
use Rattle.store_engine.specs.Takings.{ActsMailTakings, TakesLongestRun}
use Rattle.store_engine.proofs.TogetherLemmas.{mails_unread, run_unread, mails_none, run_none, mails_made, mails_undone, run_made, run_undone}
use Rattle.store_engine.proofs.taking.take_mails.Goals as goal

pub returns-in_err-count-clause-acts : goal.returns-in_err-count-clause-acts
returns-in_err-count-clause-acts g c =
    let is : c.from_residual.result ≡ Err c.in_err-count.field-0.0 = search rules in
    mails_unread c.args.user.now c.args.folder.now c.args.mails.now (state g.S.Store c.args.store.now) (state g.S.Store c.count_same.new.store) c.count_same.result c.count_same.ensures c.in_err-count.field-0.0 c.from_residual.result c.in_err-count.was is

pub returns-in_err-count-clause-numbered : goal.returns-in_err-count-clause-numbered
returns-in_err-count-clause-numbered g c =
    let is : c.from_residual.result ≡ Err c.in_err-count.field-0.0 = search rules in
    run_unread c.args.user.now c.args.folder.now c.args.mails.now (state g.S.Store c.args.store.now) (state g.S.Store c.count_same.new.store) c.count_same.result c.count_same.ensures c.in_err-count.field-0.0 c.from_residual.result c.in_err-count.was is

pub returns-then-count-eq0-clause-acts : goal.returns-then-count-eq0-clause-acts
returns-then-count-eq0-clause-acts g c =
    mails_none c.args.user.now c.args.folder.now c.args.mails.now (state g.S.Store c.args.store.now) (state g.S.Store c.count_same.new.store) c.count_same.result c.count_same.ensures c.in_ok-count.count c.in_ok-count.was

pub returns-then-count-eq0-clause-numbered : goal.returns-then-count-eq0-clause-numbered
returns-then-count-eq0-clause-numbered g c =
    run_none c.args.user.now c.args.folder.now c.args.mails.now (state g.S.Store c.args.store.now) (state g.S.Store c.count_same.new.store) c.count_same.result c.count_same.ensures c.in_ok-count.count c.in_ok-count.was c.if-count-eq0.true

pub returns-in_err-take_mails-clause-acts : goal.returns-in_err-take_mails-clause-acts
returns-in_err-take_mails-clause-acts g c =
    let is : c.from_residual-in_err-take_mails.result ≡ Err c.in_err-take_mails.field-0.0 = search rules in
    let some : 1 ≤ c.in_ok-count.count = omega (arith, c.if-count-eq0.false) in
    mails_undone c.args.user.now c.args.folder.now c.args.mails.now (state g.S.Store c.args.store.now) (state g.S.Store c.count_same.new.store) c.count_same.result c.count_same.ensures c.in_ok-count.count c.in_ok-count.was some
    (state g.S.Store c.take_mails.new.self) c.take_mails.result c.take_mails.ensures.writes c.in_err-take_mails.field-0.0 c.from_residual-in_err-take_mails.result c.in_err-take_mails.was is c.in_err-take_mails.ensures.named

pub returns-in_err-take_mails-clause-numbered : goal.returns-in_err-take_mails-clause-numbered
returns-in_err-take_mails-clause-numbered g c =
    let is : c.from_residual-in_err-take_mails.result ≡ Err c.in_err-take_mails.field-0.0 = search rules in
    let some : 1 ≤ c.in_ok-count.count = omega (arith, c.if-count-eq0.false) in
    run_undone c.args.user.now c.args.folder.now c.args.mails.now (state g.S.Store c.args.store.now) (state g.S.Store c.count_same.new.store) c.count_same.result c.count_same.ensures c.in_ok-count.count c.in_ok-count.was some
    (state g.S.Store c.take_mails.new.self) c.take_mails.result c.take_mails.ensures.writes c.in_err-take_mails.field-0.0 c.from_residual-in_err-take_mails.result is c.in_err-take_mails.ensures.named

pub returns-clause-acts : goal.returns-clause-acts
returns-clause-acts g c =
    let some : 1 ≤ c.in_ok-count.count = omega (arith, c.if-count-eq0.false) in
    let user = c.args.user.now in
    let folder = c.args.folder.now in
    let mails = c.args.mails.now in
    let old = state g.S.Store c.args.store.now in
    let new = state g.S.Store c.take_mails.new.self in
    subst (λ n. ActsMailTakings user folder mails old new (Ok n)) (sym c.from.ensures) (mails_made user folder mails old (state g.S.Store c.count_same.new.store) c.count_same.result c.count_same.ensures c.in_ok-count.count c.in_ok-count.was some
    new c.take_mails.result c.take_mails.ensures.writes c.in_ok-take_mails.field-0 c.in_ok-take_mails.was)

pub returns-clause-numbered : goal.returns-clause-numbered
returns-clause-numbered g c =
    let some : 1 ≤ c.in_ok-count.count = omega (arith, c.if-count-eq0.false) in
    let user = c.args.user.now in
    let folder = c.args.folder.now in
    let mails = c.args.mails.now in
    let old = state g.S.Store c.args.store.now in
    let new = state g.S.Store c.take_mails.new.self in
    subst (λ n. TakesLongestRun user folder mails old new (Ok n)) (sym c.from.ensures) (run_made user folder mails old (state g.S.Store c.count_same.new.store) c.count_same.result c.count_same.ensures c.in_ok-count.count c.in_ok-count.was some
    new c.take_mails.result c.take_mails.ensures.writes)
