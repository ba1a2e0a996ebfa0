use Rattle.std.proofs.Common.{◌≡◌, Err, rules}
use Rattle.sqlite.specs.Held.{state}
use Rattle.store_engine.proofs.TakingLemmas.{taking_unread, taking_none, taking_made, taking_undone}
use Rattle.store_engine.proofs.taking.take_out.Goals as goal

pub returns-in_err-row-clause-acts : goal.returns-in_err-row-clause-acts
returns-in_err-row-clause-acts g c =
    let is : c.from_residual.result ≡ Err c.in_err-row.field-0.0 = search rules in
    taking_unread c.args.user.now c.args.id (state g.S.Store c.args.store.now) (state g.S.Store c.outgoing.new.store) c.in_err-row.field-0.0 c.from_residual.result is c.in_err-row.ensures

pub returns-in_default-clause-acts : goal.returns-in_default-clause-acts
returns-in_default-clause-acts g c =
    taking_none c.args.user.now c.args.id (state g.S.Store c.args.store.now) (state g.S.Store c.outgoing.new.store) c.outgoing.result c.in_ok-row.field-0 c.in_ok-row.was c.outgoing.ensures c.in_default.is

pub returns-in_err-take_out-clause-acts : goal.returns-in_err-take_out-clause-acts
returns-in_err-take_out-clause-acts g c =
    let same : c.from_residual-in_err-take_out.result ≡ Err c.in_err-take_out.field-0.0 = search (rules, c.from_residual-in_err-take_out.ensures) in
    taking_undone c.args.user.now c.args.id (state g.S.Store c.args.store.now) (state g.S.Store c.outgoing.new.store) c.outgoing.result c.in_ok-row.field-0 c.in_ok-row.was c.outgoing.ensures c.in-Some.row c.in-Some.is
    (state g.S.Store c.take_out.new.self) c.take_out.result c.take_out.ensures c.in_err-take_out.field-0.0 c.from_residual-in_err-take_out.result c.in_err-take_out.was same c.in_err-take_out.ensures.named

pub returns-clause-acts : goal.returns-clause-acts
returns-clause-acts g c =
    taking_made c.args.user.now c.args.id (state g.S.Store c.args.store.now) (state g.S.Store c.outgoing.new.store) c.outgoing.result c.in_ok-row.field-0 c.in_ok-row.was c.outgoing.ensures c.in-Some.row c.in-Some.is
    (state g.S.Store c.take_out.new.self) c.take_out.result c.take_out.ensures c.in_ok-take_out.field-0 c.in_ok-take_out.was
