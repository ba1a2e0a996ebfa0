use Rattle.std.proofs.Common.{OnOk, IfErr, rules}
use Rattle.sqlite.specs.Held.{state}
use Rattle.store_accounts.specs.Refusals.{IsTransient}
use Rattle.store_accounts.proofs.OverLemmas.{pushed_more, pushed_lost}
use Rattle.store_accounts.proofs.store.Store.push_parts_over.Goals as goal

pub returns-in_err-push_over : goal.returns-in_err-push_over
returns-in_err-push_over g c =
    let none : OnOk c.from_residual.result ⊥ = search rules in
    let transient : IfErr c.from_residual.result IsTransient = search rules in
    pushed_lost c.args.user.now c.args.parts.now c.loop-part.part-index c.part-item.result c.loop-part-test.true c.part-item.is (state g.S.Store c.args.self.now) (state g.S.Store c.loop-part.self) (state g.S.Store c.push_over.new.self)
    c.args.changes.now.items c.loop-part.changes.items c.push_over.new.changes.items c.loop-part.invariant c.push_over.result c.push_over.ensures c.from_residual.result none transient

pub loop-part-preserved : goal.loop-part-preserved
loop-part-preserved g c =
    pushed_more c.args.user.now c.args.parts.now c.loop-part.part-index c.part-item.result c.loop-part-test.true c.part-item.is (state g.S.Store c.args.self.now) (state g.S.Store c.loop-part.self) (state g.S.Store c.push_over.new.self)
    c.args.changes.now.items c.loop-part.changes.items c.push_over.new.changes.items c.loop-part.invariant c.push_over.result c.push_over.ensures c.in_ok-push_over.field-0 c.in_ok-push_over.was
