use Rattle.store_accounts.proofs.LeavingLemmas.{takings_more, takings_are}
use Rattle.store_accounts.proofs.taking.taking_changes.Goals as goal

pub loop-one-preserved : goal.loop-one-preserved
loop-one-preserved c =
    takings_more c.args.user.now c.args.folder.now c.args.leaving.now c.loop-one.one-index c.one-item.result c.new-changes.result.items c.loop-one.changes.items c.push_taking.new.changes.items c.loop-one-test.true c.one-item.is c.loop-one.invariant
    c.in_ok-push_taking.ensures.taking

pub returns-clause-taking : goal.returns-clause-taking
returns-clause-taking c =
    takings_are c.args.user.now c.args.folder.now c.args.leaving.now c.loop-one.one-index c.new-changes.result.items c.loop-one.changes.items c.loop-one-test.false c.new-changes.ensures.items c.loop-one.invariant
