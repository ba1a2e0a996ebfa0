use Rattle.std.proofs.Common.{◌≡◌}
use Rattle.sqlite.specs.Held.{state}
use Rattle.sqlite.specs.State.{HasCleanDisk}
use Rattle.store_accounts.specs.Schema.{mail_schema}
use Rattle.store_accounts.specs.Connection.{StaysSame}
use Rattle.store_accounts.specs.Opening.{IsKnown}
use Rattle.store_lock.proofs.TakenLemmas.{same_if, if_stale}
use Rattle.store_lock.proofs.keeper.store_of.Goals as goal

pub returns-else-fresh-clause-same : goal.returns-else-fresh-clause-same
returns-else-fresh-clause-same g c =
    same_if c.open.result (λ store. HasCleanDisk (state g.S.Store store)) (λ store. StaysSame (state g.S.Store c.args.conn) (state g.S.Store store)) (c.args.conn.schema ≡ mail_schema) c.args.fresh c.open.ensures.same

pub returns-else-fresh-clause-ours : goal.returns-else-fresh-clause-ours
returns-else-fresh-clause-ours g c = if_stale c.open.result (λ store. HasCleanDisk (state g.S.Store store)) (IsKnown (state g.S.Store c.args.conn).now) c.args.fresh c.open.ensures.ours
