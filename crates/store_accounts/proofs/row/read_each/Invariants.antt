use Rattle.std.proofs.Common.{◌≡◌}
use Rattle.sqlite.specs.Values.{bound}
use Rattle.store_accounts.proofs.EachLemmas.{IsUnderWay}
use Rattle.store_accounts.proofs.row.read_each.Given as goal

abbrev pub invariant-rows : goal.invariant-rows
invariant-rows g l =
    (l.rows.conn.ghost_name ≡ l.initial.rows.conn.ghost_name) × IsUnderWay g.S.Store l.sql (bound l.params) g.T.FromRow.shows g.T.FromRow.cells_of l.fn.conn l.rows.conn.now l.all.items
