use Rattle.std.proofs.Common.{Ok, take}
use Rattle.store_tables.specs.Connection.{RunsInside, TurnsRows}
use Rattle.store_tables.specs.ReplyTable.{reply_tree}
use Rattle.store_versions.specs.OldSchema.{four_cells}
use Rattle.store_versions.specs.Migration.{rows_joined}
use Rattle.store_versions.proofs.moving.fill_replies.Given as goal
use Rattle.store_versions.specs.Inside.{TurnsInside}

abbrev pub invariant-loop-row : goal.invariant-loop-row
invariant-loop-row g l = RunsInside {X = Unit {0}} g.S.Store (TurnsInside (TurnsRows (rows_joined reply_tree four_cells (take l.row-index l.rows)))) l.initial.tx l.tx (Ok tt)
