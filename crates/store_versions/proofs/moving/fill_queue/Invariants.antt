use Rattle.std.proofs.Common.{Ok, take}
use Rattle.store_tables.specs.Connection.{RunsInside, TurnsRows}
use Rattle.store_tables.specs.QueueTable.{outgoing_tree}
use Rattle.store_versions.specs.OldSchema.{queue_columns}
use Rattle.store_versions.specs.Migration.{rows_joined}
use Rattle.store_versions.proofs.moving.fill_queue.Given as goal
use Rattle.store_versions.specs.Inside.{TurnsInside}

abbrev pub invariant-loop-row : goal.invariant-loop-row
invariant-loop-row g l = RunsInside {X = Unit {0}} g.S.Store (TurnsInside (TurnsRows (rows_joined outgoing_tree queue_columns (take l.row-index l.rows)))) l.initial.tx l.tx (Ok tt)
