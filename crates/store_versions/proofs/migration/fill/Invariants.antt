use Rattle.std.proofs.Common.{Ok, take}
use Rattle.store_tables.specs.Connection.{RunsInside, TurnsRows}
use Rattle.store_versions.specs.Migration.{filled}
use Rattle.store_versions.proofs.migration.fill.Given as goal
use Rattle.store_versions.specs.Inside.{TurnsInside}

abbrev pub invariant-loop-row : goal.invariant-loop-row
invariant-loop-row g l = RunsInside {X = Unit {0}} g.S.Store (TurnsInside (TurnsRows (filled (take l.row-index l.rows)))) l.initial.tx l.tx (Ok tt)
