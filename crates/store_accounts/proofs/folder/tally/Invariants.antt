use Rattle.std.proofs.Common.{◌≡◌, map, take}
use Rattle.sqlite_value.specs.Order.{column, bytes}
use Rattle.store_accounts.specs.Tally.{tallied}
use Rattle.store_accounts.proofs.folder.tally.Given as goal

abbrev pub invariant-loop-row : goal.invariant-loop-row
invariant-loop-row l = l.all.items ≡ tallied (map (λ r. bytes (column r 0)) (take l.row-index l.rows))
