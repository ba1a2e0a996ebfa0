use Rattle.std.proofs.Common.{◌≡◌, take}
use Rattle.sqlite.specs.Held.{state}
use Rattle.sqlite.specs.State.{HasCleanDisk, Survives}
use Rattle.store_tables.proofs.WriteLemmas.{HasMade}
use Rattle.store_tables.proofs.change.make_all.Given as goal

abbrev pub invariant-loop-change : goal.invariant-loop-change
invariant-loop-change g l =
    let old = state g.S.Store l.initial.tx.conn.now in
    let now = state g.S.Store l.tx.conn.now in
    record {
      same : l.tx.conn.ghost_name ≡ l.initial.tx.conn.ghost_name;
      survives : Survives old now (λ _. ⊥);
      made : HasCleanDisk now → HasMade old now (take l.change-index l.changes);
    }
