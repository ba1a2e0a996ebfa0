use Rattle.std.proofs.Common.{◌≡◌, true, rules, subst, arith, OnOk}
use Rattle.std.proofs.lemmas.List.{take_all}
use Rattle.sqlite.specs.Held.{state}
use Rattle.sqlite.specs.State.{HasCleanDisk, Survives}
use Rattle.sqlite.proofs.StateLemmas.{survives_then}
use Rattle.store_tables.specs.Rows.{Tables, HoldsTables}
use Rattle.store_tables.specs.Schema.{mail_schema}
use Rattle.store_tables.specs.Changes.{made, CrashLeavesTables}
use Rattle.store_tables.proofs.WriteLemmas.{HasMade, one_more, if_committed, commits_all}
use Rattle.store_tables.proofs.change.make_all.Goals as goal

pub loop-change-preserved : goal.loop-change-preserved
loop-change-preserved g c =
    let was = c.loop-change.invariant in
    let old = state g.S.Store c.transaction-tx.result.conn.now in
    let mid = state g.S.Store c.loop-change.tx.conn.now in
    let new = state g.S.Store c.make.new.tx.conn.now in
    record {
      same = search rules;
      survives = survives_then old mid new _ _ _ (λ _ db none. none) (λ _ db none. none) was.survives c.make.ensures.survives;
      made = one_more old mid new c.args.changes.now c.loop-change.change-index _ c.make.result c.in_ok-make.field-0 c.in_ok-make.was c.loop-change-test.true was.made c.make.ensures.survives c.make.ensures.made;
    }

pub returns-clause-made : goal.returns-clause-made
returns-clause-made g c =
    let begun = c.transaction-tx.ensures.begun in
    let old = record c.args.conn.now { in_transaction = true } in
    let last = state g.S.Store c.loop-change.tx.conn.now in
    let whole = take_all c.loop-change.change-index c.args.changes.now (omega arith) in
    let was = subst (λ cs. HasCleanDisk last → HasMade (state g.S.Store old) last cs) whole (rw begun at c.loop-change.invariant.made) in
    let done = if_committed c.commit.result (state g.S.Store old) last (state g.S.Store c.commit.new.self.0) c.args.changes.now _ _ _ was c.commit.ensures.survives c.commit.ensures.ok in
    let same : c.commit.new.self.0 ≡ c.conn-2-1.given.0 = search rules in
    subst (λ h. HasCleanDisk (state g.S.Store h) → (tables : Tables) → HoldsTables mail_schema (state g.S.Store c.args.conn.now).now tables → OnOk c.commit.result (HoldsTables mail_schema (state g.S.Store h).now (made tables c.args.changes.now))) same done

pub returns-clause-crash : goal.returns-clause-crash
returns-clause-crash g c =
    let begun = c.transaction-tx.ensures.begun in
    let old = record c.args.conn.now { in_transaction = true } in
    let last = state g.S.Store c.loop-change.tx.conn.now in
    let whole = take_all c.loop-change.change-index c.args.changes.now (omega arith) in
    let was = subst (λ cs. HasCleanDisk last → HasMade (state g.S.Store old) last cs) whole (rw begun at c.loop-change.invariant.made) in
    let all = commits_all g.S.Store c.args.conn.now last (state g.S.Store c.commit.new.self.0) c.args.changes.now (rw begun at c.loop-change.invariant.survives) c.commit.ensures.survives was in
    let same : c.commit.new.self.0 ≡ c.conn-2-1.given.0 = search rules in
    subst (λ h. Survives (state g.S.Store c.args.conn.now) (state g.S.Store h) (CrashLeavesTables c.args.changes.now (state g.S.Store c.args.conn.now))) same all
