use Rattle.std.proofs.Common.{◌≡◌, true, refl, subst, rules, OnOk}
use Rattle.sqlite.specs.Held.{state}
use Rattle.sqlite.specs.State.{HasCleanDisk, Survives}
use Rattle.store_tables.specs.Ours.{TurnsOurs, MayCreate}
use Rattle.store_tables.proofs.CreateLemmas.{all_made, creates_all}
use Rattle.store_tables.proofs.table.make_tables.Goals as goal

pub returns-clause-made : goal.returns-clause-made
returns-clause-made g c =
    let begun = c.transaction-tx.ensures.begun in
    let start = state g.S.Store (record c.args.conn.now { in_transaction = true }) in
    let last = state g.S.Store c.make_ours.new.tx.conn.now in
    let done = all_made TurnsOurs start last c.make_ours.result _ c.in_ok-make_ours.was refl (rw begun at c.make_ours.ensures.made) (state g.S.Store c.commit.new.self.0) c.commit.result _ _ _ c.commit.ensures.survives c.commit.ensures.ok in
    let same : c.commit.new.self.0 ≡ c.conn-2-1.given.0 = search rules in
    subst (λ h. HasCleanDisk (state g.S.Store h) → OnOk c.commit.result (TurnsOurs (state g.S.Store c.args.conn.now).now (state g.S.Store h).now)) same done

pub returns-clause-crash : goal.returns-clause-crash
returns-clause-crash g c =
    let begun = c.transaction-tx.ensures.begun in
    let last = state g.S.Store c.make_ours.new.tx.conn.now in
    let all = creates_all g.S.Store c.args.conn.now last (state g.S.Store c.commit.new.self.0) c.make_ours.result _ c.in_ok-make_ours.was (rw begun at c.make_ours.ensures.made) (rw begun at c.make_ours.ensures.survives) c.commit.ensures.survives in
    let same : c.commit.new.self.0 ≡ c.conn-2-1.given.0 = search rules in
    subst (λ h. Survives (state g.S.Store c.args.conn.now) (state g.S.Store h) (MayCreate (state g.S.Store c.args.conn.now))) same all
