use Rattle.std.proofs.Common.{◌≡◌, true, refl, subst, rules, OnOk}
use Rattle.sqlite.specs.Held.{state}
use Rattle.sqlite.specs.State.{HasCleanDisk, Survives}
use Rattle.sqlite.proofs.StateLemmas.{survives_weaker}
use Rattle.store_versions.specs.Upgrade.{MigratesBy, MayMigrate}
use Rattle.store_tables.proofs.CreateLemmas.{all_made, turns_all}
use Rattle.store_versions.proofs.upgrade.migrate.Goals as goal

pub returns-clause-made : goal.returns-clause-made
returns-clause-made g c =
    let begun = c.transaction-tx.ensures.begun in
    let start = state g.S.Store (record c.args.conn.now { in_transaction = true }) in
    let last = state g.S.Store c.migrate_in.new.tx.conn.now in
    let done = all_made (MigratesBy c.args.older) start last c.migrate_in.result _ c.in_ok-migrate_in.was refl (rw begun at c.migrate_in.ensures.made) (state g.S.Store c.commit.new.self.0) c.commit.result _ _ _ c.commit.ensures.survives c.commit.ensures.ok in
    let same : c.commit.new.self.0 ≡ c.conn-2-1.given.0 = search rules in
    subst (λ h. HasCleanDisk (state g.S.Store h) → OnOk c.commit.result (MigratesBy c.args.older (state g.S.Store c.args.conn.now).now (state g.S.Store h).now)) same done

pub returns-clause-crash : goal.returns-clause-crash
returns-clause-crash g c =
    let begun = c.transaction-tx.ensures.begun in
    let last = state g.S.Store c.migrate_in.new.tx.conn.now in
    let all = turns_all g.S.Store (MigratesBy c.args.older) c.args.conn.now last (state g.S.Store c.commit.new.self.0) c.migrate_in.result _ c.in_ok-migrate_in.was (rw begun at c.migrate_in.ensures.made) (rw begun at c.migrate_in.ensures.survives) c.commit.ensures.survives in
    let told = survives_weaker (state g.S.Store c.args.conn.now) (state g.S.Store c.commit.new.self.0) _ (MayMigrate c.args.older (state g.S.Store c.args.conn.now)) (λ clean db may. record { db = may.0; turned = may.1; left = may.2 }) all in
    let same : c.commit.new.self.0 ≡ c.conn-2-1.given.0 = search rules in
    subst (λ h. Survives (state g.S.Store c.args.conn.now) (state g.S.Store h) (MayMigrate c.args.older (state g.S.Store c.args.conn.now))) same told
