use Rattle.std.proofs.Common.{◌≡◌, true, Ok, refl, rules}
use Rattle.sqlite.specs.Held.{state}
use Rattle.store_versions.proofs.UpgradeLemmas.{old_all}
use Rattle.store_versions.proofs.upgrade.open_old.Goals as goal

pub returns-clause-opens : goal.returns-clause-opens
returns-clause-opens g c =
    let old = state g.S.Store c.args.conn.now in
    let between = state g.S.Store c.has_old_version.new.conn in
    let new = state g.S.Store c.migrate.new.conn in
    let was : c.has_old_version.result ≡ Ok true = search rules in
    let made = c.migrate.ensures in
    old_all c.args.older old between new c.has_old_version.result c.has_old_version.ensures.finds was c.migrate.result made.made made.settled made.same made.crash c.in_ok-migrate.field-0 c.in_ok-migrate.was _ refl
