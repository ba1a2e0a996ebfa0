use Rattle.std.proofs.Common.{◌≡◌, ◌↔◌, Err, IsTrue, rules}
use Rattle.sqlite.specs.Held.{state}
use Rattle.store_versions.specs.Upgrade.{IsOlder, IsOlderSchema, version_of}
use Rattle.store_tables.proofs.VersionLemmas.{says_version, asks_refused}
use Rattle.store_versions.proofs.OldVersionLemmas.{asks_older, older_says}
use Rattle.store_versions.proofs.version.has_old_version.Goals as goal

pub returns-in_err-rows : goal.returns-in_err-rows
returns-in_err-rows g c =
    let is : c.from_residual.result ≡ Err c.in_err-rows.field-0.0 = search rules in
    let old = state g.S.Store c.args.conn.now in
    record {
      ended = search rules;
      limit = search rules;
      finds = asks_refused (IsOlderSchema c.args.older) (asks_older c.args.older) old (state g.S.Store c.find_version.new.conn) c.find_version.result c.find_version.ensures.finds (λ is. IsTrue is ↔ IsOlder c.args.older old.now) c.in_err-rows.field-0.0 c.from_residual.result is;
    }

pub returns : goal.returns
returns g c = record {
  ended = search rules;
  limit = search rules;
  finds = says_version (IsOlderSchema c.args.older) (asks_older c.args.older) (state g.S.Store c.args.conn.now) (state g.S.Store c.find_version.new.conn) c.find_version.result c.find_version.ensures.finds (version_of c.args.older) (IsOlder c.args.older) (older_says c.args.older) c.in_ok-rows.rows c.in_ok-rows.was c.are_older.result (rw (c.deref.ensures.value) at c.are_older.ensures);
}
