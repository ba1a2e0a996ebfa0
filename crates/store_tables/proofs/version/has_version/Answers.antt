use Rattle.std.proofs.Common.{◌≡◌, ◌↔◌, Err, IsTrue, pos, rules}
use Rattle.sqlite.specs.Held.{state}
use Rattle.store_tables.specs.Schema.{IsOurSchema}
use Rattle.store_tables.specs.Ours.{IsOurs}
use Rattle.store_tables.proofs.VersionLemmas.{says_version, asks_refused, asks_ours, ours_says}
use Rattle.store_tables.proofs.version.has_version.Goals as goal

pub returns-in_err-rows : goal.returns-in_err-rows
returns-in_err-rows g c =
    let is : c.from_residual.result ≡ Err c.in_err-rows.field-0.0 = search rules in
    let old = state g.S.Store c.args.conn.now in
    record {
      ended = search rules;
      limit = search rules;
      finds = asks_refused IsOurSchema asks_ours old (state g.S.Store c.find_version.new.conn) c.find_version.result c.find_version.ensures.finds (λ is. IsTrue is ↔ IsOurs old.now) c.in_err-rows.field-0.0 c.from_residual.result is;
    }

pub returns : goal.returns
returns g c = record {
  ended = search rules;
  limit = search rules;
  finds = says_version IsOurSchema asks_ours (state g.S.Store c.args.conn.now) (state g.S.Store c.find_version.new.conn) c.find_version.result c.find_version.ensures.finds (pos 3) IsOurs ours_says c.in_ok-rows.rows c.in_ok-rows.was c.are_version.result (rw (c.deref.ensures.value) at c.are_version.ensures);
}
