use Rattle.store_tables.specs.CopyTable.{select_other}
use Rattle.store_accounts.specs.Shows.{AreOtherRows}
use Rattle.store_tables.proofs.TextFacts.{select_other_plain}
use Rattle.store_accounts.proofs.OtherLemmas.{other_params, other_read}
use Rattle.store_accounts.proofs.KeepLemmas.{finds_among}
use Rattle.store_accounts.proofs.filing.find_other.Goals as goal

pub returns : goal.returns
returns g c =
    let owner = c.args.owner.now in
    let id = c.args.id.now in
    let n = c.args.n.now in
    finds_among g.S.Store select_other (other_params owner id n) select_other_plain.0 c.args.conn.now c.query.new.conn c.query.result (rw (c.params-to_sql.ensures, c.params-to_sql-2.ensures, c.params-to_sql-3.ensures) at c.query.ensures)
    owner (AreOtherRows owner id n) (λ rows tables h. other_read _ _ rows tables h owner id n)
