use Rattle.store_tables.specs.CopyTable.{select_nth}
use Rattle.store_accounts.specs.Shows.{AreNthRows}
use Rattle.store_tables.proofs.TextFacts.{select_nth_plain}
use Rattle.store_accounts.proofs.NthLemmas.{nth_params, nth_read}
use Rattle.store_accounts.proofs.KeepLemmas.{finds_among}
use Rattle.store_accounts.proofs.filing.find_nth.Goals as goal

pub returns : goal.returns
returns g c =
    let owner = c.args.owner.now in
    let folder = c.args.folder.now in
    finds_among g.S.Store select_nth (nth_params owner folder c.args.count.now) select_nth_plain.0 c.args.conn.now c.query.new.conn c.query.result (rw (c.params-to_sql.ensures, c.params-to_sql-2.ensures, c.params-to_sql-3.ensures) at c.query.ensures)
    owner (AreNthRows owner folder c.args.count.now) (λ rows tables h. nth_read _ _ rows tables h owner folder c.args.count.now)
