use Rattle.store_tables.proofs.ListLemmas.{owner_key}
use Rattle.store_tables.specs.AccountTable.{account_tree, select_counters}
use Rattle.store_accounts.specs.AccountRows.{shown_counters}
use Rattle.store_tables.proofs.TextFacts.{select_counters_plain}
use Rattle.store_accounts.proofs.QueryLemmas.{counters_found}
use Rattle.store_accounts.proofs.KeepLemmas.{finds_own}
use Rattle.store_accounts.proofs.account.find_counters.Goals as goal

pub returns : goal.returns
returns g c =
    finds_own g.S.Store select_counters (owner_key c.args.name.now) select_counters_plain.0 c.args.conn.now c.query.new.conn c.query.result (rw (c.params-to_sql.ensures) at c.query.ensures)
    c.args.name.now account_tree shown_counters (λ rows tables h. counters_found _ _ rows tables h c.args.name.now)
