use Rattle.store_tables.proofs.ListLemmas.{owner_key}
use Rattle.store_tables.specs.AccountTable.{account_tree, select_account}
use Rattle.store_accounts.specs.AccountRows.{shown_account}
use Rattle.store_tables.proofs.TextFacts.{select_account_plain}
use Rattle.store_accounts.proofs.QueryLemmas.{account_found}
use Rattle.store_accounts.proofs.KeepLemmas.{finds_own}
use Rattle.store_accounts.proofs.account.find_account.Goals as goal

pub returns : goal.returns
returns g c =
    finds_own g.S.Store select_account (owner_key c.args.name.now) select_account_plain.0 c.args.conn.now c.query.new.conn c.query.result (rw (c.params-to_sql.ensures) at c.query.ensures)
    c.args.name.now account_tree shown_account (λ rows tables h. account_found _ _ rows tables h c.args.name.now)
