use Rattle.store_tables.specs.CopyTable.{select_later_number}
use Rattle.store_accounts.specs.Next.{ShowLaterNumber}
use Rattle.store_tables.proofs.TextFacts.{select_later_number_plain}
use Rattle.store_accounts.proofs.AllLemmas.{finds_all}
use Rattle.store_accounts.proofs.NextLemmas.{number_params, later_number_read}
use Rattle.store_accounts.proofs.next.find_later_number.Goals as goal

pub returns : goal.returns
returns g c =
    finds_all g.S.Store select_later_number (number_params c.args.owner.now c.args.folder.now c.args.n.now) select_later_number_plain.0 c.args.conn.now c.query.new.conn c.query.result (rw (c.params-to_sql.ensures, c.params-to_sql-2.ensures, c.params-to_sql-3.ensures) at c.query.ensures) (ShowLaterNumber c.args.owner.now c.args.folder.now c.args.n.now) (λ rows tables h. later_number_read _ _ rows tables h c.args.owner.now c.args.folder.now c.args.n.now)
