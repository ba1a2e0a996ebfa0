use Rattle.store_tables.specs.CopyTable.{select_later_folder}
use Rattle.store_accounts.specs.Next.{IsLaterFolder, ShowFiled}
use Rattle.store_tables.proofs.TextFacts.{select_later_folder_plain}
use Rattle.store_accounts.proofs.AllLemmas.{finds_all}
use Rattle.store_accounts.proofs.NextLemmas.{folder_params, later_folder_read}
use Rattle.store_accounts.proofs.next.find_later_folder.Goals as goal

pub returns : goal.returns
returns g c =
    finds_all g.S.Store select_later_folder (folder_params c.args.owner.now c.args.folder.now) select_later_folder_plain.0 c.args.conn.now c.query.new.conn c.query.result (rw (c.params-to_sql.ensures, c.params-to_sql-2.ensures) at c.query.ensures) (ShowFiled (IsLaterFolder c.args.owner.now c.args.folder.now)) (λ rows tables h. later_folder_read _ _ rows tables h c.args.owner.now c.args.folder.now)
