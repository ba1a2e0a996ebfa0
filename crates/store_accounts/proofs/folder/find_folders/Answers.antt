use Rattle.store_tables.proofs.ListLemmas.{owner_key}
use Rattle.store_tables.specs.CopyTable.{select_folders}
use Rattle.store_accounts.specs.Tally.{AreFolderRows}
use Rattle.store_tables.proofs.TextFacts.{select_folders_plain}
use Rattle.store_accounts.proofs.FolderLemmas.{folders_read}
use Rattle.store_accounts.proofs.KeepLemmas.{finds}
use Rattle.store_accounts.proofs.folder.find_folders.Goals as goal

pub returns : goal.returns
returns g c =
    finds g.S.Store select_folders (owner_key c.args.owner.now) select_folders_plain.0 c.args.conn.now c.query.new.conn c.query.result (rw (c.params-to_sql.ensures) at c.query.ensures)
    c.args.owner.now AreFolderRows (λ rows accounts p. folders_read _ _ rows accounts p c.args.owner.now)
