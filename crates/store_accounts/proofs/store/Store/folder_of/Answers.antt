use Rattle.std.proofs.Common.{◌≡◌, Ok, rules}
use Rattle.store_accounts.specs.Account.{messages_in}
use Rattle.store_tables.proofs.ListLemmas.{pair_key}
use Rattle.store_tables.specs.CopyTable.{select_folder}
use Rattle.store_tables.proofs.TextFacts.{select_folder_plain}
use Rattle.store_accounts.specs.declared.refusal.Refusal.{Refusal}
use Rattle.store_accounts.specs.FirstCells.{first_one, text_cells}
use Rattle.store_accounts.specs.CopyRows.{AreMessageRows, AreMessagesOf}
use Rattle.store_accounts.proofs.ReadLemmas.{messages_read}
use Rattle.store_accounts.proofs.DecodeLemmas.{texts_are}
use Rattle.store_accounts.proofs.EachLemmas.{reads_entered}
use Rattle.store_accounts.proofs.store.Store.folder_of.Goals as goal

pub read_each-requires-clause-plain : goal.read_each-requires-clause-plain
read_each-requires-clause-plain g c = select_folder_plain.0

pub returns : goal.returns
returns g c =
    let same : c.self.inside.conn ≡ c.args.self.now = search rules in
    let user = c.args.user.now in
    let folder = c.args.folder.now in
    (rw same at (reads_entered g.S.Store select_folder (pair_key user folder) text_cells first_one c.self.inside.conn c.read_each.new.conn c.read_each.result user (AreMessageRows folder) (AreMessagesOf folder)
    (λ rows accounts p. messages_read _ _ rows accounts p user folder) (λ rows all a are is. texts_are {E = Refusal} (Ok all) rows (messages_in a.folders folder) is are) (rw (c.params-to_sql.ensures, c.params-to_sql-2.ensures) at c.read_each.ensures))).finds
