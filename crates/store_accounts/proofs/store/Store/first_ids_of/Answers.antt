use Rattle.std.proofs.Common.{◌≡◌, Ok, rules}
use Rattle.store_tables.proofs.ListLemmas.{owner_key}
use Rattle.store_accounts.specs.declared.refusal.Refusal.{Refusal}
use Rattle.store_accounts.specs.FirstCells.{first_one}
use Rattle.store_accounts.specs.FolderNumbers.{number_cells}
use Rattle.store_accounts.specs.Listing.{AreFirstIdRows, select_first_ids}
use Rattle.store_accounts.specs.QueueRows.{AreFirstIds}
use Rattle.store_accounts.proofs.EachLemmas.{reads_entered}
use Rattle.store_accounts.proofs.RoomLemmas.{select_first_ids_plain, first_ids_are, first_ids_read}
use Rattle.store_accounts.proofs.store.Store.first_ids_of.Goals as goal

pub read_each-requires-clause-plain : goal.read_each-requires-clause-plain
read_each-requires-clause-plain g c = select_first_ids_plain.0

pub returns : goal.returns
returns g c =
    let same : c.self.inside.conn ≡ c.args.self.now = search rules in
    let user = c.args.user.now in
    (rw same at (reads_entered g.S.Store select_first_ids (owner_key user) number_cells first_one c.self.inside.conn c.read_each.new.conn c.read_each.result user AreFirstIdRows AreFirstIds
    (λ rows accounts p. first_ids_read _ _ rows accounts p user) (λ rows all a are is. first_ids_are {E = Refusal} (Ok all) rows a is are) (rw (c.params-to_sql.ensures) at c.read_each.ensures))).finds
