use Rattle.std.proofs.Common.{◌≡◌, Ok, rules}
use Rattle.store_tables.proofs.ListLemmas.{pair_key}
use Rattle.store_tables.specs.CopyTable.{select_numbers}
use Rattle.store_tables.proofs.TextFacts.{select_numbers_plain}
use Rattle.store_accounts.specs.declared.refusal.Refusal.{Refusal}
use Rattle.store_accounts.specs.FirstCells.{first_one}
use Rattle.store_accounts.specs.FolderNumbers.{AreNumberRows, AreNumbersOf, number_cells}
use Rattle.store_accounts.proofs.ListedLemmas.{numbers_are, numbers_read}
use Rattle.store_accounts.proofs.EachLemmas.{finds_among}
use Rattle.store_accounts.proofs.store.Store.numbers_of.Goals as goal

pub read_each-requires-clause-plain : goal.read_each-requires-clause-plain
read_each-requires-clause-plain g c = select_numbers_plain.0

pub returns-clause-finds : goal.returns-clause-finds
returns-clause-finds g c =
    let same : c.self.inside.conn ≡ c.args.self.now = search rules in
    let user = c.args.user.now in
    let folder = c.args.folder.now in
    rw same at (finds_among g.S.Store select_numbers (pair_key user folder) number_cells first_one c.self.inside.conn c.read_each.new.conn c.read_each.result user (AreNumberRows user folder) (AreNumbersOf user folder)
    (λ rows tables h. numbers_read _ _ rows tables h user folder) (λ rows all own are is. numbers_are {E = Refusal} user folder (Ok all) rows own is are) (rw (c.params-to_sql.ensures, c.params-to_sql-2.ensures) at c.read_each.ensures))
