use Rattle.std.proofs.Common.{◌≡◌, Ok, rules}
use Rattle.store_tables.proofs.ListLemmas.{owner_key}
use Rattle.store_accounts.specs.declared.refusal.Refusal.{Refusal}
use Rattle.store_accounts.specs.CopyRows.{filing_cells}
use Rattle.store_accounts.specs.FirstCells.{first_four}
use Rattle.store_accounts.specs.Listing.{select_filings, AreFilingRows, AreFilingsOf}
use Rattle.store_accounts.proofs.EachLemmas.{finds_among}
use Rattle.store_accounts.proofs.FilingLemmas.{select_filings_plain, filings_are, filings_read}
use Rattle.store_accounts.proofs.store.Store.filings_of.Goals as goal

pub read_each-requires-clause-plain : goal.read_each-requires-clause-plain
read_each-requires-clause-plain g c = select_filings_plain.0

pub returns-clause-finds : goal.returns-clause-finds
returns-clause-finds g c =
    let same : c.self.inside.conn ≡ c.args.self.now = search rules in
    let user = c.args.user.now in
    rw same at (finds_among g.S.Store select_filings (owner_key user) filing_cells first_four c.self.inside.conn c.read_each.new.conn c.read_each.result user (AreFilingRows user) (AreFilingsOf user)
    (λ rows tables h. filings_read _ _ rows tables h user) (λ rows all own are is. filings_are {E = Refusal} user (Ok all) rows own is are) (rw (c.params-to_sql.ensures) at c.read_each.ensures))
