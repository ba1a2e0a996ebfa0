use Rattle.std.proofs.Common.{◌≡◌, Ok, rules}
use Rattle.store_tables.proofs.ListLemmas.{owner_key}
use Rattle.store_accounts.specs.declared.refusal.Refusal.{Refusal}
use Rattle.store_accounts.specs.FirstCells.{first_one}
use Rattle.store_accounts.specs.FolderNumbers.{number_cells}
use Rattle.store_accounts.specs.Listing.{select_notice_numbers, AreNoticeNumberRows, AreNoticeNumbersOf}
use Rattle.store_accounts.proofs.EachLemmas.{finds_among}
use Rattle.store_accounts.proofs.NoticeLemmas.{select_notice_numbers_plain, notice_numbers_are, notice_numbers_read}
use Rattle.store_accounts.proofs.store.Store.notice_numbers_of.Goals as goal

pub read_each-requires-clause-plain : goal.read_each-requires-clause-plain
read_each-requires-clause-plain g c = select_notice_numbers_plain.0

pub returns-clause-finds : goal.returns-clause-finds
returns-clause-finds g c =
    let same : c.self.inside.conn ≡ c.args.self.now = search rules in
    let user = c.args.user.now in
    rw same at (finds_among g.S.Store select_notice_numbers (owner_key user) number_cells first_one c.self.inside.conn c.read_each.new.conn c.read_each.result user (AreNoticeNumberRows user) (AreNoticeNumbersOf user)
    (λ rows tables h. notice_numbers_read _ _ rows tables h user) (λ rows all own are is. notice_numbers_are {E = Refusal} user (Ok all) rows own is are) (rw (c.params-to_sql.ensures) at c.read_each.ensures))
