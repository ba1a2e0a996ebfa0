use Rattle.std.proofs.Common.{◌≡◌, Ok, rules}
use Rattle.store_tables.proofs.ListLemmas.{owner_key}
use Rattle.store_tables.specs.NoticeTable.{select_notices}
use Rattle.store_tables.proofs.TextFacts.{select_notices_plain}
use Rattle.store_accounts.specs.declared.refusal.Refusal.{Refusal}
use Rattle.store_accounts.specs.FirstCells.{first_two}
use Rattle.store_accounts.specs.NoticeRows.{AreNoticeRows, notice_cells}
use Rattle.store_accounts.proofs.ReadLemmas.{notices_read}
use Rattle.store_accounts.proofs.DecodeLemmas.{notices_are}
use Rattle.store_accounts.proofs.EachLemmas.{reads_entered}
use Rattle.store_accounts.proofs.store.Store.notices_of.Goals as goal

pub read_each-requires-clause-plain : goal.read_each-requires-clause-plain
read_each-requires-clause-plain g c = select_notices_plain.0

pub returns : goal.returns
returns g c =
    let same : c.self.inside.conn ≡ c.args.self.now = search rules in
    let user = c.args.user.now in
    (rw same at (reads_entered g.S.Store select_notices (owner_key user) notice_cells first_two c.self.inside.conn c.read_each.new.conn c.read_each.result user AreNoticeRows (λ notices a. notices ≡ a.notices)
    (λ rows accounts p. notices_read _ _ rows accounts p user) (λ rows all a are is. notices_are {E = Refusal} (Ok all) rows a is are) (rw (c.params-to_sql.ensures) at c.read_each.ensures))).finds
