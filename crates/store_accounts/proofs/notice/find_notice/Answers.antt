use Rattle.store_tables.specs.MessageTable.{message_key}
use Rattle.store_accounts.specs.Listing.{select_notice, HasNoticeRow}
use Rattle.store_accounts.proofs.KeepLemmas.{finds_among}
use Rattle.store_accounts.proofs.NoticeLemmas.{notice_read, select_notice_plain}
use Rattle.store_accounts.proofs.notice.find_notice.Goals as goal

pub returns : goal.returns
returns g c =
    finds_among g.S.Store select_notice (message_key c.args.owner.now c.args.id.now) select_notice_plain.0 c.args.conn.now c.query.new.conn c.query.result (rw (c.params-to_sql.ensures, c.params-to_sql-2.ensures) at c.query.ensures)
    c.args.owner.now (HasNoticeRow c.args.owner.now c.args.id.now) (λ rows tables h. notice_read _ _ rows tables h c.args.owner.now c.args.id.now)
