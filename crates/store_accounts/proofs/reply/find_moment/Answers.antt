use Rattle.store_tables.specs.ReplyTable.{reply_key, select_moment}
use Rattle.store_accounts.specs.ReplyRows.{HasMomentRow}
use Rattle.store_tables.proofs.TextFacts.{select_moment_plain}
use Rattle.store_accounts.proofs.ReplyLemmas.{moment_read}
use Rattle.store_accounts.proofs.KeepLemmas.{finds}
use Rattle.store_accounts.proofs.reply.find_moment.Goals as goal

pub returns : goal.returns
returns g c =
    finds g.S.Store select_moment (reply_key c.args.owner.now c.args.handle.now c.args.sender.now) select_moment_plain.0 c.args.conn.now c.query.new.conn c.query.result (rw (c.params-to_sql.ensures, c.params-to_sql-2.ensures, c.params-to_sql-3.ensures) at c.query.ensures)
    c.args.owner.now (HasMomentRow (c.args.handle.now, c.args.sender.now)) (λ rows accounts p. moment_read _ _ rows accounts p c.args.owner.now (c.args.handle.now, c.args.sender.now))
