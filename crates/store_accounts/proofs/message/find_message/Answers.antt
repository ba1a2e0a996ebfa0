use Rattle.store_tables.specs.MessageTable.{select_message, message_key}
use Rattle.store_accounts.specs.Shows.{AreOctetRows}
use Rattle.store_tables.proofs.TextFacts.{select_message_plain}
use Rattle.store_accounts.proofs.KeepLemmas.{finds_among}
use Rattle.store_accounts.proofs.FirstLemmas.{octets_read}
use Rattle.store_accounts.proofs.message.find_message.Goals as goal

pub returns : goal.returns
returns g c =
    finds_among g.S.Store select_message (message_key c.args.owner.now c.args.id.now) select_message_plain.0 c.args.conn.now c.query.new.conn c.query.result (rw (c.params-to_sql.ensures, c.params-to_sql-2.ensures) at c.query.ensures)
    c.args.owner.now (AreOctetRows c.args.owner.now c.args.id.now) (λ rows tables h. octets_read _ _ rows tables h c.args.owner.now c.args.id.now)
