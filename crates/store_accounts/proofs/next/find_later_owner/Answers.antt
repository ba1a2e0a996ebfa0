use Rattle.store_tables.specs.CopyTable.{select_later_owner}
use Rattle.store_accounts.specs.Next.{IsLaterOwner, ShowFiled}
use Rattle.store_tables.proofs.TextFacts.{select_later_owner_plain}
use Rattle.store_accounts.proofs.AllLemmas.{finds_all}
use Rattle.store_accounts.proofs.NextLemmas.{owner_params, later_owner_read}
use Rattle.store_accounts.proofs.next.find_later_owner.Goals as goal

pub returns : goal.returns
returns g c =
    finds_all g.S.Store select_later_owner (owner_params c.args.owner.now) select_later_owner_plain.0 c.args.conn.now c.query.new.conn c.query.result (rw c.params-to_sql.ensures at c.query.ensures) (ShowFiled (IsLaterOwner c.args.owner.now)) (λ rows tables h. later_owner_read _ _ rows tables h c.args.owner.now)
