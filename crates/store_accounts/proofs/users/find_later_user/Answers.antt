use Rattle.store_accounts.specs.Users.{ShowLaterUser, select_later_user}
use Rattle.store_accounts.proofs.AllLemmas.{finds_all}
use Rattle.store_accounts.proofs.NextLemmas.{owner_params}
use Rattle.store_accounts.proofs.UserLemmas.{later_user_read, select_later_user_plain}
use Rattle.store_accounts.proofs.users.find_later_user.Goals as goal

pub returns : goal.returns
returns g c =
    finds_all g.S.Store select_later_user (owner_params c.args.name.now) select_later_user_plain.0 c.args.conn.now c.query.new.conn c.query.result (rw c.params-to_sql.ensures at c.query.ensures) (ShowLaterUser c.args.name.now) (λ rows tables h. later_user_read _ _ rows tables h c.args.name.now)
