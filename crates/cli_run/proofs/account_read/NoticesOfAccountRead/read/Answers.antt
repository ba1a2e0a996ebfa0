-- The read is of the user with this name.
use Rattle.std.proofs.Common.{◌≡◌, subst}
use Rattle.sqlite.specs.Held.{state}
use Rattle.store_accounts.specs.Promises.{ReadsOpenAccount}
use Rattle.cli_run.proofs.account_read.NoticesOfAccountRead.read.Goals as goal

pub returns : goal.returns
returns g c = subst (λ user. ReadsOpenAccount user (λ notices a. notices ≡ a.notices) (state g.S.Store c.args.store.now) (state g.S.Store c.notices.new.self) c.notices.result) c.as_bytes.ensures.value c.notices.ensures
