-- The read is of the user with this name.
use Rattle.std.proofs.Common.{◌≡◌, subst}
use Rattle.sqlite.specs.Held.{state}
use Rattle.store_accounts.specs.Promises.{ReadsOpenAccount}
use Rattle.store_accounts.specs.Account.{row_with}
use Rattle.cli_run.proofs.account_read.OutgoingOfAccountRead.read.Goals as goal

pub returns : goal.returns
returns g c = subst (λ user. ReadsOpenAccount user (λ row a. row ≡ row_with c.args.self.now.1 a.queue) (state g.S.Store c.args.store.now) (state g.S.Store c.outgoing.new.self) c.outgoing.result) c.as_bytes.ensures.value c.outgoing.ensures
