-- The read is of the user with this name.
use Rattle.std.proofs.Common.{◌≡◌, map, subst}
use Rattle.sqlite.specs.Held.{state}
use Rattle.store_accounts.specs.Promises.{ReadsOpenAccount}
use Rattle.store_accounts.specs.HeadRows.{queued_envelope}
use Rattle.cli_run.proofs.account_read.QueueOfAccountRead.read.Goals as goal

pub returns : goal.returns
returns g c = subst (λ user. ReadsOpenAccount user (λ heads a. heads ≡ map queued_envelope a.queue) (state g.S.Store c.args.store.now) (state g.S.Store c.queue_heads.new.self) c.queue_heads.result) c.as_bytes.ensures.value c.queue_heads.ensures
