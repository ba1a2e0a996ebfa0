-- The read is of the user with this name.
use Rattle.std.proofs.Common.{subst}
use Rattle.sqlite.specs.Held.{state}
use Rattle.store_accounts.specs.Promises.{ReadsOpenAccount}
use Rattle.store_accounts.specs.Tally.{AreFolders}
use Rattle.cli_run.proofs.account_read.DirectoriesOfAccountRead.read.Goals as goal

pub returns : goal.returns
returns g c = subst (λ user. ReadsOpenAccount user AreFolders (state g.S.Store c.args.store.now) (state g.S.Store c.folders.new.self) c.folders.result) c.as_bytes.ensures.value c.folders.ensures
