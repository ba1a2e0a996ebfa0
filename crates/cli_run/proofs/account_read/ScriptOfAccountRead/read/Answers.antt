-- The read is of the user and of the script with these names.
use Rattle.std.proofs.Common.{◌≡◌, ℕ, List, Option, subst}
use Rattle.std.specs.FinMap.{get}
use Rattle.sqlite.specs.Held.{state}
use Rattle.store_accounts.specs.Promises.{ReadsOpenAccount}
use Rattle.cli_run.proofs.account_read.ScriptOfAccountRead.read.Goals as goal

pub returns : goal.returns
returns g c =
    let Read = λ (user name : List ℕ). ReadsOpenAccount user (λ (text : Option (List ℕ)) a. text ≡ get a.scripts name) (state g.S.Store c.args.store.now) (state g.S.Store c.script.new.self) c.script.result in
    subst (λ user. Read user c.args.self.now.1.now) c.as_bytes.ensures.value (subst (λ name. Read c.as_bytes.result.now name) c.as_bytes-2.ensures.value c.script.ensures)
