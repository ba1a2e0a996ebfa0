use Rattle.std.proofs.Common.{◌≡◌, ℕ, List}
use Rattle.std.specs.FinMap.{keys}
use Rattle.sqlite.specs.Held.{state}
use Rattle.store_accounts.specs.Account.{Account}
use Rattle.store_engine.proofs.LookupLemmas.{looked}
use Rattle.store_engine.proofs.account.script_names.Goals as goal

pub returns : goal.returns
returns g c = looked c.args.user.now (λ (names : List (List ℕ)) (a : Account). names ≡ keys a.scripts) (state g.S.Store c.args.store.now) (state g.S.Store c.scripts.new.self) c.scripts.result c.scripts.ensures
