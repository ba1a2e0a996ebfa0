use Rattle.std.proofs.Common.{◌≡◌, OnOk, IfErr, rules}
use Rattle.sqlite.specs.Held.{state}
use Rattle.store_accounts.specs.Refusals.{IsTransient}
use Rattle.store_accounts.proofs.KeepLemmas.{profile_read, profile_refused}
use Rattle.store_accounts.proofs.store.Store.account.Goals as goal

pub returns-in_err-rows : goal.returns-in_err-rows
returns-in_err-rows g c =
    let old = state g.S.Store c.args.self.now in
    let same : c.self.inside.conn ≡ c.args.self.now = search rules in
    let none : OnOk c.from_residual.result ⊥ = search rules in
    let transient : IfErr c.from_residual.result IsTransient = search rules in
    profile_refused c.args.user.now old (state g.S.Store c.find_account.new.conn) c.find_account.result (rw same at c.find_account.ensures.finds) c.from_residual.result none transient

pub returns : goal.returns
returns g c =
    let old = state g.S.Store c.args.self.now in
    let same : c.self.inside.conn ≡ c.args.self.now = search rules in
    profile_read c.args.user.now old (state g.S.Store c.find_account.new.conn) c.find_account.result c.in_ok-rows.rows c.in_ok-rows.was (rw same at c.find_account.ensures.finds) c.first_profile.result
    (rw c.deref.ensures.value at c.first_profile.ensures.ok) c.first_profile.ensures.named
