use Rattle.std.proofs.Common.{◌≡◌, OnOk, IfErr, rules}
use Rattle.sqlite.specs.Held.{state}
use Rattle.store_accounts.specs.Refusals.{IsTransient}
use Rattle.store_accounts.proofs.KeepLemmas.{counter_read, counter_refused}
use Rattle.store_accounts.proofs.store.Store.counters.Goals as goal

pub returns-in_err-rows : goal.returns-in_err-rows
returns-in_err-rows g c =
    let old = state g.S.Store c.args.self.now in
    let same : c.self.inside.conn ≡ c.args.self.now = search rules in
    let none : OnOk c.from_residual.result ⊥ = search rules in
    let transient : IfErr c.from_residual.result IsTransient = search rules in
    counter_refused c.args.user.now old (state g.S.Store c.find_counters.new.conn) c.find_counters.result (rw same at c.find_counters.ensures.finds) c.from_residual.result none transient

pub returns : goal.returns
returns g c =
    let old = state g.S.Store c.args.self.now in
    let same : c.self.inside.conn ≡ c.args.self.now = search rules in
    counter_read c.args.user.now old (state g.S.Store c.find_counters.new.conn) c.find_counters.result c.in_ok-rows.rows c.in_ok-rows.was (rw same at c.find_counters.ensures.finds) c.first_counters.result
    (rw c.deref.ensures.value at c.first_counters.ensures.ok) (rw c.deref.ensures.value at c.first_counters.ensures.absent) c.first_counters.ensures.named
