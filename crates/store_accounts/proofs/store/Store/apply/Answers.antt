use Rattle.std.proofs.Common.{◌≡◌, rules}
use Rattle.store_tables.proofs.ResultLemmas.{on_ok}
use Rattle.store_accounts.proofs.store.Store.apply.Goals as goal

pub returns-clause-made : goal.returns-clause-made
returns-clause-made g c clean tables holds =
    let same : c.self.inside.conn ≡ c.args.self.now = search rules in
    on_ok c.make_all.result c.in_default.field-0 c.in_default.is _ ((rw same at c.make_all.ensures.made) clean tables holds)
