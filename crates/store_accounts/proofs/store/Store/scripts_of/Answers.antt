use Rattle.std.proofs.Common.{◌≡◌, Ok, rules}
use Rattle.std.specs.FinMap.{keys}
use Rattle.store_tables.proofs.ListLemmas.{owner_key}
use Rattle.store_tables.specs.ScriptTable.{select_names}
use Rattle.store_tables.proofs.TextFacts.{select_names_plain}
use Rattle.store_accounts.specs.declared.refusal.Refusal.{Refusal}
use Rattle.store_accounts.specs.FirstCells.{first_one, text_cells}
use Rattle.store_accounts.specs.ScriptRows.{AreNameRows}
use Rattle.store_accounts.proofs.ReadLemmas.{names_read}
use Rattle.store_accounts.proofs.DecodeLemmas.{texts_are}
use Rattle.store_accounts.proofs.EachLemmas.{reads_entered}
use Rattle.store_accounts.proofs.store.Store.scripts_of.Goals as goal

pub read_each-requires-clause-plain : goal.read_each-requires-clause-plain
read_each-requires-clause-plain g c = select_names_plain.0

pub returns : goal.returns
returns g c =
    let same : c.self.inside.conn ≡ c.args.self.now = search rules in
    let user = c.args.user.now in
    (rw same at (reads_entered g.S.Store select_names (owner_key user) text_cells first_one c.self.inside.conn c.read_each.new.conn c.read_each.result user AreNameRows (λ names a. names ≡ keys a.scripts)
    (λ rows accounts p. names_read _ _ rows accounts p user) (λ rows all a are is. texts_are {E = Refusal} (Ok all) rows (keys a.scripts) is are) (rw (c.params-to_sql.ensures) at c.read_each.ensures))).finds
