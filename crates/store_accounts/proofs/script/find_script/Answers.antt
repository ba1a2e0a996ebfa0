use Rattle.store_tables.proofs.ListLemmas.{pair_key}
use Rattle.store_tables.specs.ScriptTable.{select_script}
use Rattle.store_accounts.specs.ScriptRows.{HasTextRow}
use Rattle.store_tables.proofs.TextFacts.{select_script_plain}
use Rattle.store_accounts.proofs.ReadLemmas.{script_read}
use Rattle.store_accounts.proofs.KeepLemmas.{finds}
use Rattle.store_accounts.proofs.script.find_script.Goals as goal

pub returns : goal.returns
returns g c =
    finds g.S.Store select_script (pair_key c.args.owner.now c.args.name.now) select_script_plain.0 c.args.conn.now c.query.new.conn c.query.result (rw (c.params-to_sql.ensures, c.params-to_sql-2.ensures) at c.query.ensures)
    c.args.owner.now (HasTextRow c.args.name.now) (λ rows accounts p. script_read _ _ rows accounts p c.args.owner.now c.args.name.now)
