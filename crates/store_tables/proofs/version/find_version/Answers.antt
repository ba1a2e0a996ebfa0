use Rattle.store_tables.proofs.version.find_version.Goals as goal

pub returns : goal.returns
returns g c = rw (c.params-to_sql.ensures) at c.query.ensures
