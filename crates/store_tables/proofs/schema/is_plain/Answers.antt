use Rattle.store_tables.proofs.SchemaLemmas.{only_plain}
use Rattle.store_tables.proofs.schema.is_plain.Goals as goal

pub returns : goal.returns
returns c = only_plain c.args.orders.now _ c.in-len1.len_at_least c.in-len1.len_below
