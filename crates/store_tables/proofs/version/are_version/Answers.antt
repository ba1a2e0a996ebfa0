use Rattle.store_tables.proofs.SchemaLemmas.{only_item}
use Rattle.store_tables.proofs.VersionLemmas.{row_says}
use Rattle.store_tables.proofs.version.are_version.Goals as goal

pub returns-in-len1 : goal.returns-in-len1
returns-in-len1 c =
    let one = only_item c.args.rows.now c.row-item.result c.in-len1.len_at_least c.in-len1.len_below c.row-item.is in
    row_says c.args.version.now c.args.rows.now c.row-item.result one c.is_version.result c.is_version.ensures
