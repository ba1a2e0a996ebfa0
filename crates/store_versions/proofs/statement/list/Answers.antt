use Rattle.store_versions.proofs.statement.list.Goals as goal

pub returns : goal.returns
returns g c = record {
  same_reference = c.query_all.ensures.same_reference;
  made = λ clean inside. (c.query_all.ensures.ok clean, c.query_all.ensures.err clean);
  survives = c.query_all.ensures.survives;
}
