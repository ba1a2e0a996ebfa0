use Rattle.std.proofs.Common.{rules}
use Rattle.store_tables.proofs.statement.query.Goals as goal

pub returns : goal.returns
returns g c = record {
  ended = search rules;
  limit = c.query_all.ensures.survives.limit;
  finds = record { settled = search rules; ok = c.query_all.ensures.ok; err = c.query_all.ensures.err; survives = c.query_all.ensures.survives };
}
