use Rattle.std.proofs.Common.{◌≡◌, Err, rules, sym, subst}
use Rattle.sqlite.specs.Held.{state}
use Rattle.sqlite.specs.Values.{bound}
use Rattle.store_tables.specs.Connection.{RunsText}
use Rattle.store_tables.proofs.statement.execute.Goals as goal

pub returns-in_err-execute : goal.returns-in_err-execute
returns-in_err-execute g c =
    let is : c.from_residual.result ≡ Err c.in_err-execute.field-0.0 = search rules in
    record {
      same_reference = c.execute.ensures.same_reference;
      made = λ clean inside. subst (RunsText c.args.sql.now (bound c.args.params.now) (state g.S.Store c.args.tx.now.conn.now) (state g.S.Store c.execute.new.self.conn.now)) (sym is) (rw (c.in_err-execute.was) at (c.execute.ensures.runs clean inside));
      survives = c.execute.ensures.survives;
    }

pub returns : goal.returns
returns g c = record {
  same_reference = c.execute.ensures.same_reference;
  made = λ clean inside. (c.in_ok-execute.field-0, rw (c.in_ok-execute.was) at (c.execute.ensures.runs clean inside));
  survives = c.execute.ensures.survives;
}
