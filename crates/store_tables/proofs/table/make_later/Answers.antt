use Rattle.std.proofs.Common.{arith, ◌≡◌, Err, rules}
use Rattle.store_tables.specs.Schema.{schema_3, schema_4, schema_5, schema_6}
use Rattle.store_tables.proofs.CreateLemmas.{makes_then, makes_failed}
use Rattle.store_tables.proofs.table.make_later.Goals as goal

pub returns-in_err-make_outgoing : goal.returns-in_err-make_outgoing
returns-in_err-make_outgoing g c =
    let e = c.in_err-make_outgoing.field-0.0 in
    let is : c.from_residual.result ≡ Err e = search rules in
    makes_failed g.S.Store c.args.tx.now c.make_outgoing.new.tx schema_3 schema_4 schema_6 c.make_outgoing.result e c.from_residual.result is c.make_outgoing.ensures

pub returns-in_err-make_reply : goal.returns-in_err-make_reply
returns-in_err-make_reply g c =
    let start = c.args.tx.now in
    let one = c.make_outgoing.new.tx in
    let two = c.make_reply.new.tx in
    let e = c.in_err-make_reply.field-0.0 in
    let is : c.from_residual-in_err-make_reply.result ≡ Err e = search rules in
    let both = makes_then g.S.Store start one two schema_3 schema_4 schema_5 c.make_outgoing.result _ c.make_reply.result c.in_ok-make_outgoing.was (omega arith) c.make_outgoing.ensures c.make_reply.ensures in
    makes_failed g.S.Store start two schema_3 schema_5 schema_6 c.make_reply.result e c.from_residual-in_err-make_reply.result is both

pub returns : goal.returns
returns g c =
    let start = c.args.tx.now in
    let one = c.make_outgoing.new.tx in
    let two = c.make_reply.new.tx in
    let three = c.make_notice.new.tx in
    let both = makes_then g.S.Store start one two schema_3 schema_4 schema_5 c.make_outgoing.result _ c.make_reply.result c.in_ok-make_outgoing.was (omega arith) c.make_outgoing.ensures c.make_reply.ensures in
    makes_then g.S.Store start two three schema_3 schema_5 schema_6 c.make_reply.result _ c.make_notice.result c.in_ok-make_reply.was (omega arith) both c.make_notice.ensures
