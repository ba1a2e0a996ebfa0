use Rattle.std.proofs.Common.{◌≡◌, rules}
use Rattle.sqlite.specs.Held.{state}
use Rattle.store_tables.specs.Schema.{no_schema}
use Rattle.store_accounts.proofs.OpenLemmas.{presents_nobody, shows_left, outlives_made}
use Rattle.store_accounts.proofs.store.Store.create.Goals as goal

pub returns-in-Ok-clause-made : goal.returns-in-Ok-clause-made
returns-in-Ok-clause-made g c clean =
    let empty : c.args.conn.schema ≡ no_schema = search rules in
    let made = rw (c.in-Ok.is, c.set_step_limit.ensures) at c.make_tables.ensures.made in
    presents_nobody _ (made clean empty)

pub returns-in-Ok-clause-left : goal.returns-in-Ok-clause-left
returns-in-Ok-clause-left g c clean db leaves =
    let settled = rw (c.in-Ok.is) at c.make_tables.ensures.settled in
    shows_left (state g.S.Store c.make_tables.new.conn) (returns-in-Ok-clause-made g c) settled clean db leaves

pub returns-in-Err-clause-crash_if_refused : goal.returns-in-Err-clause-crash_if_refused
returns-in-Err-clause-crash_if_refused g c =
    let empty : c.args.conn.schema ≡ no_schema = search rules in
    let left = rw (c.set_step_limit.ensures) at c.make_tables.ensures.crash in
    outlives_made (state g.S.Store c.args.conn) (state g.S.Store c.make_tables.new.conn) empty left.clean left.crash

pub returns-in-Ok-clause-settled : goal.returns-in-Ok-clause-settled
returns-in-Ok-clause-settled g c = rw (c.in-Ok.is) at c.make_tables.ensures.settled

pub returns-in-Err-clause-same_if_refused : goal.returns-in-Err-clause-same_if_refused
returns-in-Err-clause-same_if_refused g c clean =
    let same = (rw (c.in-Err.is, c.set_step_limit.ensures) at c.make_tables.ensures.same) clean in
    record { now_is = same.now_is; committed_is = same.committed_is }
