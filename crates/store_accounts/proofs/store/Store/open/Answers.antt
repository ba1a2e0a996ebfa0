use Rattle.std.proofs.Common.{◌≡◌, true, false, None, rules, refl}
use Rattle.sqlite.specs.Held.{state}
use Rattle.store_versions.specs.Opening.{LiesAs}
use Rattle.store_accounts.proofs.OpenLemmas.{opens_as, outlives_open, still_shows, shown_known}
use Rattle.store_accounts.proofs.store.Store.open.Goals as goal

pub returns-in-Ok-true-clause-shown : goal.returns-in-Ok-true-clause-shown
returns-in-Ok-true-clause-shown g c clean accounts p =
    let lies : LiesAs c.in-Some.layout c.args.conn.schema = rw (c.schema.ensures.value) at c.in-Some.ensures.found in
    let known = (rw (c.in-Ok-true.is, c.in-Ok-true.field-0-test) at ((rw (c.set_step_limit.ensures) at c.open_known.ensures.opens.found) lies clean)).0 refl in
    let opened = rw (c.in-Ok-true.is, c.in-Ok-true.field-0-test) at ((rw (c.set_step_limit.ensures) at c.open_known.ensures.opens.opened) lies clean) in
    still_shows c.in-Some.layout (state g.S.Store c.args.conn).now (state g.S.Store c.open_known.new.conn).now lies known (opened refl).0 accounts p

pub returns-in-Ok-true-clause-opened : goal.returns-in-Ok-true-clause-opened
returns-in-Ok-true-clause-opened g c clean =
    let lies : LiesAs c.in-Some.layout c.args.conn.schema = rw (c.schema.ensures.value) at c.in-Some.ensures.found in
    let opened = rw (c.in-Ok-true.is, c.in-Ok-true.field-0-test) at ((rw (c.set_step_limit.ensures) at c.open_known.ensures.opens.opened) lies clean) in
    opens_as c.in-Some.layout (state g.S.Store c.args.conn).now (state g.S.Store c.open_known.new.conn).now lies (opened refl).0

pub returns-in-Ok-true-clause-ours : goal.returns-in-Ok-true-clause-ours
returns-in-Ok-true-clause-ours g c clean =
    let lies : LiesAs c.in-Some.layout c.args.conn.schema = rw (c.schema.ensures.value) at c.in-Some.ensures.found in
    let said = rw (c.in-Ok-true.is, c.in-Ok-true.field-0-test) at ((rw (c.set_step_limit.ensures) at c.open_known.ensures.opens.found) lies clean) in
    said.0 refl

pub returns-in-Ok-true-clause-settled : goal.returns-in-Ok-true-clause-settled
returns-in-Ok-true-clause-settled g c clean =
    let lies : LiesAs c.in-Some.layout c.args.conn.schema = rw (c.schema.ensures.value) at c.in-Some.ensures.found in
    let opened = rw (c.in-Ok-true.is, c.in-Ok-true.field-0-test) at ((rw (c.set_step_limit.ensures) at c.open_known.ensures.opens.opened) lies clean) in
    let live = (opened refl).1 in
    record { is_open = live.is_open; same = live.same; alone = λ db leaves. g.met.S.Store.settled c.open_known.new.conn.store db live.is_open leaves }

pub returns-in-Ok-true-clause-same : goal.returns-in-Ok-true-clause-same
returns-in-Ok-true-clause-same g c clean indexed =
    let lies : LiesAs c.in-Some.layout c.args.conn.schema = rw (c.schema.ensures.value) at c.in-Some.ensures.found in
    let same = (rw (c.set_step_limit.ensures) at c.open_known.ensures.opens.unchanged) lies clean indexed in
    record { now_is = same.now_is; committed_is = same.committed_is }

pub returns-in-Ok-false-clause-not_ours : goal.returns-in-Ok-false-clause-not_ours
returns-in-Ok-false-clause-not_ours g c clean same known =
    let lies : LiesAs c.in-Some.layout c.args.conn.schema = rw (c.schema.ensures.value) at c.in-Some.ensures.found in
    let said = rw (c.in-Ok-false.is, c.in-Ok-false.field-0-test) at ((rw (c.set_step_limit.ensures) at c.open_known.ensures.opens.found) lies clean) in
    let no = said.1 known in
    absurd (let e : false ≡ true = no in cc)

pub returns-in-Ok-false-clause-not_shown : goal.returns-in-Ok-false-clause-not_shown
returns-in-Ok-false-clause-not_shown g c clean same accounts p = returns-in-Ok-false-clause-not_ours g c clean same (shown_known (state g.S.Store c.args.conn).now accounts p)

pub returns-in-Ok-false-clause-same_if_refused : goal.returns-in-Ok-false-clause-same_if_refused
returns-in-Ok-false-clause-same_if_refused g c clean =
    let lies : LiesAs c.in-Some.layout c.args.conn.schema = rw (c.schema.ensures.value) at c.in-Some.ensures.found in
    let stays = rw (c.in-Ok-false.is, c.in-Ok-false.field-0-test) at ((rw (c.set_step_limit.ensures) at c.open_known.ensures.opens.unknown) lies clean) in
    let same = stays refl in
    record { now_is = same.now_is; committed_is = same.committed_is }

pub returns-in-Err-clause-same_if_refused : goal.returns-in-Err-clause-same_if_refused
returns-in-Err-clause-same_if_refused g c clean =
    let lies : LiesAs c.in-Some.layout c.args.conn.schema = rw (c.schema.ensures.value) at c.in-Some.ensures.found in
    let same = rw (c.in-Err.is) at ((rw (c.set_step_limit.ensures) at c.open_known.ensures.opens.refused) lies clean) in
    record { now_is = same.now_is; committed_is = same.committed_is }

pub returns-in-Ok-true-clause-crash : goal.returns-in-Ok-true-clause-crash
returns-in-Ok-true-clause-crash g c =
    let lies : LiesAs c.in-Some.layout c.args.conn.schema = rw (c.schema.ensures.value) at c.in-Some.ensures.found in
    let left = outlives_open c.in-Some.layout (record (state g.S.Store c.args.conn) { step_limit = None }) (state g.S.Store c.open_known.new.conn) lies ((rw (c.set_step_limit.ensures) at c.open_known.ensures.opens.crash) lies) in
    record { faults = left.faults; crash = left.crash }

pub returns-in-Ok-false-clause-crash_if_refused : goal.returns-in-Ok-false-clause-crash_if_refused
returns-in-Ok-false-clause-crash_if_refused g c =
    let lies : LiesAs c.in-Some.layout c.args.conn.schema = rw (c.schema.ensures.value) at c.in-Some.ensures.found in
    let left = outlives_open c.in-Some.layout (record (state g.S.Store c.args.conn) { step_limit = None }) (state g.S.Store c.open_known.new.conn) lies ((rw (c.set_step_limit.ensures) at c.open_known.ensures.opens.crash) lies) in
    record { faults = left.faults; crash = left.crash }

pub returns-in-Err-clause-crash_if_refused : goal.returns-in-Err-clause-crash_if_refused
returns-in-Err-clause-crash_if_refused g c =
    let lies : LiesAs c.in-Some.layout c.args.conn.schema = rw (c.schema.ensures.value) at c.in-Some.ensures.found in
    let left = outlives_open c.in-Some.layout (record (state g.S.Store c.args.conn) { step_limit = None }) (state g.S.Store c.open_known.new.conn) lies ((rw (c.set_step_limit.ensures) at c.open_known.ensures.opens.crash) lies) in
    record { faults = left.faults; crash = left.crash }
