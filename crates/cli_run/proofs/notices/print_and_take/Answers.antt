-- The notices were read, printed, and then taken.
use Rattle.std.proofs.Common.{◌≡◌, ◌∙◌, rules}
use Rattle.sqlite.specs.Held.{state}
use Rattle.cli_reports.specs.Listings.{notice_listing}
use Rattle.cli_run.specs.Subcommands.{notices_until}
use Rattle.cli_run.proofs.TakeLemmas.{unlisted, unshown, unwritten, taken}
use Rattle.cli_run.proofs.notices.print_and_take.Goals as goal

pub returns-in_err-notices-clause-takes : goal.returns-in_err-notices-clause-takes
returns-in_err-notices-clause-takes g c =
    unlisted c.args.user.now c.args.until (state g.S.Store c.args.store.now) (state g.S.Store c.notices.new.self) c.notices.result c.in_err-notices.field-0.0 c.in_err-notices.was c.notices.ensures (g.W.Write.contents c.args.output.now) c.from_residual.result (search rules)

pub returns-in_err-text-clause-takes : goal.returns-in_err-text-clause-takes
returns-in_err-text-clause-takes g c =
    unshown c.args.user.now c.args.until (state g.S.Store c.args.store.now) (state g.S.Store c.notices.new.self) c.notices.result c.in_ok-notices.notices c.in_ok-notices.was c.notices.ensures (g.W.Write.contents c.args.output.now) c.from_residual-in_err-text.result (search rules)

pub returns-in_err-write_all-clause-takes : goal.returns-in_err-write_all-clause-takes
returns-in_err-write_all-clause-takes g c =
    let listed : c.as_slice.result.now ≡ notice_listing (notices_until c.args.until c.in_ok-notices.notices) = search rules in
    unwritten c.args.user.now c.args.until (state g.S.Store c.args.store.now) (state g.S.Store c.notices.new.self) c.notices.result c.in_ok-notices.notices c.in_ok-notices.was c.notices.ensures c.as_slice.result.now listed
    (g.W.Write.contents c.args.output.now) (g.W.Write.contents c.write_all.new.output) c.in_err-write_all.field-0.0 c.from_residual-in_err-write_all.result (search rules) c.in_err-write_all.ensures

pub returns-clause-takes : goal.returns-clause-takes
returns-clause-takes g c =
    let listed : c.as_slice.result.now ≡ notice_listing (notices_until c.args.until c.in_ok-notices.notices) = search rules in
    taken c.args.user.now c.args.until (state g.S.Store c.args.store.now) (state g.S.Store c.notices.new.self) c.notices.result c.in_ok-notices.notices c.in_ok-notices.was c.notices.ensures c.as_slice.result.now listed
    (state g.S.Store c.do_upkeep.new.store) c.do_upkeep.result c.do_upkeep.ensures (g.W.Write.contents c.args.output.now) (g.W.Write.contents c.write_all.new.output) c.in_ok-write_all.ensures c.done_by.result c.done_by.ensures
