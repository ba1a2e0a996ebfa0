-- The account is kept up so, and the line is printed after that.
use Rattle.std.proofs.Common.{Ok, Err, ◌≡◌, ◌++◌, codes, refl, ap, ◌∙◌, rules}
use Rattle.store_engine.specs.declared.answer.Answer.TheVariants.{Removed}
use Rattle.store_engine.specs.declared.event.Event.TheVariants.{DoUpkeep}
use Rattle.store_engine.specs.declared.upkeep.Upkeep.TheVariants.{RemoveAccount}
use Rattle.cli_reports.specs.Reports.{ended_line}
use Rattle.cli_run.specs.Faults.{memory}
use Rattle.cli_run.specs.Serving.{HasDenied}
use Rattle.cli_run.specs.Subcommands.{IsUpkeepEvent}
use Rattle.cli_run.proofs.WordLemmas.{event_hindered, event_unmade, event_made, no_memory}
use Rattle.cli_run.proofs.upkeep.run_remove.Goals as goal

pub returns-in_err-keep_up-clause-does : goal.returns-in_err-keep_up-clause-does
returns-in_err-keep_up-clause-does g c tells =
    let user = c.args.asked in
    let event = DoUpkeep c.as_bytes-user.result.now (RemoveAccount user.mail) in
    let name : c.as_bytes-user.result.now ≡ user.user.now = search rules in
    let same : event ≡ DoUpkeep user.user.now (RemoveAccount user.mail) = ap (λ n. DoUpkeep n (RemoveAccount user.mail)) name in
    event_unmade ⊥ ⊥ (HasDenied g.K.Keeper.refuses g.K.Keeper.will_wait c.args.asked.location) (IsUpkeepEvent user.user.now (RemoveAccount user.mail)) {X = Unit {0}} event same (λ done. Removed) (g.K.Keeper.holds c.args.keeper.now) (g.K.Keeper.holds c.keep_up.new.keeper)
    (g.W.Write.contents c.args.output.now) (λ no. no) c.in_err-keep_up.field-0.0 c.from_residual.result (search rules) (c.in_err-keep_up.ensures.puts tells)

pub returns-clause-does : goal.returns-clause-does
returns-clause-does g c tells =
    let user = c.args.asked in
    let event = DoUpkeep c.as_bytes-user.result.now (RemoveAccount user.mail) in
    let name : c.as_bytes-user.result.now ≡ user.user.now = search rules in
    let same : event ≡ DoUpkeep user.user.now (RemoveAccount user.mail) = ap (λ n. DoUpkeep n (RemoveAccount user.mail)) name in
    let told : c.as_bytes-user.result.now ≡ c.as_bytes-user.result.now = search rules in
    event_made ⊥ ⊥ (HasDenied g.K.Keeper.refuses g.K.Keeper.will_wait c.args.asked.location) (IsUpkeepEvent user.user.now (RemoveAccount user.mail)) {X = Unit {0}} event same (λ done. Removed) (g.K.Keeper.holds c.args.keeper.now) (g.K.Keeper.holds c.keep_up.new.keeper)
    tt (ended_line (codes "removed " ++ c.as_bytes-user.result.now)) (ap (λ n. ended_line (codes "removed " ++ n)) told) (c.in_ok-keep_up.ensures.puts tells) (g.W.Write.contents c.args.output.now) (g.W.Write.contents c.write_line.new.output) c.write_line.result c.write_line.ensures
