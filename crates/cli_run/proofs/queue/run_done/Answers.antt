-- The row with the number that the digits write left the queue, and the line is printed after that.
use Rattle.std.proofs.Common.{◌≡◌, ◌++◌, codes, decimal, ap, refl, rules}
use Rattle.store_engine.specs.declared.answer.Answer.TheVariants.{Taken}
use Rattle.store_engine.specs.declared.event.Event.TheVariants.{TakeOut}
use Rattle.cli_reports.specs.Reports.{ended_line}
use Rattle.cli_run.specs.Serving.{HasDenied}
use Rattle.cli_run.specs.Values.{IsNoNumber}
use Rattle.cli_run.specs.Subcommands.{IsDoneEvent}
use Rattle.cli_run.proofs.WordLemmas.{event_hindered, event_unmade, event_made, wrong}
use Rattle.cli_run.proofs.queue.run_done.Goals as goal

pub returns-in_err-id-clause-does : goal.returns-in_err-id-clause-does
returns-in_err-id-clause-does g c tells =
    event_hindered ⊥ (IsNoNumber c.args.asked.id.now) (HasDenied g.K.Keeper.refuses g.K.Keeper.will_wait c.args.asked.location) (IsDoneEvent c.args.asked.user.now c.args.asked.id.now) (g.W.Write.contents c.args.output.now) (g.K.Keeper.holds c.args.keeper.now)
    c.in_err-id.field-0.0 c.from_residual.result (search rules) (wrong ⊥ (IsNoNumber c.args.asked.id.now) (HasDenied g.K.Keeper.refuses g.K.Keeper.will_wait c.args.asked.location) _ c.in_err-id.ensures.fault c.in_err-id.ensures.none)

pub returns-in_err-dequeue-clause-does : goal.returns-in_err-dequeue-clause-does
returns-in_err-dequeue-clause-does g c tells =
    let id = c.in_ok-id.id in
    let name : c.as_bytes.result.now ≡ c.args.asked.user.now = search rules in
    event_unmade ⊥ (IsNoNumber c.args.asked.id.now) (HasDenied g.K.Keeper.refuses g.K.Keeper.will_wait c.args.asked.location) (IsDoneEvent c.args.asked.user.now c.args.asked.id.now) (TakeOut c.as_bytes.result.now id)
    (record { id = id; written = c.in_ok-id.ensures.ok; same = ap (λ u. TakeOut u id) name }) Taken (g.K.Keeper.holds c.args.keeper.now) (g.K.Keeper.holds c.dequeue.new.keeper)
    (g.W.Write.contents c.args.output.now) c.in_ok-id.ensures.right c.in_err-dequeue.field-0.0 c.from_residual-in_err-dequeue.result (search rules) (c.in_err-dequeue.ensures.puts tells)

pub returns-clause-does : goal.returns-clause-does
returns-clause-does g c tells =
    let id = c.in_ok-id.id in
    let name : c.as_bytes.result.now ≡ c.args.asked.user.now = search rules in
    event_made ⊥ (IsNoNumber c.args.asked.id.now) (HasDenied g.K.Keeper.refuses g.K.Keeper.will_wait c.args.asked.location) (IsDoneEvent c.args.asked.user.now c.args.asked.id.now) (TakeOut c.as_bytes.result.now id)
    (record { id = id; written = c.in_ok-id.ensures.ok; same = ap (λ u. TakeOut u id) name }) Taken (g.K.Keeper.holds c.args.keeper.now) (g.K.Keeper.holds c.dequeue.new.keeper)
    c.in_ok-dequeue.field-0 (ended_line (codes "taken " ++ decimal id)) refl (c.in_ok-dequeue.ensures.puts tells) (g.W.Write.contents c.args.output.now) (g.W.Write.contents c.write_number.new.output)
    c.write_number.result c.write_number.ensures
