-- Steps in turn, until a row is due or none is left.
use Rattle.std.proofs.Common.{Ok, ◌∙◌, ap, rules}
use Rattle.sqlite.specs.Held.{state}
use Rattle.store_accounts.specs.declared.refusal.Refusal.TheVariants.{Store}
use Rattle.smtp_queue.proofs.StoreLemmas.{steps_begin, steps_on, steps_end, steps_unread, steps_due, steps_past}
use Rattle.smtp_queue.proofs.due_row.find_due_row.Goals as goal

pub loop-init : goal.loop-init
loop-init g c = steps_begin c.args.waits.now c.args.now c.args.start (state g.S.Store c.args.store.now)

pub returns-in_err-step_from : goal.returns-in_err-step_from
returns-in_err-step_from g c =
    steps_unread c.args.waits.now c.args.now c.args.start c.loop.place (state g.S.Store c.args.store.now) (state g.S.Store c.loop.store) (state g.S.Store c.step_from.new.store) c.loop.invariant c.step_from.result c.step_from.ensures
    c.in_err-step_from.field-0.0 c.from_residual.result (search rules)

pub returns-in-End : goal.returns-in-End
returns-in-End g c =
    steps_end c.args.waits.now c.args.now c.args.start c.loop.place (state g.S.Store c.args.store.now) (state g.S.Store c.loop.store) (state g.S.Store c.step_from.new.store) c.loop.invariant c.step_from.result c.step_from.ensures
    (c.in_ok-step_from.was ∙ ap Ok c.in-End.is)

pub returns-in-Due : goal.returns-in-Due
returns-in-Due g c =
    steps_due c.args.waits.now c.args.now c.args.start c.loop.place (state g.S.Store c.args.store.now) (state g.S.Store c.loop.store) (state g.S.Store c.step_from.new.store) c.loop.invariant c.step_from.result c.step_from.ensures
    c.in-Due.due_row (c.in_ok-step_from.was ∙ ap Ok c.in-Due.is)

pub loop-preserved : goal.loop-preserved
loop-preserved g c =
    steps_on c.args.waits.now c.args.now c.args.start c.loop.place (state g.S.Store c.args.store.now) (state g.S.Store c.loop.store) (state g.S.Store c.step_from.new.store) c.loop.invariant c.step_from.result c.step_from.ensures
    c.in-Past.next (c.in_ok-step_from.was ∙ ap Ok c.in-Past.is)

pub returns : goal.returns
returns g c = steps_past c.args.waits.now c.args.now c.args.start c.loop.place Store (state g.S.Store c.args.store.now) (state g.S.Store c.loop.store) c.loop.invariant
