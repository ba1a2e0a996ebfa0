-- The next place was found, and the row there read where it is due.
use Rattle.std.proofs.Common.{◌≡◌, true, Ok, ◌∙◌, ap, sym, rules}
use Rattle.sqlite.specs.Held.{state}
use Rattle.store_accounts.specs.declared.refusal.Refusal.TheVariants.{Memory}
use Rattle.smtp_queue.specs.DueRows.{is_key_due}
use Rattle.smtp_queue.proofs.StoreLemmas.{none_next, not_next, past_next, step_unread, step_past, step_due}
use Rattle.smtp_queue.proofs.due_row.step_from.Goals as goal

pub returns-in_err-place : goal.returns-in_err-place
returns-in_err-place g c =
    not_next c.args.waits.now c.args.now c.args.start.now (state g.S.Store c.args.store.now) (state g.S.Store c.next_queued.new.self) c.next_queued.result c.next_queued.ensures.next c.in_err-place.field-0.0 c.from_residual.result (search rules)

pub returns-in_default : goal.returns-in_default
returns-in_default g c =
    none_next c.args.waits.now c.args.now c.args.start.now (state g.S.Store c.args.store.now) (state g.S.Store c.next_queued.new.self) c.next_queued.result c.next_queued.ensures.next (c.in_ok-place.was ∙ ap Ok c.in_default.is)

pub returns-in_err-due : goal.returns-in_err-due
returns-in_err-due g c =
    not_next c.args.waits.now c.args.now c.args.start.now (state g.S.Store c.args.store.now) (state g.S.Store c.next_queued.new.self) c.next_queued.result c.next_queued.ensures.next Memory c.from_residual-in_err-due.result (search rules)

pub returns-then-not-due : goal.returns-then-not-due
returns-then-not-due g c =
    past_next c.args.waits.now c.args.now c.args.start.now (state g.S.Store c.args.store.now) (state g.S.Store c.next_queued.new.self) c.next_queued.result c.next_queued.ensures.next c.in-Some.place (c.in_ok-place.was ∙ ap Ok c.in-Some.is)
    (sym c.in_ok-due.ensures ∙ c.if-not-due.true)

pub returns-in_err-row : goal.returns-in_err-row
returns-in_err-row g c =
    step_unread c.args.waits.now c.args.now c.args.start.now (state g.S.Store c.args.store.now) (state g.S.Store c.next_queued.new.self) c.next_queued.result c.next_queued.ensures.next c.in-Some.place (c.in_ok-place.was ∙ ap Ok c.in-Some.is)
    (state g.S.Store c.row_at.new.store) c.row_at.result c.row_at.ensures c.in_err-row.field-0.0 c.from_residual-in_err-row.result (search rules)

pub returns-in-Some-2 : goal.returns-in-Some-2
returns-in-Some-2 g c =
    let due : is_key_due c.args.waits.now c.args.now c.in-Some.place ≡ true = sym c.in_ok-due.ensures ∙ c.if-not-due.false in
    step_due c.args.waits.now c.args.now c.args.start.now (state g.S.Store c.args.store.now) (state g.S.Store c.next_queued.new.self) c.next_queued.result c.next_queued.ensures.next c.in-Some.place (c.in_ok-place.was ∙ ap Ok c.in-Some.is)
    (state g.S.Store c.row_at.new.store) c.row_at.result c.row_at.ensures c.in-Some-2.row (c.in_ok-row.was ∙ ap Ok c.in-Some-2.is) due

pub returns-in-None : goal.returns-in-None
returns-in-None g c =
    step_past c.args.waits.now c.args.now c.args.start.now (state g.S.Store c.args.store.now) (state g.S.Store c.next_queued.new.self) c.next_queued.result c.next_queued.ensures.next c.in-Some.place (c.in_ok-place.was ∙ ap Ok c.in-Some.is)
    (state g.S.Store c.row_at.new.store) c.row_at.result c.row_at.ensures (c.in_ok-row.was ∙ ap Ok c.in-None.is)
