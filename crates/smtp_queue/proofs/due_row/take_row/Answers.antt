-- The row was read, and taken out where it is the one that was sent; or nothing changed.
use Rattle.std.proofs.Common.{◌∙◌, ap, sym, subst, Ok, rules}
use Rattle.std.proofs.lemmas.Bool.{true≢false}
use Rattle.sqlite.specs.Held.{state}
use Rattle.store_accounts.specs.Account.{takes_out}
use Rattle.store_accounts.specs.Promises.{WritesUser}
use Rattle.smtp_queue.proofs.TakeLemmas.{unseen, missing, other, removed, not_removed}
use Rattle.smtp_queue.proofs.due_row.take_row.Goals as goal

pub returns-in_err-row : goal.returns-in_err-row
returns-in_err-row g c =
    unseen c.args.place.now c.args.sent.now (state g.S.Store c.args.store.now) (state g.S.Store c.row_at.new.store) c.row_at.result c.row_at.ensures c.in_err-row.field-0.0 c.from_residual.result (search rules)

pub returns-in_default : goal.returns-in_default
returns-in_default g c =
    missing c.args.place.now c.args.sent.now (state g.S.Store c.args.store.now) (state g.S.Store c.row_at.new.store) c.row_at.result c.row_at.ensures (c.in_ok-row.was ∙ ap Ok c.in_default.is)

pub returns-then-not-has_octets : goal.returns-then-not-has_octets
returns-then-not-has_octets g c =
    other c.args.place.now c.args.sent.now (state g.S.Store c.args.store.now) (state g.S.Store c.row_at.new.store) c.row_at.result c.row_at.ensures c.in-Some.row (c.in_ok-row.was ∙ ap Ok c.in-Some.is)
    (λ has. true≢false (sym (c.has_octets.ensures.1 has) ∙ c.if-not-has_octets.true))

pub returns-in_err-take_out : goal.returns-in_err-take_out
returns-in_err-take_out g c =
    let b = state g.S.Store c.row_at.new.store in
    let d = state g.S.Store c.take_out.new.self in
    let late = subst (λ user. WritesUser user (takes_out c.args.place.now.id) b d c.take_out.result) c.as_slice.ensures c.take_out.ensures in
    not_removed c.args.place.now c.args.sent.now (state g.S.Store c.args.store.now) b c.row_at.result c.row_at.ensures c.in-Some.row (c.in_ok-row.was ∙ ap Ok c.in-Some.is)
    (c.has_octets.ensures.0 c.if-not-has_octets.false) d c.take_out.result late c.in_err-take_out.field-0.0 c.in_err-take_out.was c.from_residual-in_err-take_out.result (search rules)

pub returns : goal.returns
returns g c =
    let b = state g.S.Store c.row_at.new.store in
    let d = state g.S.Store c.take_out.new.self in
    let late = subst (λ user. WritesUser user (takes_out c.args.place.now.id) b d c.take_out.result) c.as_slice.ensures c.take_out.ensures in
    removed c.args.place.now c.args.sent.now (state g.S.Store c.args.store.now) b c.row_at.result c.row_at.ensures c.in-Some.row (c.in_ok-row.was ∙ ap Ok c.in-Some.is)
    (c.has_octets.ensures.0 c.if-not-has_octets.false) d c.take_out.result late _ c.in_ok-take_out.was
