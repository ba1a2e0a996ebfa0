-- The event's message is what was read, and the report is printed after it was made.
use Rattle.std.proofs.Common.{Ok, Err, ◌≡◌, refl, subst, sym, ap, ◌∙◌, inl, inr, rules}
use Rattle.std.specs.Option.{option_copied}
use Rattle.store_engine.specs.declared.answer.Answer.TheVariants.{Delivered}
use Rattle.store_engine.specs.Terms.{terms_of}
use Rattle.store_engine.specs.declared.event.Event.TheVariants.{Deliver}
use Rattle.cli_reports.specs.Reports.{delivery_report}
use Rattle.cli_run.specs.Faults.{memory}
use Rattle.cli_run.specs.Serving.{HasDenied}
use Rattle.cli_run.specs.Streams.{ReadsAll}
use Rattle.cli_run.specs.Values.{HasNoWhen, envelope_with}
use Rattle.cli_run.specs.Subcommands.{IsDeliverEvent, DeliverInputFailed, DeniedAtEnd}
use Rattle.cli_run.proofs.WordLemmas.{event_hindered, event_unmade, event_made, put_at_end, wrong, broken, no_memory, unread}
use Rattle.cli_run.proofs.commands.run_deliver.Goals as goal

pub returns-in_err-terms-clause-does : goal.returns-in_err-terms-clause-does
returns-in_err-terms-clause-does g c tells =
    let p = c.args.asked in
    event_hindered (DeliverInputFailed (option_copied p.at) c.args.clock) (HasNoWhen (option_copied p.at) (option_copied p.zone)) (DeniedAtEnd (HasDenied g.K.Keeper.refuses g.K.Keeper.will_wait c.args.asked.location) (g.R.Read.remaining c.args.input.now)) (IsDeliverEvent (envelope_with p.from.now p.to.now) (option_copied p.at) (option_copied p.zone) p.user.now c.args.clock c.args.host (g.R.Read.remaining c.args.input.now)) (g.W.Write.contents c.args.output.now)
    (g.K.Keeper.holds c.args.keeper.now) c.in_err-terms.field-0.0 c.from_residual.result (search rules)
    (elim c.in_err-terms.ensures.fault [ inl bad ↦ wrong (DeliverInputFailed (option_copied p.at) c.args.clock) (HasNoWhen (option_copied p.at) (option_copied p.zone)) (DeniedAtEnd (HasDenied g.K.Keeper.refuses g.K.Keeper.will_wait c.args.asked.location) (g.R.Read.remaining c.args.input.now)) _ bad.0 bad.1 | inr clock ↦ broken (DeliverInputFailed (option_copied p.at) c.args.clock) (HasNoWhen (option_copied p.at) (option_copied p.zone)) (DeniedAtEnd (HasDenied g.K.Keeper.refuses g.K.Keeper.will_wait c.args.asked.location) (g.R.Read.remaining c.args.input.now)) _ clock.0 (inr (clock.1, clock.2)) ])

pub returns-in_err-envelope-clause-does : goal.returns-in_err-envelope-clause-does
returns-in_err-envelope-clause-does g c tells =
    let p = c.args.asked in
    event_hindered (DeliverInputFailed (option_copied p.at) c.args.clock) (HasNoWhen (option_copied p.at) (option_copied p.zone)) (DeniedAtEnd (HasDenied g.K.Keeper.refuses g.K.Keeper.will_wait c.args.asked.location) (g.R.Read.remaining c.args.input.now)) (IsDeliverEvent (envelope_with p.from.now p.to.now) (option_copied p.at) (option_copied p.zone) p.user.now c.args.clock c.args.host (g.R.Read.remaining c.args.input.now)) (g.W.Write.contents c.args.output.now)
    (g.K.Keeper.holds c.args.keeper.now) memory c.from_residual-in_err-envelope.result (search rules) (no_memory (DeliverInputFailed (option_copied p.at) c.args.clock) (HasNoWhen (option_copied p.at) (option_copied p.zone)) (DeniedAtEnd (HasDenied g.K.Keeper.refuses g.K.Keeper.will_wait c.args.asked.location) (g.R.Read.remaining c.args.input.now)))

pub returns-in_err-message-clause-does : goal.returns-in_err-message-clause-does
returns-in_err-message-clause-does g c tells =
    let p = c.args.asked in
    let fault = c.in_err-message.field-0.0 in
    event_hindered (DeliverInputFailed (option_copied p.at) c.args.clock) (HasNoWhen (option_copied p.at) (option_copied p.zone)) (DeniedAtEnd (HasDenied g.K.Keeper.refuses g.K.Keeper.will_wait c.args.asked.location) (g.R.Read.remaining c.read_all.new.input)) (IsDeliverEvent (envelope_with p.from.now p.to.now) (option_copied p.at) (option_copied p.zone) p.user.now c.args.clock c.args.host (g.R.Read.remaining c.args.input.now)) (g.W.Write.contents c.args.output.now)
    (g.K.Keeper.holds c.args.keeper.now) fault c.from_residual-in_err-message.result (search rules) (unread (DeliverInputFailed (option_copied p.at) c.args.clock) (HasNoWhen (option_copied p.at) (option_copied p.zone)) (DeniedAtEnd (HasDenied g.K.Keeper.refuses g.K.Keeper.will_wait c.args.asked.location) (g.R.Read.remaining c.read_all.new.input)) fault c.in_err-message.ensures.err (λ is. inl (c.in_err-message.ensures.failed is)))

pub returns-in_err-report-clause-does : goal.returns-in_err-report-clause-does
returns-in_err-report-clause-does g c tells =
    let p = c.args.asked in
    let given = g.R.Read.remaining c.args.input.now in
    let message = c.as_slice.result.now in
    let lent = terms_of c.lend.result in
    let terms = c.in_ok-terms.terms in
    let event = Deliver c.as_bytes.result.now c.in_ok-envelope.envelope message lent in
    let text : message ≡ c.in_ok-message.message.items = search rules in
    let user : c.as_bytes.result.now ≡ p.user.now = search rules in
    let same : event ≡ Deliver p.user.now (envelope_with p.from.now p.to.now) message terms =
    ap (λ u. Deliver u c.in_ok-envelope.envelope message lent) user ∙ ap (λ e. Deliver p.user.now e message lent) c.in_ok-envelope.ensures ∙ ap (λ t. Deliver p.user.now (envelope_with p.from.now p.to.now) message t) c.lend.ensures.lent in
    event_unmade (DeliverInputFailed (option_copied p.at) c.args.clock) (HasNoWhen (option_copied p.at) (option_copied p.zone)) (DeniedAtEnd (HasDenied g.K.Keeper.refuses g.K.Keeper.will_wait c.args.asked.location) (g.R.Read.remaining c.read_all.new.input)) (IsDeliverEvent (envelope_with p.from.now p.to.now) (option_copied p.at) (option_copied p.zone) p.user.now c.args.clock c.args.host given) event
    (record { message = message; read = subst (ReadsAll given) (sym text) c.in_ok-message.ensures.ok; terms = terms; under = c.in_ok-terms.ensures.ok; same = same }) Delivered (g.K.Keeper.holds c.args.keeper.now)
    (g.K.Keeper.holds c.deliver_in_store.new.keeper) (g.W.Write.contents c.args.output.now) c.in_ok-terms.ensures.right c.in_err-report.field-0.0 c.from_residual-in_err-report.result (search rules) (put_at_end (HasDenied g.K.Keeper.refuses g.K.Keeper.will_wait c.args.asked.location) (g.R.Read.remaining c.read_all.new.input) c.in_ok-message.ensures.end event Delivered (Err c.in_err-report.field-0.0) (g.K.Keeper.holds c.args.keeper.now) (g.K.Keeper.holds c.deliver_in_store.new.keeper) (c.in_err-report.ensures.puts tells))

pub returns-clause-does : goal.returns-clause-does
returns-clause-does g c tells =
    let p = c.args.asked in
    let given = g.R.Read.remaining c.args.input.now in
    let message = c.as_slice.result.now in
    let lent = terms_of c.lend.result in
    let terms = c.in_ok-terms.terms in
    let event = Deliver c.as_bytes.result.now c.in_ok-envelope.envelope message lent in
    let text : message ≡ c.in_ok-message.message.items = search rules in
    let user : c.as_bytes.result.now ≡ p.user.now = search rules in
    let same : event ≡ Deliver p.user.now (envelope_with p.from.now p.to.now) message terms =
    ap (λ u. Deliver u c.in_ok-envelope.envelope message lent) user ∙ ap (λ e. Deliver p.user.now e message lent) c.in_ok-envelope.ensures ∙ ap (λ t. Deliver p.user.now (envelope_with p.from.now p.to.now) message t) c.lend.ensures.lent in
    event_made (DeliverInputFailed (option_copied p.at) c.args.clock) (HasNoWhen (option_copied p.at) (option_copied p.zone)) (DeniedAtEnd (HasDenied g.K.Keeper.refuses g.K.Keeper.will_wait c.args.asked.location) (g.R.Read.remaining c.read_all.new.input)) (IsDeliverEvent (envelope_with p.from.now p.to.now) (option_copied p.at) (option_copied p.zone) p.user.now c.args.clock c.args.host given) event
    (record { message = message; read = subst (ReadsAll given) (sym text) c.in_ok-message.ensures.ok; terms = terms; under = c.in_ok-terms.ensures.ok; same = same }) Delivered (g.K.Keeper.holds c.args.keeper.now)
    (g.K.Keeper.holds c.deliver_in_store.new.keeper) c.in_ok-report.report (delivery_report c.in_ok-report.report) refl (put_at_end (HasDenied g.K.Keeper.refuses g.K.Keeper.will_wait c.args.asked.location) (g.R.Read.remaining c.read_all.new.input) c.in_ok-message.ensures.end event Delivered (Ok c.in_ok-report.report) (g.K.Keeper.holds c.args.keeper.now) (g.K.Keeper.holds c.deliver_in_store.new.keeper) (c.in_ok-report.ensures.puts tells)) (g.W.Write.contents c.args.output.now) (g.W.Write.contents c.print_report.new.output)
    c.print_report.result c.print_report.ensures
