-- The store was taken, the event was put to the machine, and the store was handed back.
use Rattle.std.proofs.Common.{◌≡◌, Err, subst, sym, rules}
use Rattle.sqlite.specs.Held.{state}
use Rattle.store_engine.specs.declared.answer.Answer.TheVariants.{Delivered}
use Rattle.store_engine.specs.declared.event.Event.TheVariants.{Deliver}
use Rattle.cli_run.specs.Draining.{TurnsTables}
use Rattle.cli_run.specs.Serving.{HasDenied}
use Rattle.cli_run.specs.Subcommands.{Puts}
use Rattle.cli_run.specs.declared.fault.RunFault.TheVariants.{Refused}
use Rattle.cli_run.proofs.WordLemmas.{carried_turned, put_denied, delivery_made, delivery_refused}
use Rattle.store_engine.specs.Terms.{terms_of}
use Rattle.cli_run.proofs.commands.deliver_in_store.Goals as goal

pub returns-in_err-store-clause-puts : goal.returns-in_err-store-clause-puts
returns-in_err-store-clause-puts g c tells =
    put_denied (HasDenied g.K.Keeper.refuses g.K.Keeper.will_wait c.args.location) (Deliver c.args.user.now c.args.envelope c.args.message.now (terms_of c.args.terms)) Delivered c.in_err-store.field-0.0 c.from_residual.result (search rules)
    c.in_err-store.ensures.denied (g.K.Keeper.holds c.args.keeper.now) (g.K.Keeper.holds c.take_store.new.keeper) (c.in_err-store.ensures.refused tells)

pub returns-in_err-report-clause-puts : goal.returns-in_err-report-clause-puts
returns-in_err-report-clause-puts g c tells =
    let got = c.in_ok-store.ensures.taken tells in
    let sure = g.met.K.Keeper.sure c.deliver-delivered.new.store tells in
    let Denied = HasDenied g.K.Keeper.refuses g.K.Keeper.will_wait c.args.location in
    let refusal = c.in_err-report.field-0.0 in
    let event = Deliver c.args.user.now c.args.envelope c.args.message.now (terms_of c.args.terms) in
    let is : c.from_residual-in_err-report.result ≡ Err (Refused refusal) = search rules in
    subst (λ r. TurnsTables (Puts Denied event Delivered r) (g.K.Keeper.holds c.args.keeper.now) (g.K.Keeper.holds c.hand_back.new.self)) (sym is)
    (carried_turned (g.K.Keeper.holds c.args.keeper.now) (g.K.Keeper.holds c.hand_back.new.self) (state g.K.S.Store c.in_ok-store.store) (state g.K.S.Store c.deliver-delivered.new.store) got.0 got.2 sure.0 sure.1
    (c.hand_back.ensures.held tells) (Puts Denied event Delivered (Err (Refused refusal)))
    (λ clean accounts shown.
    let turned = c.in_err-report.ensures.acts.carries clean accounts shown in
    (turned.0, delivery_refused Denied c.args.user.now c.args.envelope c.args.message.now (terms_of c.args.terms) refusal accounts turned.0 turned.1, turned.2)))

pub returns-clause-puts : goal.returns-clause-puts
returns-clause-puts g c tells =
    let got = c.in_ok-store.ensures.taken tells in
    let sure = g.met.K.Keeper.sure c.deliver-delivered.new.store tells in
    let Denied = HasDenied g.K.Keeper.refuses g.K.Keeper.will_wait c.args.location in
    carried_turned (g.K.Keeper.holds c.args.keeper.now) (g.K.Keeper.holds c.hand_back.new.self) (state g.K.S.Store c.in_ok-store.store) (state g.K.S.Store c.deliver-delivered.new.store) got.0 got.2 sure.0 sure.1
    (c.hand_back.ensures.held tells) _
    (λ clean accounts shown.
    let turned = c.in_ok-report.ensures.acts.carries clean accounts shown in
    (turned.0, delivery_made Denied c.args.user.now c.args.envelope c.args.message.now (terms_of c.args.terms) c.in_ok-report.report accounts turned.0 turned.1, turned.2))
