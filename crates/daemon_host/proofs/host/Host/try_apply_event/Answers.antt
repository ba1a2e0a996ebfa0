-- What was done to the store that was reached, behind calls that changed no account, where that store is had still.
use Rattle.std.proofs.Common.{[], subst, sym}
use Rattle.daemon_core.specs.StoreAccess.{IsEventDone}
use Rattle.daemon_core.proofs.StillLemmas.{still_then}
use Rattle.daemon_host.proofs.HeldLemmas.{done_behind}
use Rattle.daemon_host.proofs.host.Host.try_apply_event.Goals as goal

pub returns : goal.returns
returns g c = λ clean.
    let view = g.H.MailStore.view in
    let kept = c.is_kept-kept.ensures.kept clean in
    let done = done_behind view c.args.self.now.held c.reach.new.self.held c.apply_event.new.self c.args.event.now c.in_ok-answer.answer c.args.clients.now.sessions c.apply_event.new.clients.sessions
    (still_then view c.args.self.now.held c.may_ask.new.self.held c.reach.new.self.held c.may_ask.ensures.shown c.reach.ensures.shown) (c.in_ok-answer.ensures (subst g.H.MailStore.clean kept.1 clean)) in
    subst (λ held. IsEventDone view [] c.args.event.now c.answer_if_kept.result c.args.self.now.held c.args.clients.now.sessions held c.apply_event.new.clients.sessions) (sym kept.1)
    (subst (λ answer. IsEventDone view [] c.args.event.now answer c.args.self.now.held c.args.clients.now.sessions c.apply_event.new.self c.apply_event.new.clients.sessions) (sym (c.answer_if_kept.ensures kept.0)) done)
