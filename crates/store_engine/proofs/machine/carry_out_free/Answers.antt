use Rattle.std.proofs.Common.{◌≡◌, sym, subst}
use Rattle.std.specs.Prelude.{IfSome}
use Rattle.store_engine.specs.declared.event.Event.{Event}
use Rattle.store_engine.specs.declared.event.Event.TheVariants.{Open, Give, Step, GiveUp, Close}
use Rattle.store_engine.specs.Hosts.{IsSessionEvent, answer_of}
use Rattle.store_engine.proofs.HostLemmas.{session_is}
use Rattle.store_engine.proofs.machine.carry_out_free.Goals as goal

pub returns-in-Open-clause-made : goal.returns-in-Open-clause-made
returns-in-Open-clause-made c =
    let is : c.args.event.now ≡ Open c.in-Open.number = cc in
    session_is c.args.event.now (Open c.in-Open.number) c.answer_of.result (answer_of c.open.result) c.args.sessions.now c.open.new.sessions is c.answer_of.ensures c.open.ensures

pub returns-in-Give-clause-made : goal.returns-in-Give-clause-made
returns-in-Give-clause-made c =
    let event = Give c.in-Give.number c.as_slice.result.now in
    let is : c.args.event.now ≡ event = cc in
    session_is c.args.event.now event c.answer_of-in-Give.result (answer_of c.give.result) c.args.sessions.now c.give.new.sessions is c.answer_of-in-Give.ensures c.give.ensures

pub returns-in-Step-clause-made : goal.returns-in-Step-clause-made
returns-in-Step-clause-made c =
    let is : c.args.event.now ≡ Step c.in-Step.number = cc in
    subst (λ (e : Event). IfSome c.step_free.result (λ answer. IsSessionEvent e answer c.args.sessions.now c.step_free.new.sessions)) (sym is) c.step_free.ensures.made

pub returns-in-GiveUp-clause-made : goal.returns-in-GiveUp-clause-made
returns-in-GiveUp-clause-made c =
    let is : c.args.event.now ≡ GiveUp c.in-GiveUp.number = cc in
    subst (λ (e : Event). IsSessionEvent e c.give_up.result c.args.sessions.now c.give_up.new.sessions) (sym is) c.give_up.ensures

pub returns-in-Close-clause-made : goal.returns-in-Close-clause-made
returns-in-Close-clause-made c =
    let is : c.args.event.now ≡ Close c.in-Close.number = cc in
    subst (λ (e : Event). IsSessionEvent e c.close.result c.args.sessions.now c.close.new.sessions) (sym is) c.close.ensures
