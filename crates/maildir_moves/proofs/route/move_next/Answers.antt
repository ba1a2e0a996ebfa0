use Rattle.std.proofs.Common.{◌≡◌, Option, Some, ap, sym, ◌∙◌}
use Rattle.sqlite.specs.Held.{state}
use Rattle.maildir_moves.specs.declared.batch.BegunBatch.{BegunBatch}
use Rattle.maildir_moves.specs.declared.load.Load.{Load}
use Rattle.maildir_moves.specs.declared.route.Route.{Route}
use Rattle.maildir_moves.proofs.CarryLemmas.{follows_from, left_among, same_begun, with_begun}
use Rattle.maildir_moves.proofs.StepLemmas.{goes_on_from, step_on, steps_from}
use Rattle.maildir_moves.proofs.TurnLemmas.{going_on, turns_from}
use Rattle.maildir_moves.proofs.route.move_next.Goals as goal

pub returns-in-Some-clause-steps : goal.returns-in-Some-clause-steps
returns-in-Some-clause-steps g c =
    let old = state g.S.Store c.args.store.now in
    let new = state g.S.Store c.go_on.new.store in
    step_on c.args.now c.args.route.now c.go_on.result c.go_on.new.route old new c.in-Some.begun (sym (ap (λ (l : Load). l.begun) c.hear.ensures.load) ∙ sym c.take.ensures.value ∙ c.in-Some.is)
    (goes_on_from c.in-Some.begun c.args.route.now.load (record c.hear.new.self.load { begun = c.take.new.self }) c.take.new.self c.go_on.result c.go_on.new.route.load old new
    (ap (λ (l : Load). let b : Load = record l { begun = c.take.new.self } in b) c.hear.ensures.load) c.go_on.ensures.steps)

pub returns-in-Some-clause-turns : goal.returns-in-Some-clause-turns
returns-in-Some-clause-turns g c =
    going_on c.args.now c.args.route.now c.go_on.result c.go_on.new.route (state g.S.Store c.args.store.now) (state g.S.Store c.go_on.new.store) c.in-Some.begun
    (sym (ap (λ (l : Load). l.begun) c.hear.ensures.load) ∙ sym c.take.ensures.value ∙ c.in-Some.is) (c.go_on.ensures.order ∙ c.hear.ensures.order)

pub returns-in-Some-clause-carries : goal.returns-in-Some-clause-carries
returns-in-Some-clause-carries g c =
    (follows_from g.T.MailSink.tells g.T.MailSink.kept g.T.MailSink.unsettled g.T.MailSink.is_at g.T.MailSink.has_put g.T.MailSink.keeps_at c.args.route.now.load (record c.hear.new.self.load { begun = Some c.in-Some.begun })
    c.args.sink.now c.go_on.result c.go_on.new.route.load c.go_on.new.sink (with_begun c.hear.new.self.load c.in-Some.begun (sym c.take.ensures.value ∙ c.in-Some.is) ∙ c.hear.ensures.load) c.go_on.ensures.sinks).carries

pub returns-in-Some-clause-only : goal.returns-in-Some-clause-only
returns-in-Some-clause-only g c =
    (follows_from g.T.MailSink.tells g.T.MailSink.kept g.T.MailSink.unsettled g.T.MailSink.is_at g.T.MailSink.has_put g.T.MailSink.keeps_at c.args.route.now.load (record c.hear.new.self.load { begun = Some c.in-Some.begun })
    c.args.sink.now c.go_on.result c.go_on.new.route.load c.go_on.new.sink (with_begun c.hear.new.self.load c.in-Some.begun (sym c.take.ensures.value ∙ c.in-Some.is) ∙ c.hear.ensures.load) c.go_on.ensures.sinks).only

pub returns-in-Some-clause-told : goal.returns-in-Some-clause-told
returns-in-Some-clause-told g c = λ so yes.
    let follows = follows_from g.T.MailSink.tells g.T.MailSink.kept g.T.MailSink.unsettled g.T.MailSink.is_at g.T.MailSink.has_put g.T.MailSink.keeps_at c.args.route.now.load (record c.hear.new.self.load { begun = Some c.in-Some.begun })
    c.args.sink.now c.go_on.result c.go_on.new.route.load c.go_on.new.sink (with_begun c.hear.new.self.load c.in-Some.begun (sym c.take.ensures.value ∙ c.in-Some.is) ∙ c.hear.ensures.load) c.go_on.ensures.sinks in
    left_among (g.T.MailSink.keeps_at c.go_on.new.sink) (g.T.MailSink.kept c.go_on.new.sink) (λ path mail keeps. g.met.T.MailSink.told c.go_on.new.sink path mail keeps yes) c.go_on.new.route.load c.go_on.result (follows.carries.relies so).1

-- nothing was on its way
none_noted : (before hear : Load) (taken : Option BegunBatch) → hear ≡ before → taken ≡ hear.begun → record hear { begun = taken } ≡ before
none_noted before hear taken is same = same_begun hear taken same ∙ is

pub returns-in-None-clause-steps : goal.returns-in-None-clause-steps
returns-in-None-clause-steps g c =
    let mid : Route = record c.hear.new.self { load = record c.hear.new.self.load { begun = c.take.new.self } } in
    steps_from c.args.now c.args.route.now mid c.take_or_choose.result c.take_or_choose.new.route (state g.S.Store c.args.store.now) (state g.S.Store c.take_or_choose.new.store)
    (none_noted c.args.route.now.load c.hear.new.self.load c.take.new.self c.hear.ensures.load (c.take.ensures.after ∙ sym (sym c.take.ensures.value ∙ c.in-None.is))) c.hear.ensures.rests c.take_or_choose.ensures.steps

pub returns-in-None-clause-turns : goal.returns-in-None-clause-turns
returns-in-None-clause-turns g c =
    let mid : Route = record c.hear.new.self { load = record c.hear.new.self.load { begun = c.take.new.self } } in
    turns_from c.args.now c.args.route.now mid c.take_or_choose.result c.take_or_choose.new.route (state g.S.Store c.args.store.now) (state g.S.Store c.take_or_choose.new.store)
    (none_noted c.args.route.now.load c.hear.new.self.load c.take.new.self c.hear.ensures.load (c.take.ensures.after ∙ sym (sym c.take.ensures.value ∙ c.in-None.is))) c.hear.ensures.rests c.hear.ensures.order c.take_or_choose.ensures.turns

pub returns-in-None-clause-carries : goal.returns-in-None-clause-carries
returns-in-None-clause-carries g c =
    (follows_from g.T.MailSink.tells g.T.MailSink.kept g.T.MailSink.unsettled g.T.MailSink.is_at g.T.MailSink.has_put g.T.MailSink.keeps_at c.args.route.now.load (record c.hear.new.self.load { begun = c.take.new.self })
    c.args.sink.now c.take_or_choose.result c.take_or_choose.new.route.load c.take_or_choose.new.sink
    (none_noted c.args.route.now.load c.hear.new.self.load c.take.new.self c.hear.ensures.load (c.take.ensures.after ∙ sym (sym c.take.ensures.value ∙ c.in-None.is))) c.take_or_choose.ensures.sinks).carries

pub returns-in-None-clause-only : goal.returns-in-None-clause-only
returns-in-None-clause-only g c =
    (follows_from g.T.MailSink.tells g.T.MailSink.kept g.T.MailSink.unsettled g.T.MailSink.is_at g.T.MailSink.has_put g.T.MailSink.keeps_at c.args.route.now.load (record c.hear.new.self.load { begun = c.take.new.self })
    c.args.sink.now c.take_or_choose.result c.take_or_choose.new.route.load c.take_or_choose.new.sink
    (none_noted c.args.route.now.load c.hear.new.self.load c.take.new.self c.hear.ensures.load (c.take.ensures.after ∙ sym (sym c.take.ensures.value ∙ c.in-None.is))) c.take_or_choose.ensures.sinks).only

pub returns-in-None-clause-told : goal.returns-in-None-clause-told
returns-in-None-clause-told g c = λ so yes.
    let follows = follows_from g.T.MailSink.tells g.T.MailSink.kept g.T.MailSink.unsettled g.T.MailSink.is_at g.T.MailSink.has_put g.T.MailSink.keeps_at c.args.route.now.load (record c.hear.new.self.load { begun = c.take.new.self })
    c.args.sink.now c.take_or_choose.result c.take_or_choose.new.route.load c.take_or_choose.new.sink
    (none_noted c.args.route.now.load c.hear.new.self.load c.take.new.self c.hear.ensures.load (c.take.ensures.after ∙ sym (sym c.take.ensures.value ∙ c.in-None.is))) c.take_or_choose.ensures.sinks in
    left_among (g.T.MailSink.keeps_at c.take_or_choose.new.sink) (g.T.MailSink.kept c.take_or_choose.new.sink) (λ path mail keeps. g.met.T.MailSink.told c.take_or_choose.new.sink path mail keeps yes) c.take_or_choose.new.route.load c.take_or_choose.result (follows.carries.relies so).1
