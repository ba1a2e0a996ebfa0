use Rattle.std.proofs.Common.{◌≡◌, ◌∷◌, ◌++◌, ◌∙◌, [], sym, ap, subst}
use Rattle.test_daemon.specs.Shelves.{LetsOthers}
use Rattle.daemon_core.specs.StoreAccess.{IsEventDone}
use Rattle.net_loop.specs.declared.act.Act.TheVariants.{Noted}
use Rattle.daemon_core.specs.declared.note.Note.TheVariants.{Did}
use Rattle.test_daemon.proofs.ShelfLemmas.{done_behind}
use Rattle.test_daemon.proofs.fake_access.FakeAccess.bring.Goals as goal

pub returns-clause-brings : goal.returns-clause-brings
returns-clause-brings g c =
    let others = c.let_others-others.result in
    let rest : c.is_away.new.self.stage.fake ≡ c.args.self.now.stage.fake = ap (λ s. s.fake) c.is_away.ensures in
    let lets : LetsOthers g.S.Shelf.view others c.args.self.now.stage.fake.rest c.let_others-others.new.self.stage.fake.rest =
    subst (λ f. LetsOthers g.S.Shelf.view others f.rest c.let_others-others.new.self.stage.fake.rest) rest c.let_others-others.ensures.others in
    let done : IsEventDone g.S.Shelf.view others c.args.event c.apply_event-answer.result c.args.self.now.stage.fake.rest c.args.clients.now.sessions c.note_event.new.self.stage.fake.rest c.apply_event-answer.new.clients.sessions =
    subst (λ s. IsEventDone g.S.Shelf.view others c.args.event c.apply_event-answer.result c.args.self.now.stage.fake.rest c.args.clients.now.sessions s c.apply_event-answer.new.clients.sessions) (sym c.note_event.ensures.left)
    (done_behind g.S.Shelf.view others c.args.event c.apply_event-answer.result c.args.self.now.stage.fake.rest c.let_others-others.new.self.stage.fake.rest c.apply_event-answer.new.self c.args.clients.now.sessions c.apply_event-answer.new.clients.sessions
    lets c.apply_event-answer.ensures.applied) in (
      others,
      λ clean. done,
      λ tells. c.note_event.ensures.told tells
          ∙ ap (λ acts. acts.items ++ Noted c.args.id (Did others c.args.event c.apply_event-answer.result) ∷ []) (c.let_others-others.ensures.acts ∙ ap (λ f. f.acts) rest),
      λ never. absurd never,
    )
