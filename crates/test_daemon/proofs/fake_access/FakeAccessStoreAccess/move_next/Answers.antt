use Rattle.std.proofs.Common.{◌≡◌, ◌∷◌, ◌++◌, ◌∙◌, [], sym, ap, subst}
use Rattle.test_daemon.specs.Shelves.{LetsOthers, StillHas}
use Rattle.daemon_core.specs.Moves.{IsMessageMoved}
use Rattle.net_loop.specs.declared.act.Act.TheVariants.{Worked}
use Rattle.daemon_core.specs.declared.note.Note.TheVariants.{Moved}
use Rattle.test_daemon.proofs.ShelfLemmas.{moved_behind, kept_behind}
use Rattle.test_daemon.proofs.fake_access.FakeAccessStoreAccess.move_next.Goals as goal

pub returns-clause-moves : goal.returns-clause-moves
returns-clause-moves g c =
    let others = c.let_others-others.result in
    let moving = c.move_next-moving.result in
    let rest : c.is_away.new.self.stage.fake ≡ c.args.self.now.stage.fake = ap (λ s. s.fake) c.is_away.ensures in
    let lets : LetsOthers g.S.Shelf.view others c.args.self.now.stage.fake.rest c.let_others-others.new.self.stage.fake.rest =
    subst (λ f. LetsOthers g.S.Shelf.view others f.rest c.let_others-others.new.self.stage.fake.rest) rest c.let_others-others.ensures.others in
    let moved : IsMessageMoved g.S.Shelf.view others moving c.args.self.now.stage.fake.rest c.args.clients.now.sessions c.keep-2.new.self.fake.rest c.args.clients.now.sessions =
    subst (λ s. IsMessageMoved g.S.Shelf.view others moving c.args.self.now.stage.fake.rest c.args.clients.now.sessions s c.args.clients.now.sessions) (sym c.keep-2.ensures.left)
    (moved_behind g.S.Shelf.view others moving c.args.self.now.stage.fake.rest c.let_others-others.new.self.stage.fake.rest c.move_next-moving.new.self c.args.clients.now.sessions
    lets c.move_next-moving.ensures.moves) in (
      others,
      moving,
      c.pause_behind-pause.ensures,
      λ clean. moved,
      kept_behind g.S.Shelf.has g.S.Shelf.there moving c.args.self.now.stage.fake.rest c.let_others-others.new.self.stage.fake.rest c.move_next-moving.new.self c.keep-2.new.self.fake.rest
          (subst (λ f. StillHas g.S.Shelf.has f.rest c.let_others-others.new.self.stage.fake.rest) rest c.let_others-others.ensures.still) c.keep-2.ensures.left c.move_next-moving.ensures.keeps,
      λ tells. c.keep-2.ensures.acts tells
          ∙ ap (λ acts. acts.items ++ Worked (Moved others moving) ∷ []) (c.let_others-others.ensures.acts ∙ ap (λ f. f.acts) rest),
      λ never. absurd never,
    )
