use Rattle.std.proofs.Common.{◌≡◌, ◌∷◌, ◌++◌, ◌∙◌, [], sym, ap, subst}
use Rattle.test_daemon.specs.Shelves.{LetsOthers}
use Rattle.daemon_core.specs.StoreAccess.{IsAccountAsked}
use Rattle.net_loop.specs.declared.act.Act.TheVariants.{Noted}
use Rattle.daemon_core.specs.declared.note.Note.TheVariants.{Asked}
use Rattle.test_daemon.proofs.ShelfLemmas.{asked_behind}
use Rattle.test_daemon.proofs.fake_access.FakeAccessStoreAccess.find_account.Goals as goal

pub returns-clause-asks : goal.returns-clause-asks
returns-clause-asks g c =
    let others = c.let_others-others.result in
    let rest : c.is_away.new.self.stage.fake ≡ c.args.self.now.stage.fake = ap (λ s. s.fake) c.is_away.ensures in
    let lets : LetsOthers g.S.Shelf.view others c.args.self.now.stage.fake.rest c.let_others-others.new.self.stage.fake.rest =
    subst (λ f. LetsOthers g.S.Shelf.view others f.rest c.let_others-others.new.self.stage.fake.rest) rest c.let_others-others.ensures.others in
    let asked : IsAccountAsked g.S.Shelf.view others c.args.user.now c.find_account-lookup.result c.args.self.now.stage.fake.rest c.args.clients.now.sessions c.note_asked.new.self.stage.fake.rest c.args.clients.now.sessions =
    subst (λ s. IsAccountAsked g.S.Shelf.view others c.args.user.now c.find_account-lookup.result c.args.self.now.stage.fake.rest c.args.clients.now.sessions s c.args.clients.now.sessions) (sym c.note_asked.ensures.left)
    (asked_behind g.S.Shelf.view others c.args.user.now c.find_account-lookup.result c.args.self.now.stage.fake.rest c.let_others-others.new.self.stage.fake.rest c.find_account-lookup.new.self c.args.clients.now.sessions
    lets c.find_account-lookup.ensures.sought) in (
      others,
      λ clean. asked,
      λ tells. c.note_asked.ensures.told tells
          ∙ ap (λ acts. acts.items ++ Noted c.args.id (Asked others c.args.user.now c.find_account-lookup.result) ∷ []) (c.let_others-others.ensures.acts ∙ ap (λ f. f.acts) rest),
      λ never. absurd never,
    )
