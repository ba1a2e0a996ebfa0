use Rattle.std.proofs.Common.{◌≡◌, ◌∙◌, refl, sym, subst, rules}
use Rattle.test_daemon.specs.Shelves.{LetsOthers}
use Rattle.test_daemon.proofs.ShelfLemmas.{lets_none}
use Rattle.test_daemon.proofs.fake_access.FakeAccess.let_others.Goals as goal

pub loop-event-init : goal.loop-event-init
loop-event-init g c = (
  subst (λ others. LetsOthers g.S.Shelf.view others c.args.self.now.stage.fake.rest c.args.self.now.stage.fake.rest) (sym c.new-others.ensures.items)
      (lets_none g.S.Shelf.view c.args.self.now.stage.fake.rest),
  refl,
  refl,
  λ mails had. had,
)

pub loop-event-preserved : goal.loop-event-preserved
loop-event-preserved g c = (
  c.let_one.ensures.lets c.args.self.now.stage.fake.rest c.loop-event.invariant.0,
  c.let_one.ensures.acts ∙ c.loop-event.invariant.1,
  c.let_one.ensures.lost ∙ c.loop-event.invariant.2,
  λ mails had. c.let_one.ensures.still mails (c.loop-event.invariant.3 mails had),
)

pub returns-clause-others : goal.returns-clause-others
returns-clause-others g c =
    let told : c.from_vec.result ≡ c.loop-event.others.items = search rules in
    subst (λ others. LetsOthers g.S.Shelf.view others c.args.self.now.stage.fake.rest c.loop-event.self.stage.fake.rest) (sym told)
    c.loop-event.invariant.0
