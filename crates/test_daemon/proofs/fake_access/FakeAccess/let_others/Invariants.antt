use Rattle.std.proofs.Common.{◌≡◌, length}
use Rattle.test_daemon.specs.Shelves.{LetsOthers, StillHas}
use Rattle.test_daemon.proofs.fake_access.FakeAccess.let_others.Given as goal

-- those that happened so far are told, and nothing else is
abbrev pub invariant-loop-event : goal.invariant-loop-event
invariant-loop-event g l =
    LetsOthers g.S.Shelf.view l.others.items l.initial.self.stage.fake.rest l.self.stage.fake.rest
    × (l.self.stage.fake.acts ≡ l.initial.self.stage.fake.acts)
    × (l.self.stage.fake.lost ≡ l.initial.self.stage.fake.lost)
    × StillHas g.S.Shelf.has l.initial.self.stage.fake.rest l.self.stage.fake.rest

abbrev pub decreases-loop-event : goal.decreases-loop-event
decreases-loop-event g l = length l.self.others.items
