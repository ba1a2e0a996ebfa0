use Rattle.std.proofs.Common.{◌≡◌, length, take}
use Rattle.store_engine.specs.Hosts.{host_of, IsHostRun, SurvivesRun}
use Rattle.store_engine.proofs.replay.run_events.Given as goal

abbrev pub invariant-loop-event : goal.invariant-loop-event
invariant-loop-event g l = record {
  answered : length l.answers.items ≡ l.event-index;
  ran : IsHostRun (take l.event-index l.events) l.answers.items (host_of g.S.Store l.initial.world) (host_of g.S.Store l.world);
  crash : SurvivesRun l.events (host_of g.S.Store l.initial.world) (host_of g.S.Store l.world);
}
