use Rattle.store_engine.specs.Hosts.{answered_events, host_of}
use Rattle.store_engine.proofs.RunLemmas.{run_sound, run_alone, run_spaced}
use Rattle.store_engine.proofs.replay.run.Goals as goal

pub returns-clause-sound : goal.returns-clause-sound
returns-clause-sound g c =
    run_sound (answered_events c.args.events.now c.run_events.result.answers.items) c.run_events.result.answers.items (host_of g.S.Store c.args.world.now) (host_of g.S.Store c.run_events.new.world) c.run_events.ensures.runs

pub returns-clause-alone : goal.returns-clause-alone
returns-clause-alone g c =
    run_alone (answered_events c.args.events.now c.run_events.result.answers.items) c.run_events.result.answers.items (host_of g.S.Store c.args.world.now) (host_of g.S.Store c.run_events.new.world) c.run_events.ensures.runs

pub returns-clause-spaced : goal.returns-clause-spaced
returns-clause-spaced g c =
    run_spaced (answered_events c.args.events.now c.run_events.result.answers.items) c.run_events.result.answers.items (host_of g.S.Store c.args.world.now) (host_of g.S.Store c.run_events.new.world) c.run_events.ensures.runs
