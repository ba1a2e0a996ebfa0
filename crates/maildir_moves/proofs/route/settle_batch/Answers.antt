use Rattle.std.proofs.Common.{ap, inr, length}
use Rattle.sqlite.specs.Held.{state}
use Rattle.maildir_moves.proofs.CarryLemmas.{dropped, settles}
use Rattle.maildir_moves.proofs.MoveLemmas.{still_on}
use Rattle.maildir_moves.proofs.StepLemmas.{drops, loaded_none, puts_go_on, settled_out, taken_goes_on}
use Rattle.maildir_moves.proofs.route.settle_batch.Goals as goal

pub returns-in-Ok-clause-steps : goal.returns-in-Ok-clause-steps
returns-in-Ok-clause-steps g c =
    let old = state g.S.Store c.args.store.now in
    let new = state g.S.Store c.take_out.new.store in
    taken_goes_on c.args.begun c.args.route.now.load c.take_out.result c.take_out.new.route.load old new c.requires.all_put
    (settled_out c.args.begun c.args.route.now.load c.settle_for.new.load c.hold.new.self c.take_out.result c.take_out.new.route.load old new (length c.settled-at.result.now) (ap length c.settled-at.ensures) c.settle_for.ensures.load c.hold.ensures c.take_out.ensures.takes)

pub returns-in-Ok-clause-sinks : goal.returns-in-Ok-clause-sinks
returns-in-Ok-clause-sinks g c =
    let old = state g.S.Store c.args.store.now in
    let new = state g.S.Store c.take_out.new.store in
    settles g.T.MailSink.tells g.T.MailSink.kept g.T.MailSink.unsettled g.T.MailSink.is_at g.T.MailSink.has_put g.T.MailSink.keeps_at c.args.route.now.load c.args.begun c.take_out.result c.take_out.new.route.load old new
    c.args.sink.now c.settle_for.new.sink c.requires.all_put c.in-Ok.ensures.kept_there c.settle_for.ensures.still_kept c.in-Ok.ensures.settled
    (settled_out c.args.begun c.args.route.now.load c.settle_for.new.load c.hold.new.self c.take_out.result c.take_out.new.route.load old new (length c.settled-at.result.now) (ap length c.settled-at.ensures) c.settle_for.ensures.load c.hold.ensures c.take_out.ensures.takes)

pub returns-in-Err-clause-moves : goal.returns-in-Err-clause-moves
returns-in-Err-clause-moves g c = still_on c.stay.result (state g.S.Store c.args.store.now) c.stay.ensures.still

pub returns-in-Err-clause-steps : goal.returns-in-Err-clause-steps
returns-in-Err-clause-steps g c =
    puts_go_on c.args.begun c.args.route.now.load c.stay.result c.stay.new.self.load (state g.S.Store c.args.store.now) (state g.S.Store c.args.store.now)
    (drops c.args.begun c.args.route.now.load c.stay.result c.stay.new.self.load (inr c.requires.all_put) c.stay.ensures.stays (loaded_none c.args.route.now.load c.settle_for.new.load c.stay.new.self.load c.requires.idle c.settle_for.ensures.load c.stay.ensures.load))

pub returns-in-Err-clause-sinks : goal.returns-in-Err-clause-sinks
returns-in-Err-clause-sinks g c =
    dropped g.T.MailSink.tells g.T.MailSink.kept g.T.MailSink.unsettled g.T.MailSink.is_at g.T.MailSink.has_put g.T.MailSink.keeps_at c.args.begun.batch.user c.args.begun.batch.folder
    c.stay.result c.stay.ensures.still c.stay.ensures.stays c.args.route.now.load c.stay.new.self.load c.args.begun c.args.sink.now c.settle_for.new.sink
    (loaded_none c.args.route.now.load c.settle_for.new.load c.stay.new.self.load c.requires.idle c.settle_for.ensures.load c.stay.ensures.load) c.settle_for.ensures.still_kept c.in-Err.ensures.refused
