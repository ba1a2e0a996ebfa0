use Rattle.std.proofs.Common.{ap, ◌∙◌}
use Rattle.maildir_moves.proofs.CarryLemmas.{cuts_to, dropped, puts}
use Rattle.maildir_moves.specs.Steps.{cut_batch}
use Rattle.maildir_moves.proofs.StepLemmas.{loaded_same}
use Rattle.maildir_moves.proofs.route.put_next.Goals as goal

pub returns-in-Ok-clause-sinks : goal.returns-in-Ok-clause-sinks
returns-in-Ok-clause-sinks g c =
    puts g.T.MailSink.tells g.T.MailSink.kept g.T.MailSink.unsettled g.T.MailSink.is_at g.T.MailSink.has_put g.T.MailSink.keeps_at c.args.route.now.load c.args.begun c.put_next.new.self
    c.args.sink.now c.put_next.new.sink c.put_next.ensures.batch c.in-Ok.ensures.underway c.in-Ok.ensures.only c.put_next.ensures.still_kept c.put_next.ensures.same

pub returns-in-Err-clause-sinks : goal.returns-in-Err-clause-sinks
returns-in-Err-clause-sinks g c =
    cuts_to g.T.MailSink.tells g.T.MailSink.kept g.T.MailSink.unsettled g.T.MailSink.is_at g.T.MailSink.has_put g.T.MailSink.keeps_at c.args.route.now.load c.args.begun c.without_rest.result
    c.args.sink.now c.put_next.new.sink (c.without_rest.ensures ∙ ap cut_batch c.in-Err.ensures.same_batch) c.in-Err.ensures.stays c.in-Err.ensures.still_put c.in-Err.ensures.waits c.put_next.ensures.still_kept c.put_next.ensures.same

pub returns-in-Err-2-clause-sinks : goal.returns-in-Err-2-clause-sinks
returns-in-Err-2-clause-sinks g c =
    dropped g.T.MailSink.tells g.T.MailSink.kept g.T.MailSink.unsettled g.T.MailSink.is_at g.T.MailSink.has_put g.T.MailSink.keeps_at c.put_next.new.self.batch.user c.put_next.new.self.batch.folder
    c.stay.result c.stay.ensures.still c.stay.ensures.stays c.args.route.now.load c.stay.new.self.load c.args.begun c.args.sink.now c.put_next.new.sink
    (loaded_same c.args.route.now.load c.stay.new.self.load c.requires.idle c.stay.ensures.load) c.put_next.ensures.still_kept c.put_next.ensures.same
