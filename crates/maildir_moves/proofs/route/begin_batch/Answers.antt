use Rattle.std.proofs.Common.{subst}
use Rattle.sqlite.specs.Held.{state}
use Rattle.maildir_moves.specs.Relying.{IsOpenFor}
use Rattle.maildir_moves.proofs.CarryLemmas.{may_begin, not_begun}
use Rattle.maildir_moves.proofs.route.begin_batch.Goals as goal

pub returns-in-Ok-clause-sinks : goal.returns-in-Ok-clause-sinks
returns-in-Ok-clause-sinks g c =
    may_begin g.T.MailSink.tells g.T.MailSink.kept g.T.MailSink.unsettled g.T.MailSink.is_at g.T.MailSink.has_put g.T.MailSink.keeps_at c.args.filed.user c.args.filed.folder c.read_batch.result c.read_batch.ensures.still
    c.args.route.now.load c.read_batch.new.route.load (state g.S.Store c.args.store.now) (state g.S.Store c.read_batch.new.store) c.args.sink.now c.open.new.sink c.requires
    (subst (λ u. IsOpenFor g.T.MailSink.is_at c.args.route.now.load u c.args.filed.folder c.open.new.sink) c.as_slice-user.ensures
    (subst (λ f. IsOpenFor g.T.MailSink.is_at c.args.route.now.load c.as_slice-user.result.now f c.open.new.sink) c.as_slice-folder.ensures c.in-Ok.ensures.placed))
    c.read_batch.ensures.begins c.read_batch.ensures.of c.open.ensures.still_kept c.in-Ok.ensures.fresh c.open.ensures.same

pub returns-in-Err-clause-sinks : goal.returns-in-Err-clause-sinks
returns-in-Err-clause-sinks g c =
    not_begun g.T.MailSink.tells g.T.MailSink.kept g.T.MailSink.unsettled g.T.MailSink.is_at g.T.MailSink.has_put g.T.MailSink.keeps_at c.stay.result c.stay.ensures.still
    c.args.route.now.load c.stay.new.self.load c.args.sink.now c.open.new.sink c.requires c.stay.ensures.load c.open.ensures.still_kept c.open.ensures.same
