-- The sink and the route are as they were.
use Rattle.std.proofs.Common.{refl}
use Rattle.daemon_host.proofs.HeldLemmas.{mail_stays}
use Rattle.daemon_host.proofs.host_store.HostStoreMailStore.is_awaited.Goals as goal

pub returns-clause-mail : goal.returns-clause-mail
returns-clause-mail g c = mail_stays g.T.MailSink.tells g.T.MailSink.kept g.T.MailSink.is_at g.T.MailSink.has_put g.T.MailSink.keeps_at c.args.self.now _ refl refl
