-- A store that was taken shows what the tables offered.
use Rattle.std.proofs.Common.{refl}
use Rattle.daemon_host.proofs.HeldLemmas.{mail_stays, still_taken}
use Rattle.daemon_host.proofs.host_store.HostStoreMailStore.take.Goals as goal

pub returns-clause-shown : goal.returns-clause-shown
returns-clause-shown g c = still_taken g.K.S.Store g.K.Keeper.tells g.K.Keeper.holds c.args.self.now.held c.take.new.self c.take.ensures.taken

pub returns-clause-mail : goal.returns-clause-mail
returns-clause-mail g c = mail_stays g.T.MailSink.tells g.T.MailSink.kept g.T.MailSink.is_at g.T.MailSink.has_put g.T.MailSink.keeps_at c.args.self.now _ refl refl
