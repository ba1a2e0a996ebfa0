-- A store that was given back is offered by the tables.
use Rattle.std.proofs.Common.{refl, subst}
use Rattle.daemon_host.specs.Held.{IsCleanBy}
use Rattle.daemon_host.proofs.HeldLemmas.{mail_stays, still_given}
use Rattle.daemon_host.proofs.host_store.HostStoreMailStore.give_back.Goals as goal

pub returns-clause-shown : goal.returns-clause-shown
returns-clause-shown g c clean =
    let gives = c.give_back.ensures.given in
    still_given g.K.S.Store g.K.Keeper.tells g.K.Keeper.holds (λ held told. (g.met.K.Keeper.sure held told).1) c.args.self.now.held c.give_back.new.self gives c.take_close_error.new.self c.take_close_error.ensures.same
    (subst (λ o. IsCleanBy g.K.S.Store g.K.Keeper.tells o) gives.emptied clean)

pub returns-clause-mail : goal.returns-clause-mail
returns-clause-mail g c = mail_stays g.T.MailSink.tells g.T.MailSink.kept g.T.MailSink.is_at g.T.MailSink.has_put g.T.MailSink.keeps_at c.args.self.now _ refl refl
