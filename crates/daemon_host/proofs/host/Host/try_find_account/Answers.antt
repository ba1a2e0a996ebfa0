-- What was found in the store that was reached, behind calls that changed no account, where that store is had still.
use Rattle.std.proofs.Common.{Some, subst, sym}
use Rattle.daemon_core.proofs.StillLemmas.{still_then}
use Rattle.daemon_host.specs.Held.{HostFinds}
use Rattle.daemon_host.proofs.HeldLemmas.{found_behind}
use Rattle.daemon_host.proofs.host.Host.try_find_account.Goals as goal

pub returns-clause-seeks : goal.returns-clause-seeks
returns-clause-seeks g c = λ clean.
    let view = g.H.MailStore.view in
    let kept = c.is_kept-kept.ensures.kept clean in
    let own = subst g.H.MailStore.clean kept.1 clean in
    let finds : HostFinds view g.H.MailStore.clean c.args.user.now (Some c.in_ok-lookup.lookup) c.args.self.now.held c.find_account.new.self = λ clean.
    found_behind view c.args.self.now.held c.reach.new.self.held c.find_account.new.self c.args.user.now c.in_ok-lookup.lookup
    (still_then view c.args.self.now.held c.may_ask.new.self.held c.reach.new.self.held c.may_ask.ensures.shown c.reach.ensures.shown) (c.in_ok-lookup.ensures.seeks clean) in
    subst (λ held. HostFinds view g.H.MailStore.clean c.args.user.now (Some c.lookup_if_kept.result) c.args.self.now.held held) (sym kept.1)
    (subst (λ lookup. HostFinds view g.H.MailStore.clean c.args.user.now (Some lookup) c.args.self.now.held c.find_account.new.self) (sym (c.lookup_if_kept.ensures.same kept.0)) finds) clean
