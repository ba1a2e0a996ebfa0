use Rattle.std.proofs.Common.{◌≡◌, ◌<◌, ◌∷◌, length, List, ap, subst, sym, rules, arith}
use Rattle.daemon_core.specs.Batches.{AreMessagesReady}
use Rattle.daemon_core.specs.Deliveries.{AwaitsEach}
use Rattle.daemon_core.specs.MailRules.{lmtp_connection_at}
use Rattle.daemon_core.specs.declared.gathered.GatheredRequest.{GatheredRequest}
use Rattle.daemon_core.proofs.DeliveriesLemmas.{ready_behind}
use Rattle.daemon_core.proofs.deliveries.+await_each.Goals as goal

pub await_each-requires : goal.await_each-requires
await_each-requires t c =
    let is : c.args.requests.now ≡ c.in-Some.first.now ∷ c.in-Some.others.now = search rules in
    let less : length c.in-Some.others.now < t = omega (arith, c.decreases, ap (λ (l : List GatheredRequest). length l) is) in
    (less, ready_behind c.args.now c.in-Some.first.now c.in-Some.others.now c.args.mail.now c.await_one.new.mail (subst (AreMessagesReady c.args.now (lmtp_connection_at c.args.mail.now)) is c.requires) c.await_one.ensures.one)
