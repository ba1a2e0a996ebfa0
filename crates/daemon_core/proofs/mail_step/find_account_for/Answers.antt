use Rattle.std.proofs.Common.{Some, subst}
use Rattle.daemon_core.specs.StoreAccess.{FindsAccount, access_state}
use Rattle.daemon_core.proofs.LmtpStepLemmas.{asks_account, asked, unasked}
use Rattle.daemon_core.proofs.mail_step.find_account_for.Goals as goal

pub returns-in-Some-clause-does : goal.returns-in-Some-clause-does
returns-in-Some-clause-does g c = λ spare.
    let looks : FindsAccount g.O.Outside.told g.O.StoreAccess.store c.args.id c.args.question.user (access_state c.args.outside.now c.args.daemon.now.clients.sessions) (Some c.in-Some.lookup) (access_state c.find_account.new.self c.find_account.new.clients.sessions) =
    subst (λ u. FindsAccount g.O.Outside.told g.O.StoreAccess.store c.args.id u (access_state c.args.outside.now c.args.daemon.now.clients.sessions) (Some c.in-Some.lookup) (access_state c.find_account.new.self c.find_account.new.clients.sessions))
    c.as_slice.ensures c.in-Some.ensures.asks in
    asked g.O.Outside.told g.O.StoreAccess.store g.met.O.StoreAccess.sure c.args.outside.now c.find_account.new.self c.args.daemon.now c.find_account.new.clients c.args.now c.args.id c.answer_recipient.result
    c.args.connection.now c.answer_recipient.new.self spare c.answer_recipient.ensures.held c.args.question.user c.in-Some.lookup looks c.answer_recipient.ensures.does c.asked_at-daemon.result c.asked_at-daemon.ensures

pub returns-in-None-clause-does : goal.returns-in-None-clause-does
returns-in-None-clause-does g c = λ spare.
    unasked g.O.Outside.told g.O.StoreAccess.store g.met.O.StoreAccess.sure c.args.outside.now c.find_account.new.self c.args.daemon.now c.find_account.new.clients c.args.now c.args.id c.new.result
    c.args.connection.now c.await_store.new.self spare c.await_store.ensures.held c.as_slice.result.now c.in-None.ensures.asks (rw c.new.ensures c.await_store.ensures.does)

pub await_store-requires : goal.await_store-requires
await_store-requires g c = asks_account c.args.now c.args.connection.now c.args.question c.requires.asked
