use Rattle.std.proofs.Common.{◌≡◌, Some, inl, refl, subst, rules}
use Rattle.std.specs.Ordering.{nat_cmp}
use Rattle.std.specs.BTreeMap as tree
use Rattle.daemon_core.specs.Bounds.{octet_room}
use Rattle.daemon_core.specs.LmtpSteps.{DoesOne}
use Rattle.daemon_core.specs.MailRules.{lmtp_connection_at}
use Rattle.daemon_core.proofs.mail_step.step_lmtp.Goals as goal

pub returns-in-Ok-clause-ok : goal.returns-in-Ok-clause-ok
returns-in-Ok-clause-ok g c = λ tell.
    let one = c.in-Ok.ensures.ok tell in
    let was : lmtp_connection_at c.args.mail.now c.args.id ≡ Some c.in-Some.connection.now = search rules in
    let put : tree.Updates nat_cmp c.args.mail.now.lmtp_connections (c.get_mut.follows.lender c.do_next.new.connection) c.args.id (Some c.do_next.new.connection) = search rules in
    let does : DoesOne g.O.StoreAccess.store.view (octet_room c.args.mail.now) c.args.mail.now.daemon (g.O.Outside.told.rest c.args.outside.now) c.in-Some.connection.now c.args.now one.0 c.do_next.new.out c.do_next.new.daemon
    (g.O.Outside.told.rest c.do_next.new.outside) c.do_next.new.connection =
    subst (λ n. DoesOne g.O.StoreAccess.store.view n c.args.mail.now.daemon (g.O.Outside.told.rest c.args.outside.now) c.in-Some.connection.now c.args.now one.0 c.do_next.new.out c.do_next.new.daemon (g.O.Outside.told.rest c.do_next.new.outside) c.do_next.new.connection)
    c.room-spare.ensures one.2 in
    record {
      note = one.0;
      grows = one.1;
      steps = inl (record { before = c.in-Some.connection.now; was = was; after = c.do_next.new.connection; does = does; lmtp_connections = put.0; host = record { names = refl; host = refl; memory = refl; places = refl } });
    }
