use Rattle.std.proofs.Common.{◌≡◌, Some, refl, rules}
use Rattle.std.specs.Ordering.{nat_cmp}
use Rattle.std.specs.BTreeMap as tree
use Rattle.daemon_core.specs.MailRules.{lmtp_connection_at}
use Rattle.daemon_core.proofs.mail_connections.drop_text.Goals as goal

pub returns-clause-drops : goal.returns-clause-drops
returns-clause-drops c = λ _.
    let was : lmtp_connection_at c.args.mail.now c.args.id ≡ Some c.in-Some.connection.now = search rules in
    let put : tree.Updates nat_cmp c.args.mail.now.lmtp_connections (c.get_mut.follows.lender c.drop_text.new.self) c.args.id (Some c.drop_text.new.self) = search rules in
    record {
      before = c.in-Some.connection.now;
      was = was;
      after = c.drop_text.new.self;
      keeps = c.drop_text.ensures.keeps;
      held = c.drop_text.ensures.held;
      dropped = c.drop_text.ensures.dropped;
      lmtp_connections = put.0;
      daemon = refl;
      host = record { names = refl; host = refl; memory = refl; places = refl };
    }
