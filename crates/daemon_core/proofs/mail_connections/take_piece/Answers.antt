use Rattle.std.proofs.Common.{◌≡◌, ◌∙◌, Some, refl, sym, rules}
use Rattle.std.specs.Ordering.{nat_cmp}
use Rattle.std.specs.BTreeMap as tree
use Rattle.lmtp_connections.specs.Stands.{ConnectionHears}
use Rattle.daemon_core.specs.MailRules.{lmtp_connection_at}
use Rattle.daemon_core.proofs.EventLemmas.{went_well}
use Rattle.daemon_core.proofs.mail_connections.take_piece.Goals as goal

pub returns-clause-ok : goal.returns-clause-ok
returns-clause-ok c =
    let was : lmtp_connection_at c.args.mail.now c.args.id ≡ Some c.in-Some.connection.now = search rules in
    let put : tree.Updates nat_cmp c.args.mail.now.lmtp_connections (c.get_mut.follows.lender c.hear.new.self) c.args.id (Some c.hear.new.self) = search rules in
    let hears : ConnectionHears c.args.now c.args.piece.now c.in-Some.connection.now c.hear.new.self = went_well c.hear.result (sym c.is_err.ensures.value ∙ c.if-is_err.false) c.hear.ensures.hears in
    record {
      before = c.in-Some.connection.now;
      was = was;
      after = c.hear.new.self;
      hears = hears;
      held = c.hear.ensures.held;
      lmtp_connections = put.0;
      daemon = refl;
      host = record { names = refl; host = refl; memory = refl; places = refl };
    }
