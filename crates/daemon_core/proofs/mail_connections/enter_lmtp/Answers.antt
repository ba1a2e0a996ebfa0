use Rattle.std.proofs.Common.{◌∙◌, Some, ap, refl, sym, subst}
use Rattle.std.specs.Ordering.{nat_cmp}
use Rattle.std.specs.BTreeMap as tree
use Rattle.lmtp_dialogue.specs.Replies.{lmtp_greeting}
use Rattle.lmtp_connections.specs.Connections.{new_lmtp_state}
use Rattle.lmtp_connections.specs.Stands.{ConnectionStands}
use Rattle.daemon_core.proofs.EventLemmas.{went_well}
use Rattle.daemon_core.proofs.mail_connections.enter_lmtp.Goals as goal

pub returns-clause-ok : goal.returns-clause-ok
returns-clause-ok c =
    let m = c.args.mail.now in
    let put : tree.Updates nat_cmp m.lmtp_connections c.insert.new.self c.args.id (Some c.in-Ok.connection) = went_well c.insert.result (sym c.is_err.ensures.value ∙ c.if-is_err.false) c.insert.ensures.updates in
    record {
      says = c.in-Ok.ensures.greets ∙ ap lmtp_greeting c.as_slice.ensures;
      connection = c.in-Ok.connection;
      begins = subst (λ h. ConnectionStands c.in-Ok.connection (new_lmtp_state m.names h c.args.now)) c.as_slice.ensures c.in-Ok.ensures.begins;
      empty = c.in-Ok.ensures.empty;
      lmtp_connections = put.0;
      daemon = c.forget.ensures;
      host = record { names = refl; host = refl; memory = refl; places = refl };
    }
