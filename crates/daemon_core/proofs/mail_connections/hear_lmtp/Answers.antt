use Rattle.std.proofs.Common.{◌≡◌, None, option_map, length, ap, refl, rules}
use Rattle.std.specs.Ordering.{nat_cmp}
use Rattle.std.specs.BTreeMap as tree
use Rattle.managesieve_sessions.specs.Counts.{SessionView}
use Rattle.daemon_core.specs.MailRules.{Fits}
use Rattle.daemon_core.proofs.BoundLemmas.{kept_connections, takes_behind, lacks_behind}
use Rattle.daemon_core.proofs.EventLemmas.{ok_then, err_then}
use Rattle.daemon_core.proofs.mail_connections.hear_lmtp.Goals as goal

pub returns-clause-ok : goal.returns-clause-ok
returns-clause-ok c =
    let d = c.args.mail.now in
    let m = c.fit.new.mail in
    let e = c.take_piece.new.mail in
    let fits : Fits d c.args.id (length c.args.piece.now) m = search rules in
    let none : tree.get nat_cmp d.daemon.clients.sessions c.args.id ≡ None = search rules in
    ok_then c.take_piece.result c.take_piece.ensures.ok (λ takes.
    let all = takes_behind d m e c.args.now c.args.id c.args.piece.now (kept_connections d c.args.id (length c.args.piece.now) m fits.text) takes in
    record {
      silent = refl;
      before = all.before;
      was = all.was;
      other = ap (λ o. option_map (λ (s : SessionView). s.client) o) none;
      after = all.after;
      hears = all.hears;
      lmtp_connections = all.lmtp_connections;
      daemon = all.daemon;
      host = all.host;
      fitted = m;
      fits = fits;
      takes = takes;
    })

pub returns-clause-err : goal.returns-clause-err
returns-clause-err c =
    let d = c.args.mail.now in
    let m = c.fit.new.mail in
    let fits : Fits d c.args.id (length c.args.piece.now) m = search rules in
    err_then c.take_piece.result c.take_piece.ensures.err (λ lacks. lacks_behind d m c.take_piece.new.mail c.args.id (kept_connections d c.args.id (length c.args.piece.now) m fits.text) lacks)
