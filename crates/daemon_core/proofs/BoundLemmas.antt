-- What all hold, counted off what they may.
use Rattle.std.proofs.Common.{◌≡◌, ◌∙◌, inl, inr, ℕ, ◌+◌, ◌-◌, ◌≤◌, length, true, cond, List, [], ◌∷◌, Option, Some, None, sym, ap, subst, arith}
use Rattle.std.specs.Cmp.{eq_by_cmp_equiv, nat_cmp_total}
use Rattle.lmtp_dialogue.specs.Receivers.{held_by}
use Rattle.store_engine.specs.Hosts.{SessionMap}
use Rattle.lmtp_connections.specs.Stands.{ConnectionKeeps, ConnectionHears, ConnectionHoldsNoMore}
use Rattle.lmtp_connections.specs.declared.connection.LmtpConnection.{LmtpConnection}
use Rattle.net_loop.specs.Talk.{is_same_id}
use Rattle.daemon_core.specs.Bounds.{unread_of, unread_in, unauthenticated_unread, unauthenticated_in, held_in}
use Rattle.daemon_core.specs.DaemonRules.{LacksFor}
use Rattle.daemon_core.specs.MailRules.{lmtp_connection_at, ChangesLmtpConnection, SameHost, KeepsText, KeepsLmtpConnections, TakesPiece, LacksBy}
use Rattle.daemon_core.specs.ClientStates.{client_at}
use Rattle.daemon_core.specs.declared.daemon.Daemon.{Daemon}
use Rattle.daemon_core.specs.declared.mail.MailDaemon.{MailDaemon}
use Rattle.daemon_core.specs.declared.client_state.ClientState.{ClientState}
use Rattle.daemon_core.proofs.EventLemmas.{twice_by}

-- ---- one connection after another is counted off

abbrev pub less_unread : SessionMap → ℕ → List (ℕ × ClientState) → ℕ
less_unread sessions left [] = left
less_unread sessions left (it ∷ entries) = less_unread sessions (left - unread_of (client_at sessions it.0)) entries

abbrev pub less_unauthenticated : SessionMap → ℕ → List (ℕ × ClientState) → ℕ
less_unauthenticated sessions left [] = left
less_unauthenticated sessions left (it ∷ entries) = less_unauthenticated sessions (left - unauthenticated_unread (client_at sessions it.0)) entries

abbrev pub less_held : ℕ → List (ℕ × LmtpConnection) → ℕ
less_held left [] = left
less_held left (it ∷ entries) = less_held (left - held_by it.1.receiver) entries

two_off : (left one more : ℕ) → left - one - more ≡ left - (one + more)
two_off left one more = omega arith

pub all_unread : (sessions : SessionMap) (left : ℕ) (entries : List (ℕ × ClientState)) → less_unread sessions left entries ≡ left - unread_in sessions entries
all_unread sessions left [] = omega arith
all_unread sessions left (it ∷ entries) =
    all_unread sessions (left - unread_of (client_at sessions it.0)) entries ∙ two_off left (unread_of (client_at sessions it.0)) (unread_in sessions entries)

pub all_unauthenticated : (sessions : SessionMap) (left : ℕ) (entries : List (ℕ × ClientState)) → less_unauthenticated sessions left entries ≡ left - unauthenticated_in sessions entries
all_unauthenticated sessions left [] = omega arith
all_unauthenticated sessions left (it ∷ entries) =
    all_unauthenticated sessions (left - unauthenticated_unread (client_at sessions it.0)) entries ∙ two_off left (unauthenticated_unread (client_at sessions it.0)) (unauthenticated_in sessions entries)

pub all_held : (left : ℕ) (entries : List (ℕ × LmtpConnection)) → less_held left entries ≡ left - held_in entries
all_held left [] = omega arith
all_held left (it ∷ entries) = all_held (left - held_by it.1.receiver) entries ∙ two_off left (held_by it.1.receiver) (held_in entries)

-- ---- a text that is dropped, and then octets that come

hosts : (d m e : MailDaemon) → SameHost d m → SameHost m e → SameHost d e
hosts d m e one two = record { names = two.names ∙ one.names; host = two.host ∙ one.host; memory = two.memory ∙ one.memory; places = two.places ∙ one.places }

connections_over : (d m e : MailDaemon) (id : ℕ) (x y : Option LmtpConnection) → ChangesLmtpConnection d id x m → ChangesLmtpConnection m id y e → ChangesLmtpConnection d id y e
connections_over d m e id x y one two = λ other. two other ∙ (ap (λ p. cond (is_same_id id other) y p) (one other) ∙ twice_by (is_same_id id other) x y (lmtp_connection_at d other))

-- where memory is lacking behind that it is as before it
pub lacks_behind : (d m e : MailDaemon) (id : ℕ) → KeepsLmtpConnections d id m → LacksBy m id e → LacksBy d id e
lacks_behind d m e id (inl is) lacks = subst (λ (x : MailDaemon). LacksBy x id e) is lacks
lacks_behind d m e id (inr drops) lacks = record {
  lacks = subst (λ (x : Daemon). LacksFor x id e.daemon) drops.daemon lacks.lacks;
  lmtp_connections = connections_over d m e id (Some drops.after) None drops.lmtp_connections lacks.lmtp_connections;
  host = hosts d m e drops.host lacks.host;
}

pub kept_connections : (d : MailDaemon) (id count : ℕ) (m : MailDaemon) → KeepsText d id count m → KeepsLmtpConnections d id m
kept_connections d id count m (inl is) = inl is.1
kept_connections d id count m (inr is) = inr is.1

heard_over : (now : ℕ) (piece : List ℕ) (before mid after : LmtpConnection) → ConnectionKeeps before mid → ConnectionHears now piece mid after → ConnectionHears now piece before after
heard_over now piece before mid after keeps hears = λ p stands. hears p (keeps p stands)

held_over : (before mid after : LmtpConnection) (count : ℕ) → ConnectionHoldsNoMore before mid → held_by after.receiver ≤ held_by mid.receiver + count → held_by after.receiver ≤ held_by before.receiver + count
held_over before mid after count less more = omega (arith, less, more)

-- what is heard behind that is heard
pub takes_behind : (d m e : MailDaemon) (now id : ℕ) (piece : List ℕ) → KeepsLmtpConnections d id m → TakesPiece m now id piece e → TakesPiece d now id piece e
takes_behind d m e now id piece (inl is) takes = subst (λ (x : MailDaemon). TakesPiece x now id piece e) is takes
takes_behind d m e now id piece (inr drops) takes =
    let itself : is_same_id id id ≡ true = (eq_by_cmp_equiv nat_cmp_total).refl id in
    let one : drops.after ≡ takes.before =
    let there : Some drops.after ≡ Some takes.before = sym (drops.lmtp_connections id ∙ ap (λ b. cond b (Some drops.after) (lmtp_connection_at d id)) itself) ∙ takes.was in cc in
    record {
      before = drops.before;
      was = drops.was;
      after = takes.after;
      hears = heard_over now piece drops.before takes.before takes.after (subst (λ (x : LmtpConnection). ConnectionKeeps drops.before x) one drops.keeps) takes.hears;
      held = held_over drops.before takes.before takes.after (length piece) (subst (λ (x : LmtpConnection). ConnectionHoldsNoMore drops.before x) one drops.held) takes.held;
      lmtp_connections = connections_over d m e id (Some drops.after) (Some takes.after) drops.lmtp_connections takes.lmtp_connections;
      daemon = takes.daemon ∙ drops.daemon;
      host = hosts d m e drops.host takes.host;
    }
