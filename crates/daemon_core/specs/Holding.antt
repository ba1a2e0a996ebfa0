-- What all connections hold at any time.
use Rattle.std.specs.Prelude.{ℕ, zero, suc, ◌+◌, ◌-◌, ◌≤◌, Option, Some, None}
use Rattle.lmtp_dialogue.specs.Receivers.{held_by}
use Rattle.lmtp_connections.specs.declared.connection.LmtpConnection.{LmtpConnection}
use Rattle.managesieve_sessions.specs.Clients.{Client}
use Rattle.net_loop.specs.Told.{largest_piece}
use Rattle.daemon_core.specs.Bounds.{unread_of, bound, own}
use Rattle.daemon_core.specs.DaemonRules.{client_state_at}
use Rattle.daemon_core.specs.MailRules.{lmtp_connection_at}
use Rattle.daemon_core.specs.ClientStates.{client_at}
use Rattle.daemon_core.specs.declared.mail.MailDaemon.{MailDaemon}
use Rattle.daemon_core.specs.declared.client_state.Fit.{Fit}
use Rattle.daemon_core.specs.declared.client_state.Fit.TheVariants as fit
use Rattle.daemon_core.specs.declared.client_state.ClientState.{ClientState}

-- the sum of the values at all numbers below one
abbrev pub sum_below : ℕ → (ℕ → ℕ) → ℕ
sum_below zero f = 0
sum_below (suc n) f = f n + sum_below n f

-- what a client of ManageSieve holds beyond what each may; but for a piece if there was no room for the last one
abbrev pub firm_by : Fit → ℕ → ℕ
firm_by fit.Fits count = count - own
firm_by fit.Over count = count - (own + largest_piece)
firm_by fit.Told count = count - (own + largest_piece)

-- of a session for which memory was lacking nothing is counted: it ends next
abbrev pub firm_client : Option ClientState → Option Client → ℕ
firm_client None o = 0
firm_client (Some state) o = firm_by state.fit (unread_of o)

-- what one of LMTP does
abbrev pub firm_connection : Option LmtpConnection → ℕ
firm_connection None = 0
firm_connection (Some connection) = held_by connection.receiver - own

-- what the connection of a number does
abbrev pub firm_at : MailDaemon → ℕ → ℕ
firm_at d id = firm_client (client_state_at d.daemon id) (client_at d.daemon.clients.sessions id) + firm_connection (lmtp_connection_at d id)

-- all together hold what they may, but for what each may hold whatever the others do, and a piece of each client of ManageSieve for whose
-- last octets there was no room
abbrev pub IsBounded : MailDaemon → Type 0
IsBounded d = (count : ℕ) → sum_below count (firm_at d) ≤ bound d
