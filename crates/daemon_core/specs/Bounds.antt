-- How many octets all connections hold, and how many they may.
use Rattle.std.specs.Prelude.{◌≡◌, ◌⊎◌, ℕ, ◌+◌, ◌-◌, ◌*◌, ◌<◌, ◌≤◌, List, [], ◌∷◌, length, Option, Some, None, false, if◌then◌else◌}
use Rattle.lmtp_dialogue.specs.Receivers.{held_by}
use Rattle.store_engine.specs.Hosts.{SessionMap}
use Rattle.lmtp_connections.specs.declared.connection.LmtpConnection.{LmtpConnection}
use Rattle.managesieve_sessions.specs.Clients.{Client}
use Rattle.daemon_core.specs.ClientStates.{client_at, has_login}
use Rattle.daemon_core.specs.declared.mail.MailDaemon.{MailDaemon}
use Rattle.daemon_core.specs.declared.client_state.ClientState.{ClientState}

-- of a client of ManageSieve: what came and isn't taken off
abbrev pub unread_of : Option Client → ℕ
unread_of None = 0
unread_of (Some client) = length client.unread

abbrev pub unread_in : SessionMap → List (ℕ × ClientState) → ℕ
unread_in sessions [] = 0
unread_in sessions (it ∷ entries) = unread_of (client_at sessions it.0) + unread_in sessions entries

-- the same, of those alone where nobody is logged in
abbrev pub unauthenticated_unread : Option Client → ℕ
unauthenticated_unread o = if has_login o then 0 else unread_of o

abbrev pub unauthenticated_in : SessionMap → List (ℕ × ClientState) → ℕ
unauthenticated_in sessions [] = 0
unauthenticated_in sessions (it ∷ entries) = unauthenticated_unread (client_at sessions it.0) + unauthenticated_in sessions entries

-- of clients of LMTP: lines, and a text
abbrev pub held_in : List (ℕ × LmtpConnection) → ℕ
held_in [] = 0
held_in (it ∷ entries) = held_by it.1.receiver + held_in entries

-- of all
abbrev pub held : MailDaemon → ℕ
held d = unread_in d.daemon.clients.sessions d.daemon.states.entries + held_in d.lmtp_connections.entries

-- the number that they may hold
abbrev pub bound : MailDaemon → ℕ
bound d = d.memory * 1024

-- how many each client may hold whatever the others do: two pieces, so a line that isn't whole and a piece
abbrev pub own : ℕ
own = 8192

-- for how many more there is room
abbrev pub octet_room : MailDaemon → ℕ
octet_room d = bound d - held d

-- how many of them clients of ManageSieve hold where nobody is logged in, and how many they may: an eighth
abbrev pub unauthenticated_held : MailDaemon → ℕ
unauthenticated_held d = unauthenticated_in d.daemon.clients.sessions d.daemon.states.entries

abbrev pub share : MailDaemon → ℕ
share d = d.memory * 128

-- nobody is logged in at a connection
abbrev pub IsUnauthenticatedAt : MailDaemon → ℕ → Type 0
IsUnauthenticatedAt d id = has_login (client_at d.daemon.clients.sessions id) ≡ false

-- with this many octets more of a client of ManageSieve all hold what they may, and if nobody is logged in there, so do all such clients
pub record KeepsBound (d : MailDaemon) (id count : ℕ) : Type 0 where
  pub all : held d + count ≤ bound d
  pub unauthenticated_held : IsUnauthenticatedAt d id → unauthenticated_held d + count ≤ share d

-- this many more of it fit: then, and if it holds no more with them than each may
abbrev pub FitsClient : MailDaemon → ℕ → ℕ → Type 0
FitsClient d id count = KeepsBound d id count ⊎ (unread_of (client_at d.daemon.clients.sessions id) + count ≤ own)

-- they don't: it holds more than each may, and all hold more than they may, or such clients do, and it is one
pub record PassesBound (d : MailDaemon) (id count : ℕ) : Type 0 where
  pub its : own < unread_of (client_at d.daemon.clients.sessions id) + count
  pub all : (bound d < held d + count) ⊎ (IsUnauthenticatedAt d id × (share d < unauthenticated_held d + count))
