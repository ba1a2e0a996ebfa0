-- Who claims to go when another one of its kind wants its place, and all are taken.
use Rattle.std.specs.Prelude.{ℕ, ◌+◌, ◌-◌, ◌*◌, ◌/◌, max, ◌==◌, nat_le, Bool, true, false, if◌then◌else◌, List, [], ◌∷◌, Option, Some, None, is_some}
use Rattle.managesieve_sessions.specs.Clients.{Client, has_failed}
use Rattle.lmtp_connections.specs.Stands.{owed_since, has_said_hello}
use Rattle.lmtp_connections.specs.declared.connection.LmtpConnection.{LmtpConnection}
use Rattle.net_loop.specs.Talk.{after_span}
use Rattle.net_loop.specs.declared.machine.Claim.{Claim}
use Rattle.net_loop.specs.declared.machine.Want.{Want}
use Rattle.net_loop.specs.declared.machine.Want.TheVariants.{More, Step, Wait, Until, Done}
use Rattle.daemon_core.specs.ClientStates.{session_want_by, has_login, never}
use Rattle.daemon_core.specs.Waiting.{login_delay}
use Rattle.daemon_core.specs.declared.client_state.ClientState.{ClientState}
use Rattle.daemon_core.specs.declared.client_state.SessionWait.{SessionWait}
use Rattle.daemon_core.specs.declared.client_state.SessionWait.TheVariants as waits

-- ---- for how long one is left alone, in milliseconds

-- a client of ManageSieve that isn't logged in since it came, and a client of LMTP that hasn't said LHLO, when many haven't
abbrev pub first_span : ℕ
first_span = 50

-- any other client of LMTP, since it has no recipient that was taken
abbrev pub sender_span : ℕ
sender_span = 1000

-- how many are many, of this many places: three quarters of them, rounded down, and at least one
abbrev pub many_silent : ℕ → ℕ
many_silent senders = max 1 (senders * 3 / 4)

-- one that waits for the answer to a login that failed, since then
abbrev pub kept_span : ℕ
kept_span = 500

-- ---- ranks: who failed a login goes before the others, and who waits for the answer to one goes last

abbrev pub failed_rank : ℕ
failed_rank = 0

abbrev pub silent_rank : ℕ
silent_rank = 1

abbrev pub kept_rank : ℕ
kept_rank = 2

-- ---- claims

-- one that owes octets claims the moment since which it does, once this many milliseconds have passed since
abbrev pub owed_claim : ℕ → ℕ → ℕ → ℕ → Option Claim
owed_claim now span rank since = if nat_le (after_span since span) now then Some (record { rank = rank; moment = since }) else None

-- of those to whom the answer to a login is owed the one goes first that would hear it last
abbrev pub kept_claim : ℕ → ℕ → Option Claim
kept_claim now until =
    if nat_le until (after_span now (login_delay - kept_span)) then Some (record { rank = kept_rank; moment = never - until }) else None

abbrev pub unauthenticated_rank : Client → ℕ
unauthenticated_rank c = if has_failed c then failed_rank else silent_rank

-- to any other an answer is owed
abbrev pub want_claim : ℕ → Want → ℕ → ℕ → Option Claim
want_claim now More rank since = owed_claim now first_span rank since
want_claim now Step rank since = None
want_claim now Wait rank since = None
want_claim now (Until moment) rank since = None
want_claim now Done rank since = None

abbrev pub waits_claim : ℕ → SessionWait → ClientState → Client → Option Claim
waits_claim now (waits.Reply until text) state c = kept_claim now until
waits_claim now w state c = want_claim now (session_want_by state.waits state.fit c) (unauthenticated_rank c) state.unauthenticated_since

-- a client of ManageSieve; who is logged in stays
abbrev pub unauthenticated_claim : ℕ → Option ClientState → Option Client → Option Claim
unauthenticated_claim now (Some state) (Some c) = if is_some c.user then None else waits_claim now state.waits state c
unauthenticated_claim now _ _ = None

-- how many clients of LMTP haven't said LHLO
abbrev pub silent_by : Bool → ℕ
silent_by hello = if hello then 0 else 1

abbrev pub silent_in : List (ℕ × LmtpConnection) → ℕ
silent_in [] = 0
silent_in (it ∷ entries) = silent_by (has_said_hello it.1) + silent_in entries

-- of this many places those of clients that haven't are many
abbrev pub is_flooded : ℕ → List (ℕ × LmtpConnection) → Bool
is_flooded senders entries = (many_silent senders - silent_in entries) == 0

abbrev pub silence_span : Bool → Bool → ℕ
silence_span true flooded = sender_span
silence_span false flooded = if flooded then first_span else sender_span

abbrev pub since_claim : ℕ → ℕ → Option ℕ → Option Claim
since_claim now span None = None
since_claim now span (Some since) = owed_claim now span silent_rank since

-- a client of LMTP that owes octets while no recipient of its is taken; none that has a session
abbrev pub sender_claim : ℕ → Bool → Option Client → LmtpConnection → Option Claim
sender_claim now flooded o connection = if has_login o then None else since_claim now (silence_span (has_said_hello connection) flooded) (owed_since connection)

-- either, by what is known of it
abbrev pub claim_by_kind : ℕ → Bool → Option LmtpConnection → Option ClientState → Option Client → Option Claim
claim_by_kind now flooded (Some connection) state o = sender_claim now flooded o connection
claim_by_kind now flooded None state o = unauthenticated_claim now state o
