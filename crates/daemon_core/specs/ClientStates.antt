-- What the daemon wants of a connection, by which moment it is late, and what it knows of it after each act.
use Rattle.std.specs.Prelude.{ℕ, ◌-◌, ◌^◌, ◌==◌, Bool, true, false, List, length, Option, Some, None, is_some, option_map, if◌then◌else◌}
use Rattle.std.specs.Ordering.{nat_cmp}
use Rattle.std.specs.BTreeMap as tree
use Rattle.managesieve_sessions.specs.Clients.{Client, is_ready}
use Rattle.store_engine.specs.Hosts.{SessionMap}
use Rattle.store_engine.specs.declared.answer.Answer.{Answer}
use Rattle.store_engine.specs.declared.answer.Answer.TheVariants.{Out}
use Rattle.net_loop.specs.Talk.{after_span}
use Rattle.net_loop.specs.declared.machine.Want.{Want}
use Rattle.net_loop.specs.declared.machine.Want.TheVariants.{More, Step, Until, Done}
use Rattle.daemon_core.specs.Waiting.{waits_behind}
use Rattle.daemon_core.specs.declared.note.Note.{Note}
use Rattle.daemon_core.specs.declared.note.Note.TheVariants.{Did, Freed, Spoke, Answered}
use Rattle.daemon_core.specs.declared.client_state.Fit.{Fit}
use Rattle.daemon_core.specs.declared.client_state.Fit.TheVariants as fit
use Rattle.daemon_core.specs.declared.client_state.ClientState.{ClientState}
use Rattle.daemon_core.specs.declared.client_state.SessionWait.{SessionWait}
use Rattle.daemon_core.specs.declared.client_state.SessionWait.TheVariants as waits

-- the session under a number, as contracts see it
abbrev pub client_at : SessionMap → ℕ → Option Client
client_at kept id = option_map (λ session. session.client) (tree.get nat_cmp kept id)

-- ---- what is wanted

-- a session that has ended nothing more; one with a whole item a step; any other octets
abbrev pub want_of_session : Client → Want
want_of_session c = if c.closed then Done else if is_ready c then Step else More

-- if there was no room for what it sent, a step in which it is told so, and then nothing more
abbrev pub want_in : Fit → Client → Want
want_in fit.Fits c = want_of_session c
want_in fit.Over c = Step
want_in fit.Told c = Done

abbrev pub session_want_by : SessionWait → Fit → Client → Want
session_want_by waits.Nothing whether c = want_in whether c
session_want_by (waits.Store since again) whether c = Until again
session_want_by waits.Refused whether c = Step
session_want_by (waits.Reply until text) whether c = Until until

abbrev pub want_of : Option ClientState → Option Client → Want
want_of (Some state) (Some c) = session_want_by state.waits state.fit c
want_of _ _ = Done

-- ---- when it is late

-- how many milliseconds there are for a login in all, for a command from its first octet on, and for a client that is logged in and
-- says nothing (RFC 5804, 1.2)
abbrev pub max_login : ℕ
max_login = 60000

abbrev pub max_command : ℕ
max_command = 300000

abbrev pub max_user_silence : ℕ
max_user_silence = 1800000

-- of one that waits for something else nothing is owed: that wait has an end of its own
abbrev pub never : ℕ
never = 2 ^ 64 - 1

-- one that is logged in owes the rest of what it began, or now and then a command
abbrev pub due_of_user : ℕ → List ℕ → ℕ
due_of_user since unread = if length unread == 0 then after_span since max_user_silence else after_span since max_command

abbrev pub due_of_session : ClientState → Option (List ℕ) → List ℕ → ℕ
due_of_session state None unread = after_span state.unauthenticated_since max_login
due_of_session state (Some user) unread = due_of_user state.since unread

abbrev pub session_due_by : SessionWait → ClientState → Client → ℕ
session_due_by waits.Nothing state c = due_of_session state c.user c.unread
session_due_by _ state c = never

abbrev pub due_of : Option ClientState → Option Client → ℕ
due_of (Some state) (Some c) = session_due_by state.waits state c
due_of _ _ = never

-- ---- what is known of it

-- one that has just come
abbrev pub new_client_state : ℕ → ClientState
new_client_state now = record { waits = waits.Nothing; unauthenticated_since = now; since = now; fit = fit.Fits }

-- octets came: if nothing was unread they begin what comes next; and whether there was room for them
abbrev pub begun : ℕ → ClientState → Bool → Fit → ClientState
begun now state begins fits = record { waits = state.waits; unauthenticated_since = state.unauthenticated_since; since = if begins then now else state.since; fit = fits }

abbrev pub state_given : ℕ → ClientState → Client → Fit → ClientState
state_given now state c fits = begun now state (length c.unread == 0) fits

-- what is waited for changes: `answered`, if the next command is counted from now on; `user`, if somebody is logged in, who
-- isn't any more from now on at the earliest
abbrev pub state_renewed : ℕ → ClientState → SessionWait → Bool → Bool → ClientState
state_renewed now state w answered user =
    record { waits = w; unauthenticated_since = if user then now else state.unauthenticated_since; since = if answered then now else state.since; fit = state.fit }

abbrev pub is_out : Answer → Bool
is_out (Out progress octets) = true
is_out _ = false

abbrev pub is_answered : Note → Bool
is_answered (Did others event answer) = is_out answer
is_answered (Freed event answer) = is_out answer
is_answered Spoke = true
is_answered _ = false

abbrev pub has_login : Option Client → Bool
has_login None = false
has_login (Some c) = is_some c.user

abbrev pub fit_behind : Fit → Note → Fit
fit_behind whether Answered = fit.Told
fit_behind whether _ = whether

-- after a note, with the session that is there then
abbrev pub state_behind : ℕ → ClientState → Note → Option Client → ClientState
state_behind now state note c = record (state_renewed now state (waits_behind now state.waits note) (is_answered note) (has_login c)) { fit = fit_behind state.fit note }

-- after one that says that there was no room
abbrev pub state_told : ℕ → ClientState → Bool → ClientState
state_told now state user = record (state_renewed now state waits.Nothing false user) { fit = fit.Told }
