-- What a connection waits for, what may be done for it then, and what is said.
use Rattle.std.specs.Prelude.{◌≡◌, ℕ, ◌+◌, ◌≤◌, ◌<◌, nat_eq, Bool, ◌||◌, List, [], Some, None, if◌then◌else◌, codes}
use Rattle.std.specs.Cmp.Lexicographic.{pointwise}
use Rattle.managesieve_protocol.specs.Replies.{reply_octets}
use Rattle.managesieve_protocol.specs.declared.replies.ReplyCode.TheVariants as code
use Rattle.managesieve_protocol.specs.declared.replies.Status.TheVariants.{Bye}
use Rattle.managesieve_sessions.specs.Replies.{negative_reply, bye_reply, capability_reply}
use Rattle.store_engine.specs.Hosts.{IsMade}
use Rattle.store_engine.specs.declared.answer.Answer.{Answer}
use Rattle.store_engine.specs.declared.answer.Answer.TheVariants.{Out, Refused}
use Rattle.store_engine.specs.declared.event.Event.{Event}
use Rattle.store_engine.specs.declared.event.Event.TheVariants.{Step, GiveUp}
use Rattle.net_loop.specs.Talk.{after_span}
use Rattle.daemon_core.specs.declared.note.Note.{Note}
use Rattle.daemon_core.specs.declared.note.Note.TheVariants.{Did, Away, Freed, Spoke, Answered}
use Rattle.daemon_core.specs.declared.client_state.SessionWait.{SessionWait}
use Rattle.daemon_core.specs.declared.client_state.SessionWait.TheVariants as waits

-- for how many milliseconds the answer to a login that failed is kept back
abbrev pub login_delay : ℕ
login_delay = 2000

-- after how many milliseconds the store is asked for again, and for how many it is asked for in all
abbrev pub session_retry_span : ℕ
session_retry_span = 5

abbrev pub max_session_wait : ℕ
max_session_wait = 5000

-- ---- what is said

-- to who comes; to who was idle (RFC 5804, 1.2); to who sends what there is no room for (1.3)
abbrev pub session_greeting : List ℕ
session_greeting = reply_octets (capability_reply None)

abbrev pub idle : List ℕ
idle = reply_octets (bye_reply (codes "Idle."))

abbrev pub too_much : List ℕ
too_much = reply_octets (record { lines = []; word = Some Bye; code = Some code.TryLater; text = Some (codes "Too much to hold.") })

-- whether that is the answer to a login that failed: no other answer of the table is spelled so
abbrev pub is_failure : List ℕ → Bool
is_failure octets =
    pointwise nat_eq octets (reply_octets (negative_reply None (codes "Authentication failed.")))
    || pointwise nat_eq octets (reply_octets (bye_reply (codes "Too many failures.")))

-- an answer is said at once, but for that to a login that failed; a refusal is not said
abbrev pub said_at_once : Answer → List ℕ
said_at_once (Out progress octets) = if is_failure octets then [] else octets
said_at_once _ = []

abbrev pub answer_octets : Answer → List ℕ
answer_octets (Out progress octets) = octets
answer_octets _ = []

-- what is said with a note, by what was waited for
abbrev pub said_with : SessionWait → Note → List ℕ
said_with w (Did others event answer) = said_at_once answer
said_with w (Freed event answer) = said_at_once answer
said_with (waits.Reply until text) Spoke = text
said_with w Answered = too_much
said_with w _ = []

-- ---- what is waited for then

-- a login that failed waits for its moment, a command that was refused for its answer
abbrev pub waits_after : ℕ → Answer → SessionWait
waits_after now (Out progress octets) = if is_failure octets then waits.Reply (after_span now login_delay) octets else waits.Nothing
waits_after now (Refused refusal) = waits.Refused
waits_after now _ = waits.Nothing

-- since when the store is asked for
abbrev pub session_asked_since : ℕ → SessionWait → ℕ
session_asked_since now (waits.Store since again) = since
session_asked_since now _ = now

-- what a connection waits for after a note of it
abbrev pub waits_behind : ℕ → SessionWait → Note → SessionWait
waits_behind now w (Did others event answer) = waits_after now answer
waits_behind now w (Freed event answer) = waits_after now answer
waits_behind now w Away = waits.Store (session_asked_since now w) (after_span now session_retry_span)
waits_behind now w _ = waits.Nothing

-- ---- what may be done

-- the store may be asked for what comes first: if nothing is waited for, or the store, for less than five seconds
abbrev pub SessionMayAsk : ℕ → SessionWait → Type 0
SessionMayAsk now waits.Nothing = Unit {0}
SessionMayAsk now (waits.Store since again) = now < since + max_session_wait
SessionMayAsk now _ = ⊥

-- what comes first may be given up: if the store was asked for it for five seconds, or refused it
abbrev pub MayGiveUp : ℕ → SessionWait → Type 0
MayGiveUp now (waits.Store since again) = since + max_session_wait ≤ now
MayGiveUp now waits.Refused = Unit {0}
MayGiveUp now _ = ⊥

-- what comes first is stepped at once, as it asks no store, or given up
abbrev pub AllowsFreed : ℕ → SessionWait → ℕ → Event → Answer → Type 0
AllowsFreed now w id (Step n) answer = SessionMayAsk now w × (n ≡ id) × IsMade answer
AllowsFreed now w id (GiveUp n) answer = MayGiveUp now w × (n ≡ id)
AllowsFreed now w id event answer = ⊥

-- at a moment, for a connection that waits so: what comes first is stepped by the store, or that is away; or it is stepped at once, or
-- given up; or what was kept back is said, at its moment; or it is told that there was no room, if it waits for nothing
abbrev pub Allows : ℕ → SessionWait → ℕ → Note → Type 0
Allows now w id (Did others event answer) = SessionMayAsk now w × (event ≡ Step id)
Allows now w id Away = SessionMayAsk now w
Allows now w id (Freed event answer) = AllowsFreed now w id event answer
Allows now (waits.Reply until text) id Spoke = until ≤ now
Allows now waits.Nothing id Answered = Unit {0}
Allows now w id note = ⊥

-- something was kept back
abbrev pub IsReplyKeptBack : SessionWait → Type 0
IsReplyKeptBack (waits.Reply until text) = Unit {0}
IsReplyKeptBack _ = ⊥

-- its moment has come, if one is waited for
abbrev pub IsDue : ℕ → SessionWait → Type 0
IsDue now (waits.Reply until text) = until ≤ now
IsDue now w = Unit {0}
