-- Whether the store is held, when it is given back, and when a message moves on.
use Rattle.std.specs.Prelude.{ℕ, ◌+◌, ◌==◌, ◌&&◌, ◌||◌, min, not, nat_le, nat_lt, Bool, true, false, Option, Some, None, if◌then◌else◌}
use Rattle.net_loop.specs.Talk.{after_span}
use Rattle.maildir_moves.specs.declared.moving.MovePause.{MovePause}
use Rattle.daemon_core.specs.declared.daemon.Holding.{Holding}
use Rattle.daemon_core.specs.declared.note.Note.{Note}
use Rattle.daemon_core.specs.declared.note.Note.TheVariants.{Did, Asked}

-- one event more; at most ten are counted
abbrev pub counted_events : ℕ → ℕ
counted_events events = if nat_lt events 10 then events + 1 else 10

-- after an event that asked the store it is held, it is looked at once whether somebody waits for it, and it is looked for mail
abbrev pub asked_at : ℕ → Holding → Holding
asked_at now h = record { is_held = true; look = now; asked = now; moves = h.moves; next = now; soon = h.soon; events = counted_events h.events }

-- the same after so many at once
abbrev pub counted_by : ℕ → ℕ → ℕ
counted_by count events = min (events + count) 10

abbrev pub asked_by : ℕ → ℕ → Holding → Holding
asked_by count now h = record (asked_at now h) { events = counted_by count h.events }

abbrev pub holding_behind : ℕ → Note → Holding → Holding
holding_behind now (Did others event answer) h = asked_at now h
holding_behind now (Asked others user lookup) h = asked_at now h
holding_behind now _ h = h

-- ---- the store is given back

-- how many milliseconds pass from one look whether somebody waits for the store to the next, and how many without an event that asked it
-- before it is given back at the latest
abbrev pub look_span : ℕ
look_span = 20

abbrev pub max_rest : ℕ
max_rest = 10000

abbrev pub is_look_due : Holding → ℕ → Bool
is_look_due h now = h.is_held && nat_le h.look now

-- nobody asked for that long
abbrev pub is_rested : Holding → ℕ → Bool
is_rested h now = nat_le (after_span h.asked max_rest) now

-- it was looked; if the store was given back it is looked for mail 50 ms later, and if nobody asked it a minute later
abbrev pub again_span : ℕ
again_span = 50

abbrev pub look_span_by : Bool → ℕ
look_span_by rests = if rests then 60000 else again_span

abbrev pub holding_looked : Holding → ℕ → Bool → Bool → Holding
holding_looked h now rests given = if given then record h { is_held = false; next = after_span now (look_span_by rests); soon = not rests } else record h { look = after_span now look_span }

-- ---- a message moves on

-- for so many milliseconds no event asked the store, from the look behind the last one; the time that this took itself isn't counted
abbrev pub lull_span : ℕ
lull_span = 2

abbrev pub is_lull : Holding → ℕ → Bool
is_lull h now = not h.is_held || (nat_lt h.asked h.look && nat_le (after_span h.look lull_span) (after_span now look_span))

-- whose turn it is: no event asked the store since the last message, or ten did, or none for a while
abbrev pub is_turn : Holding → ℕ → Bool
is_turn h now = h.events == 0 || (nat_le 10 h.events || is_lull h now)

abbrev pub is_move_due : Holding → ℕ → Bool
is_move_due h now = h.moves && (nat_le h.next now && is_turn h now)

-- as many events are counted after a step of a batch as let the next one follow, whatever comes between
abbrev pub events_behind : Bool → ℕ
events_behind goes_on = if goes_on then 10 else 0

-- one was to move: for how long none is to; or the store wasn't available, and it is asked for 50 ms later
abbrev pub holding_moved : Holding → ℕ → Option MovePause → Holding
holding_moved h now (Some pause) =
    record { is_held = true; look = now; asked = now; moves = h.moves; next = after_span now pause.span; soon = false; events = events_behind pause.goes_on }
holding_moved h now None = record h { next = after_span now again_span; soon = true }

abbrev pub has_work : Holding → ℕ → Bool
has_work h now = is_look_due h now || is_move_due h now

-- ---- for how many milliseconds it may rest

-- the next message is to move at once, or the next step of a batch follows
abbrev pub is_moving : Holding → Bool
is_moving h = h.moves && ((h.events == 0 || nat_le 10 h.events) && nat_le h.next h.asked)

-- one is to move soon, and the store isn't held
abbrev pub patience_away : Holding → ℕ
patience_away h = if h.moves && h.soon then again_span else 1000

-- the store is held: it is looked whether somebody waits, or mail moves that came with the last events
abbrev pub patience_had : Holding → ℕ
patience_had h = if h.moves && not (h.events == 0) then lull_span else look_span

abbrev pub patience_by : Holding → ℕ
patience_by h = if h.is_held then (if is_moving h then 0 else patience_had h) else patience_away h
